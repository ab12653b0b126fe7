-- What a machine that reads a text leaf by leaf learns of markers: the first one, or that there is none.
use Rattle.std.proofs.Common.{◌≡◌, ◌∙◌, ◌++◌, ◌∷◌, ℕ, Bool, List, [], ap, append_assoc, refl, subst, sym}
use Rattle.wb_base.specs.declared.symbol.Symbol.{Symbol}
use Rattle.wb_base.specs.Grammar.{GrammarView}
use Rattle.wb_termset.specs.Sets.{IsMember}
use Rattle.wb_grammar_theory.specs.Trees.{DerivationTree, Forest, Leaf, leaves}
use Rattle.wb_scan_theory.specs.declared.stop_kind.StopKind.{StopKind}
use Rattle.wb_scan_theory.specs.declared.stop_kind.StopKind.TheVariants.{NoToken, Unexpected}
use Rattle.wb_scan_theory.specs.Facts.{IsLanguage}
use Rattle.wb_scan_theory.specs.Languages.{LanguageView}
use Rattle.wb_scan_theory.specs.Machine.{Keeps}
use Rattle.wb_scan_theory.specs.Readings.{Gives, StopsFor, terminals_of}
use Rattle.wb_scan_theory.specs.Texts.{ParsesTo, StopsAt}
use Rattle.wb_scan_theory.specs.Tokens.{Next, NextToken, missing, over, token}
use Rattle.wb_scan_theory.proofs.BackLemmas.{whole}
use Rattle.wb_scan_theory.proofs.FactLemmas.{has_trees}
use Rattle.wb_scan_theory.proofs.ForestLemmas.{append_nil, terminals_joined}
use Rattle.wb_scan_theory.proofs.TextLemmas.{is_one}
use Rattle.wb_scan_theory.proofs.UniqueLemmas.{elsewhere, equal, longer, same_token, shorter, two_readings}
use Rattle.wb_reading_theory.specs.Markers.{HasNoMarker, IsMarkerAt, IsPlain}
use Rattle.wb_reading_theory.proofs.BeginLemmas.{begins_with}
use Rattle.wb_reading_theory.proofs.MarkerLemmas.{no_leaf}

-- after a stack whose leaves are no markers, a marker that is next is the first one
pub stack_marker : (u : LanguageView) (markers : List Bool) → IsLanguage u →
    (text : List ℕ) (stack : Forest) (prefix : List Symbol) (from : ℕ) →
    Keeps u.grammar (NextToken u text) stack prefix from → HasNoMarker markers (leaves [] stack) →
    (at marker : ℕ) (lexeme : List ℕ) (after : ℕ) →
    NextToken u text prefix from (token at marker lexeme after) → IsMember markers marker → IsMarkerAt u markers text at marker
stack_marker u markers ok text stack prefix from keeps before at marker lexeme after n marks =
    let w = whole u.grammar (has_trees u.grammar ok.deterministic) stack keeps.derived keeps.is_prefix in
    record {
      tree = w.tree;
      is_tree = w.is_tree;
      read = leaves [] stack;
      rest = w.rest;
      is = w.is;
      before = before;
      prefix = prefix;
      from = from;
      on_text = keeps.on_text;
      lexeme = lexeme;
      after = after;
      is_next = n;
      marks = marks;
    }

no_over : (place b t : ℕ) (l : List ℕ) (j : ℕ) → over place ≡ token b t l j → ⊥
no_over place b t l j e = cc

-- a text whose tree has no marker has none
pub tree_plain : (u : LanguageView) (markers : List Bool) → IsLanguage u → (text : List ℕ) (tree : Forest) → ParsesTo u text tree →
    HasNoMarker markers (leaves [] tree) → IsPlain u markers text
tree_plain u markers ok text tree is plain at marker m =
    elim (two_readings u.grammar ok.deterministic.no_conflict (NextToken u text)
    (is_one u ok text) m.tree tree m.is_tree is.is_tree m.read m.rest
    (leaves [] tree) [] m.is (sym (append_nil (leaves [] tree))) m.prefix m.from is.prefix is.at m.on_text is.on_text) [
      | equal e f g ↦
          let there = elsewhere (NextToken u text) is.prefix m.prefix is.at m.from (over is.place) (sym f) (sym g) is.is_over in
          no_over is.place at marker m.lexeme m.after
          (is_one u ok text m.prefix m.from (over is.place) (token at marker m.lexeme m.after) there m.is_next)
      | longer begin after y more e n ↦
          let same = is_one u ok text m.prefix m.from (token at marker m.lexeme m.after)
          (token begin y.terminal y.text after) m.is_next n in
          let both = same_token at begin marker y.terminal m.lexeme y.text m.after after same in
          no_leaf markers m.read more y (leaves [] tree) e plain (subst (IsMember markers) both.terminals m.marks)
      | shorter begin after x more e n ↦
          no_over is.place begin x.terminal x.text after
          (is_one u ok text is.prefix is.at (over is.place) (token begin x.terminal x.text after) is.is_over n)
    ]

-- a leaf that is next, with which some tree goes on, doesn't stop a text
no_stop : (g : GrammarView) (tree : Forest) → DerivationTree g tree → (read : List Leaf) (x : Leaf) (more : List Leaf) →
    leaves [] tree ≡ read ++ x ∷ more → (begin after place : ℕ) (kind : StopKind) (found : Next) →
    found ≡ token begin x.terminal x.text after →
    StopsFor g found (terminals_of read) place kind → ⊥
no_stop g tree is read x more e begin after place NoToken found f stops = let h : missing place ≡ token begin x.terminal x.text after =
    sym stops ∙ f in cc
no_stop g tree is read x more e begin after place (Unexpected t) found f (gives, never) = never (begins_with g tree is (read ++ x ∷ []) more
    (e ∙ sym (append_assoc read (x ∷ []) more)) (terminals_of read ++ t ∷ [])
    (terminals_joined read (x ∷ []) ∙ ap (λ z. terminals_of read ++ z ∷ []) (given found f gives)))
  where
    given : (found : Next) → found ≡ token begin x.terminal x.text after → Gives g found t place → x.terminal ≡ t
    given (token b v l j) same (is, at) = let h : v ≡ x.terminal = cc in sym h ∙ is
    given (over j) same gives = cc
    given (missing j) same gives = absurd gives

-- a text that stops after leaves without markers, and not at a marker, has none
pub stop_plain : (u : LanguageView) (markers : List Bool) → IsLanguage u → (text : List ℕ) (place : ℕ) (kind : StopKind) →
    (s : StopsAt u text place kind) →
    HasNoMarker markers s.read → ((begin t : ℕ) (lexeme : List ℕ) (after : ℕ) → s.found ≡ token begin t lexeme after →
    ¬ IsMember markers t) →
    IsPlain u markers text
stop_plain u markers ok text place kind s plain unmarked at marker m =
    elim (two_readings u.grammar ok.deterministic.no_conflict (NextToken u text)
    (is_one u ok text) m.tree s.tree m.is_tree s.is_tree m.read m.rest
    s.read s.rest m.is s.is m.prefix m.from s.prefix s.at m.on_text s.on_text) [
      | equal e f g ↦
          let there = elsewhere (NextToken u text) m.prefix s.prefix m.from s.at (token at marker m.lexeme m.after) f g m.is_next in
          unmarked at marker m.lexeme m.after
          (is_one u ok text s.prefix s.at s.found (token at marker m.lexeme m.after) s.is_next there) m.marks
      | longer begin after y more e n ↦
          let same = is_one u ok text m.prefix m.from (token at marker m.lexeme m.after)
          (token begin y.terminal y.text after) m.is_next n in
          let both = same_token at begin marker y.terminal m.lexeme y.text m.after after same in
          no_leaf markers m.read more y s.read e plain (subst (IsMember markers) both.terminals m.marks)
      | shorter begin after x more e n ↦
          no_stop u.grammar m.tree m.is_tree s.read x (more ++ m.rest)
          (m.is ∙ (ap (λ z. z ++ m.rest) e ∙ append_assoc s.read (x ∷ more) m.rest)) begin after place kind s.found
          (is_one u ok text s.prefix s.at s.found (token begin x.terminal x.text after) s.is_next n) s.stops
    ]
