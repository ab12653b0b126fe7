-- What a walk over a text learns where it ends without a marker: that there is none.
use Rattle.std.proofs.Common.{◌≡◌, ◌∙◌, ◌++◌, ◌∷◌, ℕ, Bool, List, [], ap, append_assoc, refl, sym, subst}
use Rattle.wb_base.specs.declared.symbol.Symbol.{Symbol}
use Rattle.wb_base.specs.Grammar.{GrammarView}
use Rattle.wb_termset.specs.Sets.{IsMember}
use Rattle.wb_grammar_theory.specs.Productions.{end_of}
use Rattle.wb_grammar_theory.specs.Trees.{DerivationTree, Forest, Leaf, leaves, symbols}
use Rattle.wb_grammar_theory.specs.Lookaheads.{CanReduce, CanShift}
use Rattle.wb_scan_theory.specs.Facts.{IsLanguage}
use Rattle.wb_scan_theory.specs.Languages.{LanguageView}
use Rattle.wb_scan_theory.specs.Machine.{Accepts, Keeps, accept, ahead, reduce, shift}
use Rattle.wb_scan_theory.specs.Tokens.{Next, NextToken, token}
use Rattle.wb_scan_theory.proofs.BackLemmas.{whole}
use Rattle.wb_scan_theory.proofs.FactLemmas.{has_trees}
use Rattle.wb_scan_theory.proofs.TextLemmas.{is_one}
use Rattle.wb_scan_theory.proofs.UniqueLemmas.{elsewhere, equal, longer, same_token, shorter, two_readings}
use Rattle.wb_reading_theory.specs.Markers.{HasNoMarker, IsPlain}
use Rattle.wb_reading_theory.proofs.MarkerLemmas.{no_leaf}

-- where nothing can be shifted and nothing reduced, the machine doesn't go on to a leaf of the terminal
stuck_at : (g : GrammarView) (stack : Forest) (t : ℕ) → (CanShift g (symbols stack) t → ⊥) →
    ((p : ℕ) → CanReduce g (symbols stack) p t → ⊥) → {through tree : Forest} {input : List Leaf} → Accepts g through input tree →
    symbols through ≡ symbols stack → (x : Leaf) (more : List Leaf) → input ≡ x ∷ more → x.terminal ≡ t → ⊥
stuck_at g stack t no_shift no_reduction (accept c) same x more e is = cc
stuck_at g stack t no_shift no_reduction (shift y {stack = through} c f r) same x more e is =
    let h : y ≡ x = cc in
    no_shift (subst (λ z. CanShift g z t) same
    (subst (λ z. CanShift g (symbols through) z) (ap (λ (z : Leaf). z.terminal) h ∙ is) c))
stuck_at g stack t no_shift no_reduction (reduce q b below children {stack = through} f rule can r) same x more e is =
    no_reduction q (subst (λ z. CanReduce g z q t) same
    (subst (λ z. CanReduce g (symbols through) q z) (ap (ahead (end_of g)) e ∙ is) can))

module _ (u : LanguageView) (markers : List Bool) (ok : IsLanguage u) (text : List ℕ) (stack : Forest) (prefix : List Symbol) (from : ℕ)
    (keeps : Keeps u.grammar (NextToken u text) stack prefix from) (plain : HasNoMarker markers (leaves [] stack)) where
  -- where what is next after leaves without markers is no marker, and no leaf with which a tree goes on, there is none
  rest_plain : (found : Next) → NextToken u text prefix from found →
      ((begin t : ℕ) (lexeme : List ℕ) (after : ℕ) → found ≡ token begin t lexeme after → ¬ IsMember markers t) →
      ((x : Leaf) (more : List Leaf) (tree : Forest) → DerivationTree u.grammar tree → leaves [] tree ≡ leaves [] stack ++ x ∷ more →
      (begin after : ℕ) → found ≡ token begin x.terminal x.text after → ⊥) → IsPlain u markers text
  rest_plain found n unmarked not_on at marker m =
      let w = whole u.grammar (has_trees u.grammar ok.deterministic) stack keeps.derived keeps.is_prefix in
      elim (two_readings u.grammar ok.deterministic.no_conflict (NextToken u text) (is_one u ok text) m.tree w.tree m.is_tree w.is_tree
      m.read m.rest (leaves [] stack) w.rest m.is w.is m.prefix m.from prefix from m.on_text keeps.on_text) [
        | equal e f g ↦
            let there = elsewhere (NextToken u text) m.prefix prefix m.from from (token at marker m.lexeme m.after) f g m.is_next in
            unmarked at marker m.lexeme m.after (is_one u ok text prefix from found (token at marker m.lexeme m.after) n there) m.marks
        | longer begin after y more e next ↦
            let same = is_one u ok text m.prefix m.from (token at marker m.lexeme m.after) (token begin y.terminal y.text after) m.is_next
            next in
            let both = same_token at begin marker y.terminal m.lexeme y.text m.after after same in
            no_leaf markers m.read more y (leaves [] stack) e plain (subst (IsMember markers) both.terminals m.marks)
        | shorter begin after x more e next ↦
            not_on x (more ++ m.rest) m.tree m.is_tree
            (m.is ∙ (ap (λ z. z ++ m.rest) e ∙ append_assoc (leaves [] stack) (x ∷ more) m.rest)) begin after
            (is_one u ok text prefix from found (token begin x.terminal x.text after) n next)
      ]

  -- where no token is next, there is none
  pub ended_plain : (found : Next) → NextToken u text prefix from found →
      ((begin t : ℕ) (lexeme : List ℕ) (after : ℕ) → found ≡ token begin t lexeme after → ⊥) → IsPlain u markers text
  ended_plain found n no_token =
      rest_plain found n (λ begin t lexeme after e. absurd (no_token begin t lexeme after e))
      (λ x more tree is e begin after same. no_token begin x.terminal x.text after same)

  -- where no marker is next, and what is next can neither be shifted nor be reduced before, there is none
  pub stuck_plain : (begin t : ℕ) (lexeme : List ℕ) (after : ℕ) → NextToken u text prefix from (token begin t lexeme after) →
      ¬ IsMember markers t → (CanShift u.grammar (symbols stack) t → ⊥) → ((p : ℕ) → CanReduce u.grammar (symbols stack) p t → ⊥) →
      IsPlain u markers text
  stuck_plain begin t lexeme after n unmarked no_shift no_reduction =
      rest_plain (token begin t lexeme after) n
      (λ b v m i e. subst (λ z. ¬ IsMember markers z) (same_token begin b t v lexeme m after i e).terminals unmarked)
      (λ x more tree is e b i same.
      let x_is : x.terminal ≡ t = sym (same_token begin b t x.terminal lexeme x.text after i same).terminals in
      let passes = keeps.follows (token begin t lexeme after) t begin n (refl, refl) tree (leaves [] stack) (x ∷ more) is e refl x_is in
      stuck_at u.grammar stack t no_shift no_reduction passes.goes_on passes.same x more refl x_is)
