-- There is one first marker.
use Rattle.std.proofs.Common.{◌≡◌, ◌∙◌, ◌++◌, ◌∷◌, ℕ, Bool, List, [], refl, subst, sym}
use Rattle.wb_termset.specs.Sets.{IsMember}
use Rattle.wb_grammar_theory.specs.Trees.{Leaf}
use Rattle.wb_scan_theory.specs.Facts.{IsLanguage}
use Rattle.wb_scan_theory.specs.Languages.{LanguageView}
use Rattle.wb_scan_theory.specs.Tokens.{NextToken, token}
use Rattle.wb_scan_theory.proofs.TextLemmas.{is_one}
use Rattle.wb_scan_theory.proofs.UniqueLemmas.{elsewhere, equal, longer, same_token, shorter, two_readings}
use Rattle.wb_reading_theory.specs.Laws.{HasOneMarker}
use Rattle.wb_reading_theory.specs.Markers.{HasNoMarker, IsMarkerAt}
use Rattle.wb_reading_theory.proofs.TreeLemmas.{plain_right}

-- where tokens begin
begins_same : (b c t v : ℕ) (l m : List ℕ) (i j : ℕ) → token b t l i ≡ token c v m j → b ≡ c
begins_same b c t v l m i j e = cc

-- a leaf that is next among leaves that are no markers is none
pub no_leaf : (markers : List Bool) (read more : List Leaf) (y : Leaf) (also : List Leaf) → also ≡ read ++ y ∷ more →
    HasNoMarker markers also →
    ¬ IsMember markers y.terminal
no_leaf markers read more y also e plain = (plain_right markers read (y ∷ more) (subst (HasNoMarker markers) e plain)).0

pub one_marker : (u : LanguageView) (markers : List Bool) → IsLanguage u → HasOneMarker u markers
one_marker u markers ok text at other marker also a b =
    elim (two_readings u.grammar ok.deterministic.no_conflict (NextToken u text)
    (is_one u ok text) a.tree b.tree a.is_tree b.is_tree a.read a.rest
    b.read b.rest a.is b.is a.prefix a.from b.prefix b.from a.on_text b.on_text) [
      | equal e f g ↦
          let there = elsewhere (NextToken u text) b.prefix a.prefix b.from a.from (token other also b.lexeme b.after) (sym f)
          (sym g) b.is_next in
          let same = is_one u ok text a.prefix a.from (token at marker a.lexeme a.after)
          (token other also b.lexeme b.after) a.is_next there in
          let both = same_token at other marker also a.lexeme b.lexeme a.after b.after same in
          (begins_same at other marker also a.lexeme b.lexeme a.after b.after same, both.terminals)
      | longer begin after y more e n ↦
          let same = is_one u ok text a.prefix a.from (token at marker a.lexeme a.after)
          (token begin y.terminal y.text after) a.is_next n in
          let both = same_token at begin marker y.terminal a.lexeme y.text a.after after same in
          absurd (no_leaf markers a.read more y b.read e b.before (subst (IsMember markers) both.terminals a.marks))
      | shorter begin after x more e n ↦
          let same = is_one u ok text b.prefix b.from (token other also b.lexeme b.after)
          (token begin x.terminal x.text after) b.is_next n in
          let both = same_token other begin also x.terminal b.lexeme x.text b.after after same in
          absurd (no_leaf markers b.read more x a.read e a.before (subst (IsMember markers) both.terminals b.marks))
    ]
