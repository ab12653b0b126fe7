-- The parts of the union's language, as they are made.
use Rattle.std.specs.Prelude.{◌≡◌, ℕ, List, Option, []}
use Rattle.wb_automata.specs.Automata.{IsMatch}
use Rattle.wb_base.specs.Grammar.{GrammarView}
use Rattle.wb_scan_theory.specs.Languages.{LanguageView}
use Rattle.wb_scan_theory.specs.Parts.{AreLanguageParts}
use Rattle.wb_determinism_contexts.specs.declared.parts.Parts.{Parts}
use Rattle.wb_lookahead.specs.Contents.{size_of}
use Rattle.wb_scan.specs.Views.{language_in}
use Rattle.wb_compose_theory_language.specs.Languages.{AreForms}
use Rattle.wb_compose_language.specs.declared.addition.Lent.{Lent}
use Rattle.wb_compose_language.specs.Expressions.{AreExpressions, layout_in}
use Rattle.wb_compose_language.specs.Lents.{all_in, own_in}
use Rattle.wb_compose_language.specs.declared.united.Made.{Made}
use Rattle.wb_compose_language.specs.declared.united.Scanned.{Scanned}
use Rattle.wb_compose_language.specs.declared.united.Written.{Written}
use Rattle.wb_compose_language.specs.Inner.Layouts.{AreSpansBelow, layouts_in}
use Rattle.wb_compose_language.specs.Inner.Rows.{ArePreferences}
use Rattle.wb_compose_language.specs.Inner.Sets.{AreFormSets}
use Rattle.wb_compose_language.specs.United.{HasWithdrawn, IsUnion}

-- the forms are those of the union, each with its expression, which matches some text; withdrawn markers are listed; and the automaton is
-- that of the expressions, with what is considered at each state where layout has these productions
pub record IsScanned (lent : Lent) (parts : Parts) (spans : List (Option (ℕ × ℕ))) (scanned : Scanned) : Type 0 where
  pub forms : AreForms lent.grammar.now lent.extensible.now (own_in lent) (all_in lent) scanned.forms.items
  pub expressions : AreExpressions lent scanned.forms.items scanned.automaton.terminals
  pub no_empty : (place : ℕ) → ¬ IsMatch scanned.automaton.terminals place []
  pub withdrawn : HasWithdrawn lent scanned.withdrawn.items
  pub sets : AreFormSets parts.kernels parts.tables scanned.forms.items spans (size_of parts.tables) scanned.automaton.sets

-- layout, the productions by which it is considered, and preferences are those of the union too
pub record IsWrittenBy (lent : Lent) (parts : Parts) (written : Written) : Type 0 where
  pub layout : written.rows.layout.items ≡ layout_in lent
  pub spans : AreSpansBelow lent (layouts_in lent) written.rows.spans.items
  pub preferences : ArePreferences lent written.rows.preferences.items
  pub scanned : IsScanned lent parts written.rows.spans.items written.scanned

-- the language of this grammar and of what is made
abbrev pub language_of : GrammarView → Made → LanguageView
language_of g made =
    language_in g made.scanned.forms.items made.rows.layout.items made.rows.spans.items made.scanned.automaton.terminals
    made.rows.preferences.items

-- it is the language of the union, and has these tables and this automaton
pub record IsMade (lent : Lent) (g : GrammarView) (made : Made) : Type 0 where
  pub parts : AreLanguageParts (language_of g made) made.tables made.scanned.automaton
  pub union : IsUnion lent (language_of g made)
  pub withdrawn : HasWithdrawn lent made.scanned.withdrawn.items
