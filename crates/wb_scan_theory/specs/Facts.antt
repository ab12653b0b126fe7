-- What holds of a language on which texts are parsed.
use Rattle.std.specs.Prelude.{◌≡◌, ◌≢◌, ◌<◌, ◌⊎◌, ◌+◌, ℕ, List, [], ◌++◌, length, slice_get, Some}
use Rattle.wb_base.specs.declared.symbol.Symbol.{Symbol}
use Rattle.wb_base.specs.Grammar.{GrammarView, IsGrammar}
use Rattle.wb_grammar_theory.specs.Items.{IsViablePrefix}
use Rattle.wb_grammar_theory.specs.Shape.{IsReduced}
use Rattle.wb_grammar_theory.specs.Cycles.{HasNoUnitCycle, HasNoHiddenLeftRecursion}
use Rattle.wb_grammar_theory.specs.Lookaheads.{HasNoConflict}
use Rattle.wb_automata.specs.Automata.{IsMatch}
use Rattle.wb_graph.specs.Orders.{IsCycle}
use Rattle.wb_lexical.specs.Clash.{AreOrdered}
use Rattle.wb_scan_theory.specs.declared.form.Form.{Form}
use Rattle.wb_scan_theory.specs.Languages.{LanguageView, forms_of}
use Rattle.wb_scan_theory.specs.Winners.{IsConsideredForm, MatchesAt, BeatsAt, Wins}

-- the grammar is reduced, without unit cycle, hidden left recursion and conflict
pub record IsDeterministic (g : GrammarView) : Type 0 where
  pub in_range : IsGrammar g
  pub reduced : IsReduced g
  pub no_unit_cycle : HasNoUnitCycle g
  pub no_hidden_left_recursion : HasNoHiddenLeftRecursion g
  pub no_conflict : HasNoConflict g

-- forms are of the grammar's terminals, layout is numbered on after these, and each form has its expression, which matches only texts
-- that begin with the form's prefix, and not the empty one
pub record IsWritten (l : LanguageView) : Type 0 where
  pub forms_below : (place : ℕ) (form : Form) → slice_get l.forms place ≡ Some form → form.terminal < l.grammar.terminals
  pub layout_numbers : (k t : ℕ) → slice_get l.layout k ≡ Some t → t ≡ l.grammar.terminals + k
  pub expressions_len : length l.expressions ≡ length l.forms + length l.layout
  pub prefixes : (place : ℕ) (form : Form) (text : List ℕ) → slice_get l.forms place ≡ Some form → IsMatch l.expressions place text →
      (lexeme : List ℕ) × (text ≡ form.prefix ++ lexeme)
  pub no_empty : (place : ℕ) → ¬ IsMatch l.expressions place []

-- a form with which some piece of the text is won from the place on
abbrev pub HasWinner : LanguageView → List Symbol → List ℕ → ℕ → Type 0
HasWinner l prefix text at = (place : ℕ) × (piece : List ℕ) × Wins l prefix text at place piece

-- at each prefix and each place of a text at most one form wins, and one does where any that is considered matches
pub record HasOneWinner (l : LanguageView) : Type 0 where
  pub one : (prefix : List Symbol) (text : List ℕ) (at place other : ℕ) (piece same : List ℕ) → Wins l prefix text at place piece →
      Wins l prefix text at other same → place ≡ other
  pub some : (prefix : List Symbol) → IsViablePrefix l.grammar prefix → (text : List ℕ) (at place : ℕ) (piece : List ℕ) →
      MatchesAt l prefix text at place piece → HasWinner l prefix text at

-- a language on which texts are parsed
pub record IsLanguage (l : LanguageView) : Type 0 where
  pub deterministic : IsDeterministic l.grammar
  pub written : IsWritten l
  pub winners : HasOneWinner l

-- of any two forms that are considered at one prefix and match one piece of a text one beats the other, and neither two nor three forms
-- beat each other in a cycle
pub record AreDecided (l : LanguageView) : Type 0 where
  pub pairs : (prefix : List Symbol) → IsViablePrefix l.grammar prefix → (text : List ℕ) (at place other : ℕ) (piece : List ℕ) →
      place ≢ other → MatchesAt l prefix text at place piece → MatchesAt l prefix text at other piece →
      BeatsAt l place other ⊎ BeatsAt l other place
  pub no_two : (p q : ℕ) → BeatsAt l p q → ¬ BeatsAt l q p
  pub no_three : (p q r : ℕ) → BeatsAt l p q → BeatsAt l q r → ¬ BeatsAt l r p

-- every form is bare; preferences form no cycle; and any two forms that are considered at one prefix and match one text are of terminals
-- that a preference orders
pub record AreOrderedForms (l : LanguageView) : Type 0 where
  pub bare : (place : ℕ) (form : Form) → slice_get l.forms place ≡ Some form → form.prefix ≡ []
  pub acyclic : (cycle : List ℕ) → ¬ IsCycle l.preferences cycle
  pub ordered : (prefix : List Symbol) → IsViablePrefix l.grammar prefix → (place other : ℕ) (f g : Form) (text : List ℕ) →
      place ≢ other → slice_get (forms_of l) place ≡ Some f → slice_get (forms_of l) other ≡ Some g →
      IsConsideredForm l prefix place → IsConsideredForm l prefix other → IsMatch l.expressions place text →
      IsMatch l.expressions other text → AreOrdered l.preferences f.terminal g.terminal
