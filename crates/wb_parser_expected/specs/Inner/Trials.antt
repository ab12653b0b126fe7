-- Stacks on which the machine stands before a terminal, and what it can do on the terminal after them.
use Rattle.std.specs.Prelude.{◌≡◌, ◌<◌, ◌++◌, ◌∷◌, ℕ, List, [], All, take}
use Rattle.wb_base.specs.declared.symbol.Symbol.TheVariants.{Terminal, Nonterminal}
use Rattle.wb_base.specs.Grammar.{GrammarView}
use Rattle.wb_grammar_theory.specs.Items.{IsViablePrefix}
use Rattle.wb_grammar_theory.specs.Lookaheads.{CanShift, CanReduce}
use Rattle.wb_grammar_theory.specs.Productions.{end_of}
use Rattle.wb_grammar_theory.specs.Trees.{Forest, IsDerived, leaves, symbols}
use Rattle.wb_lookahead.specs.Contents.{TablesView, size_of}
use Rattle.wb_scan_theory.specs.Facts.{IsLanguage}
use Rattle.wb_scan_theory.specs.Machine.{Follows}
use Rattle.wb_scan_theory.specs.Parts.{AreTablesOf, IsPrefixOf}
use Rattle.wb_scan.specs.Views.{LanguageParts}
use Rattle.wb_parser_states.specs.declared.rules.Rule.{Rule}
use Rattle.wb_parser_states.specs.Rules.{IsRule}
use Rattle.wb_parser_states.specs.Stacks.{AreStates, IsMoved}
use Rattle.wb_parser_states.specs.declared.outcome.Outcome.{Outcome}
use Rattle.wb_parser_states.specs.declared.outcome.Outcome.TheVariants.{Shifts, Accepts, Stops}

-- the states are those of the stack, whose symbols are a viable prefix, and each tree that begins with its leaves' terminals and then has
-- the terminal passes through it
pub record Stands (g : GrammarView) (tables : TablesView) (states : List ℕ) (stack : Forest) (t : ℕ) : Type 0 where
  pub states_are : AreStates g tables [] states stack
  pub derived : IsDerived g stack
  pub viable : IsViablePrefix g (symbols stack)
  pub follows : Follows g stack t

-- on the terminal the machine goes from the one stack to another over the same leaves
pub record Reaches (g : GrammarView) (tables : TablesView) (t : ℕ) (stack : Forest) (states : List ℕ) : Type 0 where
  pub stack' : Forest
  pub stands : Stands g tables states stack' t
  pub leaves_are : leaves [] stack' ≡ leaves [] stack

-- the terminal can be shifted there, and leads to the state
pub record CanGo (g : GrammarView) (tables : TablesView) (t : ℕ) (stack : Forest) (states : List ℕ) (target : ℕ) : Type 0 where
  pub reaches : Reaches g tables t stack states
  pub can : CanShift g (symbols reaches.stack') t
  pub goes : IsPrefixOf g tables target (symbols reaches.stack' ++ Terminal t ∷ [])

-- the stack there is the start, and the terminal is the end of the text
pub record IsWhole (g : GrammarView) (tables : TablesView) (t : ℕ) (stack : Forest) (states : List ℕ) : Type 0 where
  pub reaches : Reaches g tables t stack states
  pub is_end : t ≡ end_of g
  pub root : symbols reaches.stack' ≡ Nonterminal g.start ∷ []

-- there is nothing to shift and nothing to reduce
pub record IsStuck (g : GrammarView) (tables : TablesView) (t : ℕ) (stack : Forest) (states : List ℕ) : Type 0 where
  pub reaches : Reaches g tables t stack states
  pub no_shift : ¬ CanShift g (symbols reaches.stack') t
  pub no_reduction : (p : ℕ) → ¬ CanReduce g (symbols reaches.stack') p t

-- what an outcome says
abbrev pub IsOutcomeOn : GrammarView → TablesView → ℕ → Forest → List ℕ → Outcome → Type 0
IsOutcomeOn g tables t stack states (Shifts target) = CanGo g tables t stack states target
IsOutcomeOn g tables t stack states Accepts = IsWhole g tables t stack states
IsOutcomeOn g tables t stack states Stops = IsStuck g tables t stack states

-- what it says of each stack of which these are the states
abbrev pub IsTried : LanguageParts → ℕ → List ℕ → List ℕ → Outcome → Type 0
IsTried parts t states states' outcome =
    (stack : Forest) → Stands parts.language.grammar parts.tables states stack t →
    IsOutcomeOn parts.language.grammar parts.tables t stack states' outcome

-- each stack of which the one states are leads to one of which the others are
abbrev pub Leads : LanguageParts → ℕ → List ℕ → List ℕ → Type 0
Leads parts t states states' =
    (stack : Forest) → Stands parts.language.grammar parts.tables states stack t →
    Reaches parts.language.grammar parts.tables t stack states'

-- the states of which the first ones are kept, with further ones after them
abbrev pub over : ℕ → List ℕ → List ℕ → List ℕ
over kept states extra = take kept states ++ extra

-- the parts are a language with its tables
pub record HasTables (parts : LanguageParts) : Type 0 where
  pub language : IsLanguage parts.language
  pub tables_of : AreTablesOf parts.language.grammar parts.tables

-- states are those of the tables
abbrev pub AreBelow : LanguageParts → List ℕ → Type 0
AreBelow parts states = All (λ s. s < size_of parts.tables) states

-- a reduction by the production moved the states
abbrev pub IsMovedBy : LanguageParts → ℕ → List ℕ → List ℕ → Type 0
IsMovedBy parts p states states' =
    (rule : Rule) × IsRule parts.language.grammar p rule × IsMoved parts.tables states rule.width rule.left states'
