-- What reductions make of stacks.
use Rattle.std.specs.Prelude.{◌≡◌, ◌-◌, ◌++◌, ◌∷◌, ℕ, List, [], length, min, take}
use Rattle.wb_base.specs.declared.symbol.Symbol.{Symbol}
use Rattle.wb_base.specs.declared.symbol.Symbol.TheVariants.{Terminal, Nonterminal}
use Rattle.wb_grammar_theory.specs.Productions.{IsProduction, end_of, top_of}
use Rattle.wb_grammar_theory.specs.Trees.{Forest, symbols}
use Rattle.wb_grammar_theory.specs.Lookaheads.{CanShift, CanReduce}
use Rattle.wb_values.specs.Tree.{Tree}
use Rattle.wb_values.specs.ValuesIn.{values_in, last}
use Rattle.wb_values.specs.declared.value.TreeId.{TreeId}
use Rattle.wb_values.specs.declared.value.Value.{Value}
use Rattle.wb_values.specs.declared.value.Value.TheVariants as stored
use Rattle.wb_scan_theory.specs.Parts.{IsPrefixOf}
use Rattle.wb_scan.specs.Views.{LanguageParts}
use Rattle.wb_parser_states.specs.Stacks.{IsMoved}
use Rattle.wb_parser_states.specs.declared.outcome.Outcome.{Outcome}
use Rattle.wb_parser_states.specs.declared.outcome.Outcome.TheVariants.{Shifts, Accepts, Stops}
use Rattle.wb_parser.specs.Parses.{Extends}
use Rattle.wb_session_theory.specs.Runs.{Reduces}
use Rattle.wb_session.specs.Stacks.{Roots, LeadsTo, IsStack, IsSound}
use Rattle.wb_session.specs.Inner.Nodes.{IsNode}

-- the one entries, values and trees begin with the others, and are sound
pub record Grows (parts : LanguageParts) (roots roots' : Roots) : Type 0 where
  pub sound : IsSound parts roots'
  pub entries : take (length roots.entries) roots'.entries ≡ roots.entries
  pub values : take (length roots.values) roots'.values ≡ roots.values
  pub trees : Extends roots.trees roots'.trees

-- what a reduction by a production makes of states, values and trees: a tree that is the node of the production over the last values, and
-- the state after its left side, take the places of those values and their states
pub record IsReduced (parts : LanguageParts) (p : ℕ) (states : List ℕ) (vs : List Value) (trees : List Tree)
    (states' : List ℕ) (vs' : List Value) (trees' : List Tree) : Type 0 where
  pub left : ℕ
  pub right : List Symbol
  pub rule : IsProduction parts.language.grammar p left right
  pub width : ℕ
  pub width_is : width ≡ min (length right) (length vs)
  pub moved : IsMoved parts.tables states width left states'
  pub id : TreeId
  pub node : IsNode trees' p (values_in trees (last width vs)) id.0
  pub values_are : vs' ≡ take (length vs - width) vs ++ stored.Tree id ∷ []
  pub trees_are : Extends trees trees'

-- a reduction by the production leads from what the one link leads to, to what the other does
abbrev pub IsMade : LanguageParts → ℕ → Roots → ℕ → Roots → ℕ → Type 0
IsMade parts p roots link roots' link' = (states : List ℕ) (vs : List Value) → LeadsTo roots.entries roots.values link states vs →
    (states' : List ℕ) × (vs' : List Value) × LeadsTo roots'.entries roots'.values link' states' vs' ×
    IsReduced parts p states vs roots.trees states' vs' roots'.trees

-- what can be done with the stack on the terminal
abbrev pub CanBeDone : LanguageParts → ℕ → Forest → Outcome → Type 0
CanBeDone parts t stack (Shifts target) =
    CanShift parts.language.grammar (symbols stack) t ×
    IsPrefixOf parts.language.grammar parts.tables target (symbols stack ++ Terminal t ∷ [])
CanBeDone parts t stack Accepts =
    (t ≡ end_of parts.language.grammar) × CanReduce parts.language.grammar (symbols stack) (top_of parts.language.grammar) t ×
    (symbols stack ≡ Nonterminal parts.language.grammar.start ∷ [])
CanBeDone parts t stack Stops =
    (¬ CanShift parts.language.grammar (symbols stack) t) × ((p : ℕ) → ¬ CanReduce parts.language.grammar (symbols stack) p t)

-- reductions on the terminal lead from each stack of the one link to one of the other
abbrev pub AreMade : LanguageParts → ℕ → Roots → ℕ → Roots → ℕ → Type 0
AreMade parts t roots link roots' link' = (stack : Forest) → IsStack parts roots link stack →
    (reduced : Forest) × Reduces parts.language.grammar [] t stack reduced × IsStack parts roots' link' reduced

-- and the outcome is what can be done there
abbrev pub IsSettled : LanguageParts → ℕ → Roots → ℕ → Roots → ℕ → Outcome → Type 0
IsSettled parts t roots link roots' link' outcome = (stack : Forest) → IsStack parts roots link stack →
    (reduced : Forest) × Reduces parts.language.grammar [] t stack reduced × IsStack parts roots' link' reduced ×
    CanBeDone parts t reduced outcome
