-- Left sides and widths of productions, as a list of their own.
use Rattle.std.specs.Prelude.{◌≡◌, ◌<◌, ℕ, List, Some, length, slice_get}
use Rattle.wb_base.specs.declared.symbol.Symbol.{Symbol}
use Rattle.wb_base.specs.Grammar.{GrammarView}
use Rattle.wb_grammar_theory.specs.Productions.{IsProduction}
use Rattle.wb_parser_states.specs.declared.rules.Rule.{Rule}

-- the left side of the production, and how many symbols are on its right
pub record IsRule (g : GrammarView) (p : ℕ) (rule : Rule) : Type 0 where
  pub right : List Symbol
  pub is : IsProduction g p rule.left right
  pub width_is : rule.width ≡ length right
  pub below : rule.left < g.nonterminals

-- those of each production, in order
pub record AreRules (g : GrammarView) (rules : List Rule) : Type 0 where
  pub count : length rules ≡ length g.productions
  pub each : (p : ℕ) (rule : Rule) → slice_get rules p ≡ Some rule → IsRule g p rule
