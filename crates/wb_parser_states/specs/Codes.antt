-- Actions as numbers, and those that are kept by state and terminal.
use Rattle.std.specs.Prelude.{◌≡◌, ◌≢◌, ◌≤◌, ◌+◌, ◌*◌, ◌/◌, ◌%◌, ℕ, zero, suc, Some, length, slice_get}
use Rattle.wb_base.specs.Grammar.{GrammarView}
use Rattle.wb_lookahead.specs.declared.action.Action.{Action}
use Rattle.wb_lookahead.specs.Contents.{TablesView, action_of}
use Rattle.wb_parser_states.specs.declared.chains.RuleAction.{RuleAction}
use Rattle.wb_parser_states.specs.declared.chains.RuleAction.TheVariants as shown
use Rattle.wb_parser_states.specs.declared.codes.Codes.{Codes}
use Rattle.wb_parser_states.specs.Chains.{IsRuleAction}

-- the action of a kind with a number: a state; or a left side below 2^20, with the width above it
abbrev pub of_kind : ℕ → ℕ → RuleAction
of_kind zero number = shown.Shift number
of_kind (suc _) number = shown.Reduce (record { left = number % 1048576; width = number / 1048576 })

-- the action that a code stands for: twice a number, and a kind
abbrev pub action_in : ℕ → RuleAction
action_in code = of_kind (code % 2) (code / 2)

-- a code stands for the action, unless it is 0, which stands for none that is known
abbrev pub IsCodeOf : GrammarView → Action → ℕ → Type 0
IsCodeOf g action code = code ≢ 0 → IsRuleAction g action (action_in code)

-- there is a row for each of the first states, with a code for each terminal and one for the end of a text, each of the action there
pub record AreCodes (g : GrammarView) (tables : TablesView) (codes : Codes) : Type 0 where
  pub width : codes.width ≡ g.terminals + 1
  pub size : length codes.list.items ≡ codes.rows * codes.width
  pub each : (state terminal code : ℕ) → terminal ≤ g.terminals →
      slice_get codes.list.items (state * codes.width + terminal) ≡ Some code → IsCodeOf g (action_of tables state terminal) code
