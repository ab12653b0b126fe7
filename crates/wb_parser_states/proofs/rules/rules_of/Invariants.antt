use Rattle.std.proofs.Common.{◌≡◌, ℕ, length, Some}
use Rattle.std.specs.Prelude.{slice_get}
use Rattle.wb_parser_states.specs.declared.rules.Rule.{Rule}
use Rattle.wb_parser_states.specs.Rules.{IsRule}
use Rattle.wb_parser_states.proofs.rules.rules_of.Given as goal

abbrev pub invariant-productions : goal.invariant-productions
invariant-productions l = record {
  count : length l.rules.items ≡ l.production;
  each : (p : ℕ) (rule : Rule) → slice_get l.rules.items p ≡ Some rule → IsRule l.grammar p rule;
}
