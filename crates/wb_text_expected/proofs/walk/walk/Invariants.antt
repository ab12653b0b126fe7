use Rattle.std.proofs.Common.{◌≤◌, ◌<◌, ◌-◌, List, All, length, reverse}
use Rattle.wb_text_predictive.specs.declared.table.Placed.{Placed}
use Rattle.wb_text_predictive.specs.Reading.{Spells}
use Rattle.wb_text_predictive.specs.Stack.{Any}
use Rattle.wb_text_expected.specs.Inner.Bare.{StandsBare}
use Rattle.wb_text_expected.proofs.walk.walk.Given as goal

abbrev pub invariant-tokens : goal.invariant-tokens
invariant-tokens g l = record {
  within : l.from ≤ length l.text;
  front : List (Placed g.row.T-Token.Denot);
  spelled : Spells (g.T.Table.IsNext l.table l.text) 0 front l.from;
  before : All (λ x. x.at < l.at) front;
  row : StandsBare g.T.Kind.PartialEq.eq g.T.Table.end_kind g.T.Table.entries g.T.Table.grammar front (reverse l.stack.items) Any;
}

abbrev pub decreases-tokens : goal.decreases-tokens
decreases-tokens g l = length l.text - l.from
