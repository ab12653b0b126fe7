use Rattle.std.proofs.Common.{◌≤◌, ◌-◌, List, length, reverse}
use Rattle.wb_text_predictive.specs.declared.table.Placed.{Placed}
use Rattle.wb_text_predictive.specs.Reading.{Spells}
use Rattle.wb_text_predictive.specs.Stack.{Stands, Any}
use Rattle.wb_text_predictive.proofs.reading.read_all.Given as goal

abbrev pub invariant-read : goal.invariant-read
invariant-read g l = record {
  within : l.from ≤ length l.text;
  read : List (Placed g.row.T-Token.Denot);
  spelled : Spells (g.T.Table.IsNext l.table l.text) 0 read l.from;
  stands : Stands g.T.Kind.PartialEq.eq g.T.Table.end_kind g.T.Table.entries g.T.Table.grammar l.fn.values read
      (reverse l.stack.items) l.made Any;
}

abbrev pub decreases-read : goal.decreases-read
decreases-read g l = length l.text - l.from
