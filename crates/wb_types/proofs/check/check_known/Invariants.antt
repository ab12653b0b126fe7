use Rattle.std.proofs.Common.{All, take}
use Rattle.wb_types.specs.Rules.{IsKnown}
use Rattle.wb_types.proofs.check.check_known.Given as goal

abbrev pub invariant-nodes : goal.invariant-nodes
invariant-nodes l = All (IsKnown l.operations) (take l.node-index l.nodes)
