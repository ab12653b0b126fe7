use Rattle.std.proofs.Common.{All, take}
use Rattle.wb_types.specs.Rules.{HasArity}
use Rattle.wb_types.proofs.check.have_arities.Given as goal

abbrev pub invariant-nodes : goal.invariant-nodes
invariant-nodes l = All (HasArity l.context.attributes.now l.context.operations.now) (take l.node-index l.nodes)
