use Rattle.std.proofs.Common.{◌≡◌, [], take}
use Rattle.wb_eval_rules.specs.Code.{instructions}
use Rattle.wb_eval_rules.specs.Inner.Emitted.{emitted}
use Rattle.wb_eval_rules.proofs.code.compile.Given as goal

abbrev pub invariant-nodes : goal.invariant-nodes
invariant-nodes l = instructions l.ops.items ≡ emitted l.signatures [] (take l.node-index l.nodes)
