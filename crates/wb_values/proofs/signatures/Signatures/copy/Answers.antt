use Rattle.std.proofs.Common.{◌<◌, length, arith, ◌∙◌}
use Rattle.std.proofs.lemmas.List.{take_all}
use Rattle.wb_values.proofs.SignatureLemmas.{copy-step}
use Rattle.wb_values.proofs.signatures.Signatures.copy.Goals as goal

pub returns : goal.returns
returns c = c.loop-production.invariant ∙ take_all c.loop-production.production c.args.self.now
    (omega (arith, c.len-production-end.ensures, c.loop-production-test.false))

pub loop-production-preserved : goal.loop-production-preserved
loop-production-preserved c =
    let lt : c.loop-production.production < length c.args.self.now = omega
    (arith, c.len-production-end.ensures, c.loop-production-test.true) in
    copy-step c.args.self.now c.loop-production.made c.add.new.self c.loop-production.production
    (record { name = c.name.result.now; left = c.left.result; children = c.children.result.now })
    c.loop-production.invariant lt c.name.ensures c.left.ensures c.children.ensures c.in_ok-add.ensures.ok
