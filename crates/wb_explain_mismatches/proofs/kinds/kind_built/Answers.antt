use Rattle.std.proofs.Common.{◌<◌, subst}
use Rattle.wb_explain_mismatches.proofs.OperationLemmas.{builds}
use Rattle.wb_explain_mismatches.proofs.kinds.kind_built.Goals as goal

pub returns : goal.returns
returns c =
    builds c.args.signatures.now c.args.kinds.now c.args.production c.args.children.now c.children.result.now c.left.result
    (subst (λ z. c.args.production < z) c.len.ensures c.if-production-len.false) c.children.ensures c.left.ensures
    (c.are_at.ensures c.if-not-are_at.false)
