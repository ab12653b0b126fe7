use Rattle.wb_types.proofs.OperationLemmas.{operation_within}
use Rattle.wb_explain_mismatches.proofs.OperationLemmas.{calls}
use Rattle.wb_explain_mismatches.proofs.kinds.kind_called.Goals as goal

pub gives-requires : goal.gives-requires
gives-requires c = operation_within c.args.operations.now c.args.name.now c.in_ok-number.number c.in_ok-number.ensures.found

pub returns : goal.returns
returns c =
    calls c.args.operations.now c.args.kinds.now c.args.name.now c.args.arguments.now c.in_ok-number.number c.takes.result.now
    c.gives.result c.in_ok-number.ensures.found c.takes.ensures c.gives.ensures (c.are_at.ensures c.if-not-are_at.false)
