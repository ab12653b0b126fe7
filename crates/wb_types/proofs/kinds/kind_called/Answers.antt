use Rattle.std.proofs.Common.{None, refl}
use Rattle.wb_types.specs.Inner.Nodes.{CallsKind}
use Rattle.wb_types.proofs.AtLemmas.{never_both, none_exact, some_exact}
use Rattle.wb_types.proofs.OperationLemmas.{unknown_none, operation_within, calls_exact, calls_gives, gives_calls}
use Rattle.wb_types.proofs.kinds.kind_called.Goals as goal

pub returns-in_err-number : goal.returns-in_err-number
returns-in_err-number c =
    none_exact c.from_residual.result (CallsKind c.args.operations.now c.args.kinds.now c.args.name.now c.args.arguments.now)
    c.from_residual.ensures
    (λ is calls. unknown_none c.args.operations.now c.args.name.now calls.number calls.signature c.in_err-number.ensures.none
    calls.listed calls.named)

pub returns-then-not-are_at : goal.returns-then-not-are_at
returns-then-not-are_at c =
    none_exact None (CallsKind c.args.operations.now c.args.kinds.now c.args.name.now c.args.arguments.now) refl
    (λ is calls. never_both c.are_at.result c.if-not-are_at.true (c.are_at.ensures.1
    (calls_exact c.args.operations.now c.args.kinds.now c.args.name.now c.args.arguments.now c.in_ok-number.number c.takes.result.now
    c.in_ok-number.ensures.different c.in_ok-number.ensures.found c.takes.ensures is calls)))

pub gives-requires : goal.gives-requires
gives-requires c = operation_within c.args.operations.now c.args.name.now c.in_ok-number.number c.in_ok-number.ensures.found

pub returns : goal.returns
returns c =
    some_exact c.gives.result (CallsKind c.args.operations.now c.args.kinds.now c.args.name.now c.args.arguments.now)
    (gives_calls c.args.operations.now c.args.kinds.now c.args.name.now c.args.arguments.now c.in_ok-number.number c.takes.result.now
    c.gives.result c.in_ok-number.ensures.found c.takes.ensures c.gives.ensures (c.are_at.ensures.0 c.if-not-are_at.false))
    (calls_gives c.args.operations.now c.args.kinds.now c.args.name.now c.args.arguments.now c.in_ok-number.number c.gives.result
    c.in_ok-number.ensures.different c.in_ok-number.ensures.found c.gives.ensures)
