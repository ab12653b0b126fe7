use Rattle.std.proofs.Common.{◌<◌, length, arith, ◌∙◌}
use Rattle.std.proofs.lemmas.List.{take_all}
use Rattle.wb_operations.proofs.EntryLemmas.{name-is-new, copy-step, plain-at}
use Rattle.wb_operations.proofs.signatures.OperationSignatures.copy.Goals as goal

pub add-requires-clause-new : goal.add-requires-clause-new
add-requires-clause-new c =
    let lt : c.loop-operation.operation < length c.args.self.now = omega
    (arith, c.len-operation-end.ensures.count, c.loop-operation-test.true) in
    name-is-new c.args.self.now c.loop-operation.operation c.loop-operation.made c.name.result.now c.len-operation-end.ensures.different lt
    c.loop-operation.invariant c.name.ensures

pub add-requires-clause-takes : goal.add-requires-clause-takes
add-requires-clause-takes c =
    let lt : c.loop-operation.operation < length c.args.self.now = omega
    (arith, c.len-operation-end.ensures.count, c.loop-operation-test.true) in
    (plain-at c.args.self.now c.loop-operation.operation c.takes.result.now c.gives.result c.len-operation-end.ensures.plain lt
    c.takes.ensures c.gives.ensures).0

pub add-requires-clause-gives : goal.add-requires-clause-gives
add-requires-clause-gives c =
    let lt : c.loop-operation.operation < length c.args.self.now = omega
    (arith, c.len-operation-end.ensures.count, c.loop-operation-test.true) in
    (plain-at c.args.self.now c.loop-operation.operation c.takes.result.now c.gives.result c.len-operation-end.ensures.plain lt
    c.takes.ensures c.gives.ensures).1

pub returns : goal.returns
returns c = c.loop-operation.invariant ∙ take_all c.loop-operation.operation c.args.self.now
    (omega (arith, c.len-operation-end.ensures.count, c.loop-operation-test.false))

pub loop-operation-preserved : goal.loop-operation-preserved
loop-operation-preserved c =
    let lt : c.loop-operation.operation < length c.args.self.now = omega
    (arith, c.len-operation-end.ensures.count, c.loop-operation-test.true) in
    copy-step c.args.self.now c.loop-operation.made c.add.new.self c.loop-operation.operation
    (record { name = c.name.result.now; takes = c.takes.result.now; gives = c.gives.result })
    c.loop-operation.invariant lt c.name.ensures c.takes.ensures c.gives.ensures c.in_ok-add.ensures.ok
