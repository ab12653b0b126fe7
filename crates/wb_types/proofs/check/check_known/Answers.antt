use Rattle.wb_lemmas.proofs.Refusals.{handed_on}
use Rattle.wb_types.specs.declared.refusal.TypeRefusal.TheVariants.{NoMemory}
use Rattle.wb_types.specs.Inner.Passes.{FailsKnown}
use Rattle.std.proofs.Common.{refl, sym, subst}
use Rattle.wb_operations.specs.Operations.{HasOperation}
use Rattle.wb_types.specs.Rules.{IsKnown}
use Rattle.wb_types.proofs.PassLemmas.{taken_more, taken_all, calls_nothing, read_contained, unknown_in}
use Rattle.wb_types.proofs.OperationLemmas.{found_known}
use Rattle.wb_types.proofs.check.check_known.Goals as goal

pub nodes-preserved-in_default : goal.nodes-preserved-in_default
nodes-preserved-in_default c =
    taken_more
    (IsKnown c.args.operations.now) c.args.nodes.now c.nodes.node-index c.node-item.result c.nodes.invariant c.nodes-test.true
    c.node-item.is
    (calls_nothing c.args.operations.now c.node-item.result c.in_default.not-Call)

pub nodes-preserved : goal.nodes-preserved
nodes-preserved c =
    taken_more
    (IsKnown c.args.operations.now) c.args.nodes.now c.nodes.node-index c.node-item.result c.nodes.invariant c.nodes-test.true
    c.node-item.is
    (subst (IsKnown c.args.operations.now) (sym c.in-Call.is)
    (subst (HasOperation c.args.operations.now) c.as_slice.ensures
    (found_known c.args.operations.now c.as_slice.result.now c.in-Some.field-0 c.in-Some.ensures.found)))

pub returns-clause-ok : goal.returns-clause-ok
returns-clause-ok c = taken_all (IsKnown c.args.operations.now) c.args.nodes.now c.nodes.node-index c.nodes.invariant c.nodes-test.false

pub returns-in_err-copy-clause-refused : goal.returns-in_err-copy-clause-refused
returns-in_err-copy-clause-refused c =
    let fails = FailsKnown c.args.operations.now c.args.nodes.now in
    handed_on fails fails c.from_residual.result (NoMemory c.in_err-copy.field-0.0) c.from_residual.ensures.1 (λ refusal told. told) tt

pub returns-in_default-find-clause-refused : goal.returns-in_default-find-clause-refused
returns-in_default-find-clause-refused c =
    unknown_in c.args.operations.now c.args.nodes.now c.node-item.result c.as_slice.result.now c.in_ok-copy.field-0 c.in-Call.operation
    c.in-Call.arguments (read_contained c.args.nodes.now c.args.nodes.now c.nodes.node-index c.node-item.result refl c.nodes-test.true
    c.node-item.is)
    c.in-Call.is c.as_slice.ensures c.in_ok-copy.ensures.ok c.in_default-find.ensures.none
