use Rattle.std.proofs.Common.{◌≡◌, refl, subst, sym}
use Rattle.std.proofs.lemmas.Result.{IfOk-weaker, IfErr-weaker}
use Rattle.wb_lemmas.proofs.Members.{contains_at}
use Rattle.wb_lemmas.proofs.Refusals.{handed_on}
use Rattle.wb_flow.specs.declared.refusal.AttributeRefusal.TheVariants.{NoMemory}
use Rattle.wb_complete.proofs.ForwardLemmas.{keeps_none, refuses}
use Rattle.wb_complete.specs.Inner.ForwardTests.{KeepsForward, KeepsWhereBridging, RefusesProduction}
use Rattle.wb_complete.specs.ForwardRefusals.{IsTrueForwardRefusal}
use Rattle.wb_complete.proofs.forward.check_production.Goals as goal

pub returns-then-not-gives_forward-clause-ok : goal.returns-then-not-gives_forward-clause-ok
returns-then-not-gives_forward-clause-ok c bridging =
    keeps_none c.args.scope.now.attributes.now c.args.production.now (c.gives_forward.ensures c.if-not-gives_forward.true)

pub graph_of-requires-clause-listed : goal.graph_of-requires-clause-listed
graph_of-requires-clause-listed c =
    contains_at c.args.scope.now.attributes.now.productions c.args.production.now c.args.number c.requires.there

pub check_vertices-answer-requires : goal.check_vertices-answer-requires
check_vertices-answer-requires c = record { attribution = c.requires.attribution; there = c.requires.there; graph = c.in_ok-graph.ensures }

pub returns-in_err-graph-clause-refused : goal.returns-in_err-graph-clause-refused
returns-in_err-graph-clause-refused c =
    let refuses = IsTrueForwardRefusal c.args.scope.now.attributes.now c.args.extension in
    handed_on (λ f. f ≡ NoMemory c.in_err-graph.field-0.0) refuses c.from_residual.result (NoMemory c.in_err-graph.field-0.0)
    c.from_residual.ensures.1 (λ f same. subst refuses (sym same) tt) refl

pub returns-clause-ok : goal.returns-clause-ok
returns-clause-ok c =
    let a = c.args.scope.now.attributes.now in
    IfOk-weaker c.check_vertices-answer.result (λ done. KeepsForward a c.args.production.now)
    (λ done. KeepsWhereBridging a c.args.extension c.args.production.now) (λ done keeps bridging. keeps)
    c.check_vertices-answer.ensures.ok

pub returns-clause-refused : goal.returns-clause-refused
returns-clause-refused c =
    let a = c.args.scope.now.attributes.now in
    IfErr-weaker c.check_vertices-answer.result (RefusesProduction a c.args.number c.args.production.now)
    (IsTrueForwardRefusal a c.args.extension)
    (refuses a c.args.extension c.args.number c.args.production.now c.requires.there (c.if-not-is_bridging.ensures.0 refl))
    c.check_vertices-answer.ensures.refused
