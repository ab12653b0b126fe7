use Rattle.std.proofs.Common.{◌≤◌, List, Contains, length, refl, subst, arith}
use Rattle.wb_lemmas.proofs.Members.{contains_at, place_of}
use Rattle.wb_flow_theory.specs.Rules.{target_vertex, by_equation}
use Rattle.wb_flow.proofs.AddingLemmas.{read_item}
use Rattle.wb_flow.proofs.EachLemmas.{each_more, each_in}
use Rattle.wb_complete.specs.Inner.Tests.{DefinesReads, LacksReads}
use Rattle.wb_complete.proofs.TestLemmas.{lacks_below}
use Rattle.wb_syntax_resolved.specs.declared.equation.Equation.{Equation}
use Rattle.wb_syntax_resolved.specs.Expression.{Node}
use Rattle.wb_complete.proofs.below.lacking_in_equations.Goals as goal

pub returns-in-Some-clause-some : goal.returns-in-Some-clause-some
returns-in-Some-clause-some c =
    let a = c.args.scope.now.attributes.now in
    let items = c.as_slice-equation-items.result.now in
    let e = c.equation-item.result in
    let there = read_item items c.equations.equation-index e c.equations-test.true c.equation-item.is in
    let listed = subst (λ (z : List Equation). Contains z e) c.as_slice-equation-items.ensures
    (contains_at items e c.equations.equation-index there) in
    lacks_below a c.args.production.now c.requires.attribution (target_vertex e.target) e.nodes (by_equation e listed refl refl)
    c.in-Some.vertex
    (subst (λ (z : List Node). LacksReads a c.args.production.now z c.in-Some.vertex) c.as_slice.ensures c.in-Some.ensures.some)

pub equations-preserved : goal.equations-preserved
equations-preserved c =
    let a = c.args.scope.now.attributes.now in
    let items = c.as_slice-equation-items.result.now in
    let e = c.equation-item.result in
    each_more items (λ (z : Equation). DefinesReads a c.args.production.now z.nodes) c.equations.equation-index e
    (read_item items c.equations.equation-index e c.equations-test.true c.equation-item.is) c.equations.invariant
    (subst (DefinesReads a c.args.production.now) c.as_slice.ensures c.in_default.ensures.none)

pub returns-clause-none : goal.returns-clause-none
returns-clause-none c e listed =
    let a = c.args.scope.now.attributes.now in
    let items = c.as_slice-equation-items.result.now in
    let ended : length items ≤ c.equations.equation-index = omega arith in
    let (k, at) = place_of c.args.production.now.equations e listed in
    each_in items (λ (z : Equation). DefinesReads a c.args.production.now z.nodes) c.args.production.now.equations
    c.as_slice-equation-items.ensures c.equations.equation-index ended c.equations.invariant k e at
