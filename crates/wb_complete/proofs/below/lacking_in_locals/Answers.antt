use Rattle.std.proofs.Common.{◌≡◌, ◌≤◌, List, Some, slice_get, length, refl, subst, arith}
use Rattle.wb_lemmas.proofs.Members.{place_of}
use Rattle.wb_flow_theory.specs.Rules.{by_local}
use Rattle.wb_flow_theory.specs.Vertices.{tree_of, local}
use Rattle.wb_flow.proofs.AddingLemmas.{read_item}
use Rattle.wb_flow.proofs.EachLemmas.{each_more, each_in}
use Rattle.wb_complete.specs.Inner.Tests.{DefinesReads, LacksReads}
use Rattle.wb_complete.proofs.TestLemmas.{lacks_below}
use Rattle.wb_syntax_resolved.specs.declared.production.Local.{Local}
use Rattle.wb_syntax_resolved.specs.Expression.{Node}
use Rattle.wb_complete.proofs.below.lacking_in_locals.Goals as goal

pub returns-in-Some-clause-some : goal.returns-in-Some-clause-some
returns-in-Some-clause-some c =
    let a = c.args.scope.now.attributes.now in
    let items = c.as_slice-local-items.result.now in
    let k = c.locals.local-index in
    let e = c.local-item.result in
    let there = subst (λ (z : List Local). slice_get z k ≡ Some e) c.as_slice-local-items.ensures
    (read_item items k e c.locals-test.true c.local-item.is) in
    lacks_below a c.args.production.now c.requires.attribution (tree_of (local k)) e.nodes (by_local k e there refl refl) c.in-Some.vertex
    (subst (λ (z : List Node). LacksReads a c.args.production.now z c.in-Some.vertex) c.as_slice.ensures c.in-Some.ensures.some)

pub locals-preserved : goal.locals-preserved
locals-preserved c =
    let a = c.args.scope.now.attributes.now in
    let items = c.as_slice-local-items.result.now in
    let e = c.local-item.result in
    each_more items (λ (z : Local). DefinesReads a c.args.production.now z.nodes) c.locals.local-index e
    (read_item items c.locals.local-index e c.locals-test.true c.local-item.is) c.locals.invariant
    (subst (DefinesReads a c.args.production.now) c.as_slice.ensures c.in_default.ensures.none)

pub returns-clause-none : goal.returns-clause-none
returns-clause-none c e listed =
    let a = c.args.scope.now.attributes.now in
    let items = c.as_slice-local-items.result.now in
    let ended : length items ≤ c.locals.local-index = omega arith in
    let (k, at) = place_of c.args.production.now.locals e listed in
    each_in items (λ (z : Local). DefinesReads a c.args.production.now z.nodes) c.args.production.now.locals
    c.as_slice-local-items.ensures c.locals.local-index ended c.locals.invariant k e at
