use Rattle.std.proofs.Common.{◌∙◌, List, refl, sym, ap, subst}
use Rattle.std.proofs.lemmas.Option.{same_Some, IfSome_then}
use Rattle.wb_flow_theory.specs.Rules.{by_forward}
use Rattle.wb_flow_theory.specs.Vertices.{tree_of, forward}
use Rattle.wb_complete.specs.Inner.Tests.{DefinesReads, LacksReads}
use Rattle.wb_complete.proofs.TestLemmas.{defines_below, lacks_below, none_then}
use Rattle.wb_syntax_resolved.specs.declared.production.Forward.{Forward}
use Rattle.wb_syntax_resolved.specs.Expression.{Node}
use Rattle.wb_complete.proofs.below.lacking_below.Goals as goal

pub returns-in-Some-forward-clause-some : goal.returns-in-Some-forward-clause-some
returns-in-Some-forward-clause-some c =
    let a = c.args.scope.now.attributes.now in
    let f = c.in-Some-forward.forward in
    IfSome_then c.lacking_in.result c.lacking_in.ensures.some
    (λ vertex lacks. lacks_below a c.args.production.now c.requires.attribution (tree_of forward) f.nodes
    (by_forward f c.in-Some-forward.is refl refl) vertex
    (subst (λ (z : List Node). LacksReads a c.args.production.now z vertex) c.as_slice.ensures lacks))

pub returns-in-Some-forward-clause-none : goal.returns-in-Some-forward-clause-none
returns-in-Some-forward-clause-none c =
    let a = c.args.scope.now.attributes.now in
    none_then c.lacking_in.result c.lacking_in.ensures.none
    (λ defines. defines_below a c.args.production.now c.in_default.ensures.none c.in_default-lacking_in_locals.ensures.none
    (λ f there. subst (DefinesReads a c.args.production.now)
    (c.as_slice.ensures ∙ ap (λ (z : Forward). z.nodes) (same_Some c.in-Some-forward.forward f (sym c.in-Some-forward.is ∙ there)))
    defines))

pub returns-in-None-clause-none : goal.returns-in-None-clause-none
returns-in-None-clause-none c =
    defines_below c.args.scope.now.attributes.now c.args.production.now c.in_default.ensures.none
    c.in_default-lacking_in_locals.ensures.none (λ f there. let bad = sym c.in-None.is ∙ there in cc)
