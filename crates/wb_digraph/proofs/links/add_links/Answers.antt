use Rattle.std.proofs.Common.{◌+◌, ◌<◌, arith}
use Rattle.std.proofs.lemmas.Option.{slice_get_within}
use Rattle.std.proofs.lemmas.List.Elements.{Contains-get_or}
use Rattle.wb_lemmas.proofs.Members.{place_of}
use Rattle.wb_digraph.specs.Inner.Links.{HandsOn}
use Rattle.wb_digraph.specs.Inner.Numbers.{HasNumber}
use Rattle.wb_digraph.proofs.LinkLemmas.{adds_fewer, adds_none, adds_then, place_cases}
use Rattle.wb_digraph.proofs.links.add_links.Goals as goal

pub items-init : goal.items-init
items-init c = adds_none c.args.context.now.kernels.now (HasNumber c.args.context.now.kernels.now c.args.context.now.productions.now c.args.context.now.bases.now) _ c.args.edges.now.items (λ v u (j, item, lt, at, hands). absurd (omega (arith, lt)))

pub add_at-requires-clause-has : goal.add_at-requires-clause-has
add_at-requires-clause-has c =
    (c.closure-items.ensures.exact _).0 (Contains-get_or c.closure-items.result.now c.items.place _ c.items-test.true)

pub items-preserved : goal.items-preserved
items-preserved c =
    adds_then c.args.context.now.kernels.now (HasNumber c.args.context.now.kernels.now c.args.context.now.productions.now c.args.context.now.bases.now) c.items.invariant c.in_ok-add_at.ensures
    (λ v u (j, item, lt, at, hands). place_cases c.closure-items.result.now
    (λ i. HandsOn c.args.context.now.kernels.now (HasNumber c.args.context.now.kernels.now c.args.context.now.productions.now c.args.context.now.bases.now) c.args.state i v u) c.items.place j item _ c.items-test.true lt at hands)

pub returns : goal.returns
returns c =
    adds_fewer c.args.context.now.kernels.now (HasNumber c.args.context.now.kernels.now c.args.context.now.productions.now c.args.context.now.bases.now) c.items.invariant
    (λ v u (item, has, hands).
    let (j, at) = place_of c.closure-items.result.now item ((c.closure-items.ensures.exact item).1 has) in (
      j,
      item,
      (let w = slice_get_within c.closure-items.result.now j item at in let past = c.items-test.false in omega (arith, w, past)),
      at,
      hands,
    ))
