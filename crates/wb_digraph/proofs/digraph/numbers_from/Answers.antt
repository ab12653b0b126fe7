use Rattle.std.proofs.Common.{ℕ, sym, subst}
use Rattle.std.specs.Prelude.{◌↔◌}
use Rattle.wb_graph.specs.Graphs.{IsEdge}
use Rattle.wb_digraph.specs.Inner.Links.{IsLink}
use Rattle.wb_digraph.specs.Inner.Numbers.{HasNumber}
use Rattle.wb_digraph.proofs.HeldLemmas.{held_flows, links_below}
use Rattle.wb_digraph.proofs.digraph.numbers_from.Goals as goal

pub spread-requires-clause-edges : goal.spread-requires-clause-edges
spread-requires-clause-edges c =
    links_below c.requires.context.are_kernels c.args.context.now.productions.now c.args.context.now.bases.now c.requires.context.in_range
    c.requires.context.are_productions c.requires.context.are_bases c.deref.result.now _ c.requires.len
    (subst (λ z. (v u : ℕ) → IsEdge z v u ↔ IsLink c.args.context.now.kernels.now (HasNumber c.args.context.now.kernels.now c.args.context.now.productions.now c.args.context.now.bases.now) v u)
    (sym c.deref.ensures.value) c.in_ok-edges.ensures)

pub returns-clause-flows : goal.returns-clause-flows
returns-clause-flows c =
    held_flows c.requires.context.are_kernels c.args.context.now.productions.now c.args.context.now.bases.now c.requires.context.in_range
    c.requires.context.are_productions c.requires.context.are_bases c.deref.result.now c.args.firsts.now
    c.in_ok-numbers.numbers.items c.args.pool.now c.spread.new.pool c.requires.len
    (subst (λ z. (v u : ℕ) → IsEdge z v u ↔ IsLink c.args.context.now.kernels.now (HasNumber c.args.context.now.kernels.now c.args.context.now.productions.now c.args.context.now.bases.now) v u)
    (sym c.deref.ensures.value) c.in_ok-edges.ensures) c.requires.firsts c.in_ok-numbers.ensures.spread
