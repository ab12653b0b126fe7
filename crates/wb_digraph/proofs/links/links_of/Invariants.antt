use Rattle.std.proofs.Common.{◌<◌, ℕ, []}
use Rattle.wb_digraph.specs.Inner.Links.{AddsLinks, HandsOnAt}
use Rattle.wb_digraph.specs.Inner.Numbers.{HasNumber}
use Rattle.wb_digraph.proofs.links.links_of.Given as goal

abbrev pub invariant-states : goal.invariant-states
invariant-states l = AddsLinks l.context.kernels.now (HasNumber l.context.kernels.now l.context.productions.now l.context.bases.now)
    (λ v u. (s : ℕ) × (s < l.state) × HandsOnAt l.context.kernels.now (HasNumber l.context.kernels.now l.context.productions.now l.context.bases.now) s v u) [] l.edges.items
