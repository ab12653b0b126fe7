use Rattle.std.proofs.Common.{◌≡◌, ◌<◌, ℕ, Some}
use Rattle.std.specs.Prelude.{slice_get}
use Rattle.wb_grammar_theory.specs.declared.item.Item.{Item}
use Rattle.wb_digraph.specs.Inner.Links.{AddsLinks, HandsOn}
use Rattle.wb_digraph.specs.Inner.Numbers.{HasNumber}
use Rattle.wb_digraph.proofs.links.add_links.Given as goal

abbrev pub invariant-items : goal.invariant-items
invariant-items l = AddsLinks l.context.kernels.now (HasNumber l.context.kernels.now l.context.productions.now l.context.bases.now)
    (λ v u. (j : ℕ) × (item : Item) × (j < l.place) × (slice_get l.items j ≡ Some item) ×
    HandsOn l.context.kernels.now (HasNumber l.context.kernels.now l.context.productions.now l.context.bases.now) l.state item v u) l.initial.edges.items l.edges.items
