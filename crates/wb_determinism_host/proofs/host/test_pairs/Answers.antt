use Rattle.std.proofs.Common.{ap, subst, sym, ℕ, List, All, ◌∙◌}
use Rattle.std.specs.Prelude.{length}
use Rattle.wb_graph.specs.Graphs.{IsEdgeBelow}
use Rattle.wb_syntax_resolved.specs.declared.resolved.ResolvedParts.{ResolvedParts}
use Rattle.wb_determinism_host.proofs.HostLemmas.{edges_below}
use Rattle.wb_determinism_host.proofs.host.test_pairs.Goals as goal

pub preference_cycle-requires : goal.preference_cycle-requires
preference_cycle-requires c =
    let r = c.args.host.now.resolved.now in
    subst (λ (n : ℕ). All (IsEdgeBelow n) c.args.pairs.now)
    (sym (c.len-count.ensures ∙ ap (λ (p : ResolvedParts). length p.terminals) c.parts.ensures.parts))
    (subst (λ (edges : List (ℕ × ℕ)). All (IsEdgeBelow (length r.terminals)) edges) (sym c.requires)
    (edges_below r c.parts.ensures.whole.preferences))
