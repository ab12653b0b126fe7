-- Preferences of a specification as pairs of terminals.
use Rattle.std.proofs.Common.{◌≡◌, ◌∙◌, ℕ, List, All, length, map, sym, ap, subst}
use Rattle.wb_certify_host.specs.DeterministicHosts.{AreAcyclic}
use Rattle.wb_certify_host.specs.Lexicons.{preference_pairs}
use Rattle.wb_certify_host.proofs.DeterministicHostLemmas.{edges_below}
use Rattle.wb_graph.specs.Graphs.{IsEdgeBelow}
use Rattle.wb_graph.specs.Orders.{IsCycle, IsSimpleCycle}
use Rattle.wb_syntax_resolved.specs.declared.resolved.ResolvedParts.{ResolvedParts}
use Rattle.wb_syntax_resolved.specs.declared.terminal.Preference.{Preference}
use Rattle.wb_syntax_resolved.specs.Resolved.{IsResolved}

-- pairs that were listed are the preferences
pub pairs_are : (r parts : ResolvedParts) (preferences : List Preference) (items edges : List (ℕ × ℕ)) → parts ≡ r
    → preferences ≡ parts.preferences → items ≡ map (λ (p : Preference). (p.first, p.second)) preferences → edges ≡ items
    → edges ≡ preference_pairs r
pairs_are r parts preferences items edges same of are is =
    is ∙ are ∙ ap (λ (ps : List Preference). map (λ (p : Preference). (p.first, p.second)) ps) of ∙ ap preference_pairs same

-- they are between terminals
pub pairs_below : (r parts : ResolvedParts) (count : ℕ) (edges : List (ℕ × ℕ)) → IsResolved r → parts ≡ r → count ≡ length parts.terminals
    → edges ≡ preference_pairs r → All (IsEdgeBelow count) edges
pairs_below r parts count edges is same counted are =
    subst (λ (n : ℕ). All (IsEdgeBelow n) edges) (sym (counted ∙ ap (λ (q : ResolvedParts). length q.terminals) same))
    (subst (λ (es : List (ℕ × ℕ)). All (IsEdgeBelow (length r.terminals)) es) (sym are) (edges_below r is.preferences))

module _ (r : ResolvedParts) (edges : List (ℕ × ℕ)) (are : edges ≡ preference_pairs r) where
  -- a cycle of pairs is one of preferences
  pub in_cycle : (cycle shown : List ℕ) → shown ≡ cycle → IsSimpleCycle edges cycle → IsSimpleCycle (preference_pairs r) shown
  in_cycle cycle shown same is =
      subst (λ (es : List (ℕ × ℕ)). IsSimpleCycle es shown) are (subst (IsSimpleCycle edges) (sym same) is)

  -- and the other way round
  pub no_cycle : ((cycle : List ℕ) → ¬ IsCycle edges cycle) → AreAcyclic r
  no_cycle acyclic = subst (λ (es : List (ℕ × ℕ)). (cycle : List ℕ) → ¬ IsCycle es cycle) are acyclic
