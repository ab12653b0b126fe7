-- A sweep over edges after which nothing was met leaves the met vertices closed.
use Rattle.std.proofs.Common.{◌≡◌, ℕ, ◌+◌, ◌<◌, ◌≤◌, List, length, subst, inl, inr, arith}
use Rattle.std.specs.Prelude.{slice_index}
use Rattle.std.proofs.lemmas.Bool.{cases_lt}
use Rattle.wb_graph.specs.Graphs.{Edge}
use Rattle.wb_grammar.specs.Inner.Paths.{IsBackClosed}
use Rattle.wb_grammar.specs.Inner.Together.{edge_at}
use Rattle.wb_grammar.proofs.TogetherLemmas.{edge_place}

-- where the end of the edge has been met, what it leaves has too
abbrev pub IsClosedAt : List ℕ → Edge → Type 0
IsClosedAt places e = 0 < slice_index places e.1 → 0 < slice_index places e.0

-- so for the edges before a place
abbrev pub ClosedBefore : List Edge → List ℕ → ℕ → Type 0
ClosedBefore edges places limit = (k : ℕ) → k < limit → IsClosedAt places (edge_at edges k)

pub closed_more : (edges : List Edge) (places : List ℕ) (i : ℕ) → IsClosedAt places (edge_at edges i) → ClosedBefore edges places i →
    ClosedBefore edges places (i + 1)
closed_more edges places i here before k lt = elim (cases_lt k i) [
  | inl old ↦ before k old
  | inr new ↦ (let same : i ≡ k = omega arith in subst (λ n. IsClosedAt places (edge_at edges n)) same here)
]

pub closed_all : (edges : List Edge) (places : List ℕ) (limit : ℕ) → length edges ≤ limit → ClosedBefore edges places limit →
    IsBackClosed edges places
closed_all edges places limit le before u v edge =
    let (i, lt, is) = edge_place edges u v edge in
    subst (IsClosedAt places) is (before i (omega arith))
