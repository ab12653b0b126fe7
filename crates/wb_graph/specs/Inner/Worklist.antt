-- A worklist over a graph: what it keeps of the vertices reached, and of those of which edges may be left.
use Rattle.std.specs.Prelude.{◌≡◌, ◌<◌, ◌+◌, ◌*◌, ◌⊎◌, ◌++◌, ◌∷◌, [], ℕ, Bool, true, false, Option, Some, None, List, All, length}
use Rattle.std.specs.Prelude.{slice_get, slice_set, slice_index, slice_index_or, sum}
use Rattle.wb_graph.specs.Graphs.{Edge, IsEdge, IsEdgeBelow, IsReached}
use Rattle.wb_graph.specs.Inner.Taking.{IsLinked, IsTaken}
use Rattle.wb_graph.specs.declared.worklist.Worklist.{Worklist}

-- the lists of a worklist: where the chains of edges begin and go on, which vertices are reached, and which of them wait
pub record State : Type 0 where
  pub firsts : List ℕ
  pub links : List ℕ
  pub reached : List Bool
  pub waiting : List ℕ

-- the lists of this worklist
abbrev pub worklist_of : Worklist → State
worklist_of s = record {
  firsts = s.untaken.firsts.items;
  links = s.untaken.links.items;
  reached = s.reached.items;
  waiting = s.waiting.items;
}

-- the state with one more vertex reached and waiting, or the same where it was reached already
abbrev pub marked : State → ℕ → Bool → State
marked s v true = s
marked s v false = record s { reached = slice_set s.reached v true; waiting = s.waiting ++ v ∷ [] }

-- a vertex is reached
abbrev pub IsMarked : State → ℕ → Type 0
IsMarked s v = slice_index_or s.reached v false ≡ true

-- what a worklist keeps: taken edges lead to reached vertices, or to the target of the edge that was just taken
pub record IsWorklist (edges : List Edge) (target : Option ℕ) (s : State) : Type 0 where
  pub linked : IsLinked edges s.firsts s.links
  pub len : length s.firsts ≡ length s.reached
  pub below : All (IsEdgeBelow (length s.reached)) edges
  pub waits : (v i : ℕ) → slice_get s.waiting i ≡ Some v → IsMarked s v
  pub left : (v : ℕ) → IsMarked s v → (slice_index s.firsts v ≡ 0) ⊎ ((i : ℕ) × (slice_get s.waiting i ≡ Some v))
  pub taken : (u v : ℕ) → IsTaken edges s.firsts u v → IsMarked s v ⊎ (target ≡ Some v)

-- a worklist after one step, with less to do
pub record AdvancesTo (edges : List Edge) (old new : State) : Type 0 where
  pub worklist : IsWorklist edges None new
  pub len : length new.reached ≡ length old.reached
  pub keeps : (v : ℕ) → IsMarked old v → IsMarked new v
  pub grows : (v : ℕ) → IsMarked new v → IsMarked old v ⊎ ((u : ℕ) × (IsMarked old u) × (IsEdge edges u v))
  pub fewer : 2 * sum new.firsts + length new.waiting < 2 * sum old.firsts + length old.waiting

-- a worklist that has reached nothing but what walks from the first vertices reach
pub record IsReaching (count : ℕ) (edges : List Edge) (from : List ℕ) (s : State) : Type 0 where
  pub worklist : IsWorklist edges None s
  pub len : length s.reached ≡ count
  pub sound : (v : ℕ) → IsMarked s v → IsReached edges from v
