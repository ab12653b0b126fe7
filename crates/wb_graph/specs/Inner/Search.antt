-- A depth-first search: what it keeps of its path, of the finished vertices, and of those that it hasn't met.
use Rattle.std.specs.Prelude.{◌≡◌, ◌<◌, ◌+◌, ◌-◌, ◌*◌, ◌⊎◌, ℕ, List, [], Some, All, length, slice_get, sum}
use Rattle.wb_graph.specs.Graphs.{Edge, IsEdge, IsEdgeBelow}
use Rattle.wb_graph.specs.Inner.Taking.{IsLinked, IsTaken}
use Rattle.wb_graph.specs.declared.search.Colour.{Colour}
use Rattle.wb_graph.specs.declared.search.Colour.TheVariants.{White, Grey, Black}
use Rattle.wb_graph.specs.declared.search.Search.{Search}

-- the lists of a search: where the chains of edges begin and go on, how far it is with each vertex, its path, and what it has finished
pub record State : Type 0 where
  pub firsts : List ℕ
  pub links : List ℕ
  pub colours : List Colour
  pub path : List ℕ
  pub finished : List ℕ

-- the lists of this search
abbrev pub state_of : Search → State
state_of s = record {
  firsts = s.untaken.firsts.items;
  links = s.untaken.links.items;
  colours = s.colours.items;
  path = s.path.items;
  finished = s.finished.items;
}

-- the grey vertices stand once on the path, with an edge from each to the next; their taken edges lead to finished vertices or on along the
-- trail
pub record IsPath (edges : List Edge) (trail : List ℕ) (s : State) : Type 0 where
  pub grey : (v i : ℕ) → slice_get s.path i ≡ Some v → slice_get s.colours v ≡ Some Grey
  pub every : (v : ℕ) → slice_get s.colours v ≡ Some Grey → (i : ℕ) × (slice_get s.path i ≡ Some v)
  pub once : (v i j : ℕ) → slice_get s.path i ≡ Some v → slice_get s.path j ≡ Some v → i ≡ j
  pub steps : (u v i : ℕ) → slice_get s.path i ≡ Some u → slice_get s.path (i + 1) ≡ Some v → IsEdge edges u v
  pub taken : (u v i : ℕ) → slice_get s.path i ≡ Some u → IsTaken edges s.firsts u v → (slice_get s.colours v ≡ Some Black) ⊎
      (slice_get trail (i + 1) ≡ Some v)

-- the black vertices are finished once, each after the ends of its edges
pub record IsFinished (edges : List Edge) (s : State) : Type 0 where
  pub black : (v i : ℕ) → slice_get s.finished i ≡ Some v → slice_get s.colours v ≡ Some Black
  pub every : (v : ℕ) → slice_get s.colours v ≡ Some Black → (i : ℕ) × (slice_get s.finished i ≡ Some v)
  pub once : (v i j : ℕ) → slice_get s.finished i ≡ Some v → slice_get s.finished j ≡ Some v → i ≡ j
  pub after : (u v i : ℕ) → IsEdge edges u v → slice_get s.finished i ≡ Some u → (j : ℕ) × (j < i) × (slice_get s.finished j ≡ Some v)

-- what a search keeps; the trail is its path, and the vertex that an edge was just taken to
pub record IsSearch (edges : List Edge) (trail : List ℕ) (s : State) : Type 0 where
  pub linked : IsLinked edges s.firsts s.links
  pub len : length s.firsts ≡ length s.colours
  pub below : All (IsEdgeBelow (length s.colours)) edges
  pub fresh : (u v : ℕ) → slice_get s.colours u ≡ Some White → ¬ IsTaken edges s.firsts u v
  pub on_path : IsPath edges trail s
  pub off_path : IsFinished edges s

-- no vertex that was met counts as not met
pub record KeepsMet (old new : State) : Type 0 where
  pub len : length new.colours ≡ length old.colours
  pub met : (v : ℕ) → slice_get new.colours v ≡ Some White → slice_get old.colours v ≡ Some White

-- a search after one step, with less to do
pub record Advances (edges : List Edge) (old new : State) : Type 0 where
  pub search : IsSearch edges new.path new
  pub keeps : KeepsMet old new
  pub fewer : 2 * sum new.firsts + length new.path < 2 * sum old.firsts + length old.path

-- a search after all steps from a root, which is met
pub record Visits (edges : List Edge) (root : ℕ) (old new : State) : Type 0 where
  pub search : IsSearch edges [] new
  pub path : new.path ≡ []
  pub keeps : KeepsMet old new
  pub visited : ¬ (slice_get new.colours root ≡ Some White)

-- an edge leads from each vertex of the path to the next, and from the last to v, which is on the path
pub record ClosesPath (edges : List Edge) (path : List ℕ) (v : ℕ) : Type 0 where
  pub on_path : (i : ℕ) × (slice_get path i ≡ Some v)
  pub steps : (u w i : ℕ) → slice_get path i ≡ Some u → slice_get path (i + 1) ≡ Some w → IsEdge edges u w
  pub closes : (u : ℕ) → slice_get path (length path - 1) ≡ Some u → IsEdge edges u v
  pub once : (u i j : ℕ) → slice_get path i ≡ Some u → slice_get path j ≡ Some u → i ≡ j
