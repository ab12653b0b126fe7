-- Sets of components to which the members of others are added, along steps from component to component.
use Rattle.std.specs.Prelude.{◌≡◌, ◌≢◌, ◌<◌, ◌↔◌, ◌⊎◌, ℕ, Bool, List, [], Some, Contains, length, slice_get, slice_index_or}
use Rattle.std.specs.List.Sorted.{IsNonDecreasingBy}
use Rattle.wb_graph.specs.Components.{ComponentsView}
use Rattle.wb_graph.specs.Graphs.{Edge, Walk}
use Rattle.wb_termset.specs.Sets.{IsMember, IsSubset, IsUnion}
use Rattle.wb_flow.specs.declared.vertex.Vertex.{Vertex}
use Rattle.wb_flow.specs.declared.vertex.Vertex.TheVariants as v
use Rattle.wb_flow.specs.ReachSets.{set_at, AreSets}
use Rattle.wb_flow.specs.Inner.Adding.{SomeOf}

-- all sets are of numbers below one count
abbrev pub AreEven : List (List Bool) → Type 0
AreEven sets = (c d : ℕ) → c < length sets → d < length sets → length (set_at sets c) ≡ length (set_at sets d)

-- the vertex of this number is at a place, of this component
pub record IsStart (vertices tops : List Vertex) (components : ComponentsView) (c r place : ℕ) : Type 0 where
  pub vertex : Vertex
  pub at : slice_get vertices place ≡ Some vertex
  pub top : slice_get tops r ≡ Some vertex
  pub component : slice_get components.numbers place ≡ Some c

-- the set of the component has the number of the vertex too, where that has one
pub record AddsStart (tops : List Vertex) (vertex : Vertex) (component : ℕ) (old new : List (List Bool)) : Type 0 where
  pub len : length new ≡ length old
  pub lens : (c : ℕ) → length (set_at new c) ≡ length (set_at old c)
  pub each : (c r : ℕ) → IsMember (set_at new c) r ↔ (IsMember (set_at old c) r ⊎ ((c ≡ component) × (slice_get tops r ≡ Some vertex)))

-- the set of each component has the numbers of its vertices that are at the first places
pub record AreStartsBefore (vertices tops : List Vertex) (components : ComponentsView) (sets : List (List Bool)) (count : ℕ) : Type 0
  where
    pub sizes : AreSets (length components.roots) (length tops) sets
    pub each : (c r : ℕ) → IsMember (set_at sets c) r ↔ ((place : ℕ) × (place < count) × IsStart vertices tops components c r place)

-- the set of each component has the numbers of its vertices
pub record AreStarts (vertices tops : List Vertex) (components : ComponentsView) (sets : List (List Bool)) : Type 0 where
  pub sizes : AreSets (length components.roots) (length tops) sets
  pub each : (c r : ℕ) → IsMember (set_at sets c) r ↔ ((place : ℕ) × IsStart vertices tops components c r place)

-- the step leads from the component of an edge's first vertex to that of its second, which is another
abbrev pub IsStepOf : ComponentsView → Edge → Edge → Type 0
IsStepOf components edge s =
    (slice_get components.numbers edge.0 ≡ Some s.0) × (slice_get components.numbers edge.1 ≡ Some s.1) × (s.0 ≢ s.1)

-- these are the steps of edges, by where they lead from
pub record AreStepsOf (edges : List Edge) (components : ComponentsView) (steps : List Edge) : Type 0 where
  pub each : (s : Edge) → Contains steps s ↔ SomeOf edges (IsStepOf components) s
  pub rising : IsNonDecreasingBy (λ (s : Edge). s.0) steps

-- steps lead down, from numbers below the count
abbrev pub AreFalling : ℕ → List Edge → Type 0
AreFalling count steps = (s : Edge) → Contains steps s → (s.1 < s.0) × (s.0 < count)

-- the members of the set at `from` are added to that at `to`
pub record AreJoined (to from : ℕ) (old new : List (List Bool)) : Type 0 where
  pub len : length new ≡ length old
  pub union : IsUnion (set_at old to) (set_at old from) (set_at new to)
  pub others : (c : ℕ) → c ≢ to → set_at new c ≡ set_at old c

-- the sets are as many and as large as before, and have no members but those of sets to which steps lead in a row; after so many steps a
-- set has the members of the set to which each of these leads
pub record IsClosing (steps : List Edge) (old new : List (List Bool)) (count : ℕ) : Type 0 where
  pub len : length new ≡ length old
  pub lens : (c : ℕ) → length (set_at new c) ≡ length (set_at old c)
  pub grows : (c : ℕ) → IsSubset (set_at old c) (set_at new c)
  pub sound : (c r : ℕ) → IsMember (set_at new c) r → (d : ℕ) × Walk steps c d × IsMember (set_at old d) r
  pub closed : (j : ℕ) (s : Edge) → j < count → slice_get steps j ≡ Some s → IsSubset (set_at new s.1) (set_at new s.0)

-- a set has the members of those to which steps lead in a row, and no others
pub record AreClosed (steps : List Edge) (old new : List (List Bool)) : Type 0 where
  pub len : length new ≡ length old
  pub lens : (c : ℕ) → length (set_at new c) ≡ length (set_at old c)
  pub each : (c r : ℕ) → IsMember (set_at new c) r ↔ ((d : ℕ) × Walk steps c d × IsMember (set_at old d) r)

-- so it is along the steps of these edges
abbrev pub AreClosedOver : List Edge → ComponentsView → List (List Bool) → List (List Bool) → Type 0
AreClosedOver edges components old new = (steps : List Edge) × AreStepsOf edges components steps × AreClosed steps old new

-- the number is that of this attribute of the top, and the set has it and the other hasn't
pub record IsOutsideAt (tops : List Vertex) (set allowed : List Bool) (number i : ℕ) : Type 0 where
  pub top : slice_get tops number ≡ Some (v.Top i)
  pub has : IsMember set number
  pub lacks : ¬ IsMember allowed number

-- the set has the numbers of those attributes of the top that are at the first places of the list
pub record IsSelectionBefore (tops : List Vertex) (listed : List ℕ) (set : List Bool) (count : ℕ) : Type 0 where
  pub len : length set ≡ length tops
  pub each : (r : ℕ) → IsMember set r
      ↔ ((k : ℕ) × (i : ℕ) × (k < count) × (slice_get listed k ≡ Some i) × (slice_get tops r ≡ Some (v.Top i)))
