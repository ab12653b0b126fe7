-- A path-based search for strongly connected components: open vertices are in groups, one after another, and a group is closed
-- once all its edges are taken.
use Rattle.std.specs.Prelude.{◌≡◌, ◌<◌, ◌≤◌, ◌+◌, ◌-◌, ◌*◌, ◌⊎◌, ◌++◌, ◌∷◌, ℕ, List, [], Option, Some, None, All, Contains, length}
use Rattle.std.specs.Prelude.{slice_get, slice_set, slice_index, sum, take, drop}
use Rattle.wb_graph.specs.Graphs.{Edge, IsEdge, IsEdgeBelow, Walk}
use Rattle.wb_graph.specs.Inner.Taking.{IsLinked, IsTaken}
use Rattle.wb_graph.specs.declared.groups.Groups.{Groups}
use Rattle.wb_graph.specs.declared.groups.Mark.{Mark}
use Rattle.wb_graph.specs.declared.groups.Mark.TheVariants.{New, Open, Closed}

-- the lists of a search: where the chains of edges begin and go on, how far it is with each vertex, the open vertices in the order in
-- which they were met, where groups begin among them, its path, and a vertex of each closed component
pub record State : Type 0 where
  pub firsts : List ℕ
  pub links : List ℕ
  pub marks : List Mark
  pub opened : List ℕ
  pub starts : List ℕ
  pub path : List ℕ
  pub roots : List ℕ

-- the lists of this search
abbrev pub state_of : Groups → State
state_of s = record {
  firsts = s.untaken.firsts.items;
  links = s.untaken.links.items;
  marks = s.marks.items;
  opened = s.opened.items;
  starts = s.starts.items;
  path = s.path.items;
  roots = s.roots.items;
}

-- this vertex is open, at this place
abbrev pub IsOpen : State → ℕ → ℕ → Type 0
IsOpen s v i = slice_get s.opened i ≡ Some v

-- this vertex is closed, in this component
abbrev pub IsClosed : State → ℕ → ℕ → Type 0
IsClosed s v a = slice_get s.marks v ≡ Some (Closed a)

-- this vertex is on the path
abbrev pub IsOnPath : State → ℕ → Type 0
IsOnPath s v = (k : ℕ) × (slice_get s.path k ≡ Some v)

-- from place i to place j no group begins but at i or before
abbrev pub AreGrouped : List ℕ → ℕ → ℕ → Type 0
AreGrouped starts i j = (p : ℕ) → Contains starts p → i < p → j < p

-- an edge from place i leads to a closed vertex, to an open one of its group, or to one of a later group
abbrev pub LeadsOn : State → ℕ → ℕ → Type 0
LeadsOn s i v = ((a : ℕ) × IsClosed s v a) ⊎ ((j : ℕ) × IsOpen s v j × AreGrouped s.starts j i)

-- marks and the open vertices agree; each is in a group
pub record AreMarked (s : State) : Type 0 where
  pub open_marked : (v i : ℕ) → IsOpen s v i → slice_get s.marks v ≡ Some (Open i)
  pub marked_open : (v i : ℕ) → slice_get s.marks v ≡ Some (Open i) → IsOpen s v i
  pub grouped : (v i : ℕ) → IsOpen s v i → (p : ℕ) × Contains s.starts p × (p ≤ i)

-- the path has open vertices in their order, among them those at which groups begin; open vertices beside it have no edge left
pub record IsPath (s : State) : Type 0 where
  pub opened : (v k : ℕ) → slice_get s.path k ≡ Some v → (i : ℕ) × IsOpen s v i
  pub rising : (u v i j k l : ℕ) → k < l → slice_get s.path k ≡ Some u → slice_get s.path l ≡ Some v → IsOpen s u i → IsOpen s v j → i < j
  pub begun : (p : ℕ) → Contains s.starts p → (v : ℕ) × IsOpen s v p × IsOnPath s v
  pub starts_rise : (p q m n : ℕ) → m < n → slice_get s.starts m ≡ Some p → slice_get s.starts n ≡ Some q → p < q
  pub left : (v i : ℕ) → IsOpen s v i → (slice_index s.firsts v ≡ 0) ⊎ IsOnPath s v

-- walks lead from open vertices to later ones, and back within a group
pub record AreWalks (edges : List Edge) (s : State) : Type 0 where
  pub forth : (u v i j : ℕ) → i ≤ j → IsOpen s u i → IsOpen s v j → Walk edges u v
  pub back : (u v i j : ℕ) → i ≤ j → IsOpen s u i → IsOpen s v j → AreGrouped s.starts i j → Walk edges v u

-- closed vertices have no edge left, lead to components that are the same or were closed before, and have walks to all of theirs
pub record AreClosed (edges : List Edge) (s : State) : Type 0 where
  pub falls : (u v a : ℕ) → IsClosed s u a → IsEdge edges u v → (b : ℕ) × IsClosed s v b × (b ≤ a)
  pub walks : (u v a : ℕ) → IsClosed s u a → IsClosed s v a → Walk edges u v
  pub below : (u a : ℕ) → IsClosed s u a → a < length s.roots
  pub every : (v a : ℕ) → slice_get s.roots a ≡ Some v → IsClosed s v a

-- what a search keeps; the aim is the edge that was just taken
pub record IsGrouping (edges : List Edge) (aim : Option Edge) (s : State) : Type 0 where
  pub linked : IsLinked edges s.firsts s.links
  pub len : length s.firsts ≡ length s.marks
  pub edges_below : All (IsEdgeBelow (length s.marks)) edges
  pub fresh : (u v : ℕ) → slice_get s.marks u ≡ Some New → ¬ IsTaken edges s.firsts u v
  pub marked : AreMarked s
  pub on_path : IsPath s
  pub walks : AreWalks edges s
  pub closed : AreClosed edges s
  pub taken : (u v i : ℕ) → IsOpen s u i → IsTaken edges s.firsts u v → LeadsOn s i v ⊎ (aim ≡ Some (u, v))

-- no vertex that was met counts as new
pub record KeepsMet (old new : State) : Type 0 where
  pub len : length new.marks ≡ length old.marks
  pub met : (v : ℕ) → slice_get new.marks v ≡ Some New → slice_get old.marks v ≡ Some New

-- a search after one step, with less to do
pub record Advances (edges : List Edge) (old new : State) : Type 0 where
  pub grouping : IsGrouping edges None new
  pub keeps : KeepsMet old new
  pub fewer : 2 * sum new.firsts + length new.path < 2 * sum old.firsts + length old.path

-- a search after all steps from a root, which is met
pub record Visits (edges : List Edge) (root : ℕ) (old new : State) : Type 0 where
  pub grouping : IsGrouping edges None new
  pub path : new.path ≡ []
  pub keeps : KeepsMet old new
  pub visited : ¬ (slice_get new.marks root ≡ Some New)

-- the vertex is met: it is open, in a group of its own, and on the path
abbrev pub entered : State → ℕ → State
entered s v = record s {
  marks = slice_set s.marks v (Open (length s.opened));
  opened = s.opened ++ v ∷ [];
  starts = s.starts ++ length s.opened ∷ [];
  path = s.path ++ v ∷ [];
}

-- so many starts of groups, and all that are at most the place
pub record AreKept (starts : List ℕ) (place kept : ℕ) : Type 0 where
  pub within : kept ≤ length starts
  pub low : (m p : ℕ) → slice_get starts m ≡ Some p → m < kept → p ≤ place
  pub high : (m p : ℕ) → slice_get starts m ≡ Some p → kept ≤ m → place < p

-- these vertices are closed with this number, and the others are as they were
pub record Closes (vertices : List ℕ) (number : ℕ) (old new : List Mark) : Type 0 where
  pub len : length new ≡ length old
  pub each : (v : ℕ) → (Contains vertices v × (slice_get new v ≡ Some (Closed number))) ⊎
      ((¬ Contains vertices v) × (slice_get new v ≡ slice_get old v))

-- the group that begins at this place is closed, as the next component
pub record ClosesGroup (start : ℕ) (old new : State) : Type 0 where
  pub root : ℕ
  pub begins : slice_get old.opened start ≡ Some root
  pub starts : old.starts ≡ new.starts ++ start ∷ []
  pub marks : Closes (drop start old.opened) (length old.roots) old.marks new.marks
  pub state : new ≡ record old { marks = new.marks; opened = take start old.opened; starts = new.starts; roots = old.roots ++ root ∷ [] }

-- the path's last vertex goes off it, and its group is closed where that begins with it
pub record Leaves (t : ℕ) (old new : State) : Type 0 where
  pub path : old.path ≡ new.path ++ t ∷ []
  pub start : ℕ
  pub last : slice_get old.starts (length old.starts - 1) ≡ Some start
  pub done : ((¬ (slice_get old.opened start ≡ Some t)) × (new ≡ record old { path = new.path }))
      ⊎ ((slice_get old.opened start ≡ Some t) × ClosesGroup start (record old { path = new.path }) new)

-- the mark is of a closed vertex
abbrev pub IsClosedMark : Mark → Type 0
IsClosedMark New = ⊥
IsClosedMark (Open place) = ⊥
IsClosedMark (Closed number) = Unit {0}

-- these are the numbers of closed marks, in their order
pub record AreNumbers (numbers : List ℕ) (marks : List Mark) : Type 0 where
  pub len : length numbers ≡ length marks
  pub each : (v n : ℕ) → slice_get numbers v ≡ Some n → slice_get marks v ≡ Some (Closed n)
