-- The tables of several expressions, over the nodes of all.
use Rattle.std.specs.Prelude.{◌≡◌, ◌+◌, ◌<◌, ◌↔◌, ℕ, zero, suc, Bool, List, [], ◌∷◌, ◌++◌, Some, Contains, length, slice_get, sum_by}
use Rattle.wb_regex.specs.Tree.{Tree}
use Rattle.wb_regex.specs.Matches.{Matches}
use Rattle.wb_regex.specs.declared.node.RegexNode.{RegexNode}
use Rattle.wb_termset.specs.Sets.{IsMember}
use Rattle.wb_automata_positions.specs.declared.places.Place.{Place}
use Rattle.wb_automata_positions.specs.declared.tables.Tables.{Tables}
use Rattle.wb_automata_positions.specs.Rows.{row}
use Rattle.wb_automata_positions.specs.Sizes.{size_of}
use Rattle.wb_automata_positions.specs.NodePlaces.{place_of}
use Rattle.wb_automata_positions.specs.Places.{ArePlacesBelow, Runs}
use Rattle.wb_automata_positions.specs.Transitions.{IsLeaf, IsTable, count_of, entry_of}

-- the place is the start of an expression that is considered
pub record IsStartOf (n count : ℕ) (considered : ℕ → Type 0) (p : ℕ) : Type 0 where
  pub number : ℕ
  pub below : number < count
  pub is : considered number
  pub place : p ≡ n + number

-- the list has the starts of the expressions that are in a set
abbrev pub IsStartsOf : ℕ → ℕ → List Bool → List ℕ → Type 0
IsStartsOf n count flags starts = (p : ℕ) → Contains starts p ↔ IsStartOf n count (IsMember flags) p

-- the first places of nodes
abbrev pub first_places : List RegexNode → List ℕ → ℕ → List Place
first_places nodes next zero = []
first_places nodes next (suc i) = first_places nodes next i ++ place_of nodes next i ∷ []

-- all places of the nodes, and of the ends of their expressions
abbrev pub places_of : Tables → List Place
places_of t = first_places t.nodes.items t.next.items (length t.nodes.items + count_of t)

-- from the place some text leads to the end of an expression
pub record LeadsOn (places : List Place) (i : ℕ) : Type 0 where
  pub number : ℕ
  pub text : List ℕ
  pub runs : Runs places i number text

-- from the start of each expression one comes to its own end by exactly the texts that match it, and to no other; from each leaf one comes
-- to some end; and each list of starts is that of its set
pub record AreTables (trees : List Tree) (sets : List (List Bool)) (t : Tables) : Type 0 where
  pub table : IsTable t
  pub below : ArePlacesBelow (places_of t)
  pub entries : (p : ℕ) → p < count_of t → entry_of t p < length t.nodes.items + count_of t
  pub size : length t.nodes.items ≡ sum_by size_of trees
  pub roots_len : length t.roots.items ≡ length trees
  pub starts_len : length t.starts ≡ length sets
  pub is_starts : (s : ℕ) (flags : List Bool) → slice_get sets s ≡ Some flags → IsStartsOf (length t.nodes.items) (length trees) flags
      (row t.starts s)
  pub own : (k l : ℕ) (x : List ℕ) → k < length trees → Runs (places_of t) (entry_of t (length t.nodes.items + k)) l x → l ≡ k
  pub sound : (k : ℕ) (tree : Tree) (x : List ℕ) → slice_get trees k ≡ Some tree
      → Runs (places_of t) (entry_of t (length t.nodes.items + k)) k x → Matches tree x
  pub complete : (k : ℕ) (tree : Tree) (x : List ℕ) → slice_get trees k ≡ Some tree → Matches tree x
      → Runs (places_of t) (entry_of t (length t.nodes.items + k)) k x
  pub leads : (q : ℕ) → IsLeaf t.nodes.items q → LeadsOn (places_of t) (entry_of t q)
  pub not_empty : (k : ℕ) (tree : Tree) → slice_get trees k ≡ Some tree → ¬ Matches tree []
  pub filled : (k : ℕ) (tree : Tree) → slice_get trees k ≡ Some tree → (x : List ℕ) × Matches tree x
