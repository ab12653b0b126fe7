-- Places as they are made from the nodes of expressions.
use Rattle.std.specs.Prelude.{◌≡◌, ◌+◌, ◌^◌, ◌<◌, ◌≤◌, ◌⊎◌, ℕ, List, Some, length, slice_get, slice_index, slice_set}
use Rattle.wb_regex.specs.declared.node.RegexNode.{RegexNode}
use Rattle.wb_regex.specs.declared.node.RegexNode.TheVariants as n
use Rattle.wb_automata_positions.specs.declared.places.Place.{Place}
use Rattle.wb_automata_positions.specs.declared.places.Place.TheVariants as p
use Rattle.wb_automata_positions.specs.NodePlaces.{again_place, first_place}
use Rattle.wb_automata_positions.specs.Inner.Parts.{PartsBelow}

-- where the parts of a node go on, with as many nodes as n; and the other nodes as before
abbrev pub linked : ℕ → ℕ → RegexNode → List ℕ → List ℕ
linked count at (n.Set words) next = next
linked count at (n.Sequence i j) next = slice_set (slice_set next i j) j (slice_index next at)
linked count at (n.Choice i j) next = slice_set (slice_set next i (slice_index next at)) j (slice_index next at)
linked count at (n.Star i) next = slice_set next i at
linked count at (n.Plus i) next = slice_set next i (count + at)
linked count at (n.Maybe i) next = slice_set next i (slice_index next at)

-- the parts of the node go on where they should
abbrev pub Continues : List ℕ → ℕ → ℕ → RegexNode → Type 0
Continues next count at (n.Set words) = Unit {0}
Continues next count at (n.Sequence i j) = (slice_index next i ≡ j) × (slice_index next j ≡ slice_index next at)
Continues next count at (n.Choice i j) = (slice_index next i ≡ slice_index next at) × (slice_index next j ≡ slice_index next at)
Continues next count at (n.Star i) = slice_index next i ≡ at
Continues next count at (n.Plus i) = slice_index next i ≡ count + at
Continues next count at (n.Maybe i) = slice_index next i ≡ slice_index next at

-- the node has this part
abbrev pub IsPart : RegexNode → ℕ → Type 0
IsPart (n.Set words) x = ⊥
IsPart (n.Sequence i j) x = (x ≡ i) ⊎ (x ≡ j)
IsPart (n.Choice i j) x = (x ≡ i) ⊎ (x ≡ j)
IsPart (n.Star i) x = x ≡ i
IsPart (n.Plus i) x = x ≡ i
IsPart (n.Maybe i) x = x ≡ i

-- the parts of the node are different
abbrev pub AreDifferent : RegexNode → Type 0
AreDifferent (n.Set words) = Unit {0}
AreDifferent (n.Sequence i j) = i < j
AreDifferent (n.Choice i j) = i < j
AreDifferent (n.Star i) = Unit {0}
AreDifferent (n.Plus i) = Unit {0}
AreDifferent (n.Maybe i) = Unit {0}

-- each node is a part of one node at most, which comes after it, and a root is a part of none
pub record HaveOneParent (nodes : List RegexNode) (roots : List ℕ) : Type 0 where
  pub parts : (k : ℕ) (node : RegexNode) → slice_get nodes k ≡ Some node → PartsBelow k node
  pub different : (k : ℕ) (node : RegexNode) → slice_get nodes k ≡ Some node → AreDifferent node
  pub apart : (i j x : ℕ) (node other : RegexNode) → i < j → slice_get nodes i ≡ Some node → slice_get nodes j ≡ Some other
      → IsPart node x → IsPart other x → ⊥
  pub roots_below : (k : ℕ) → k < length roots → slice_index roots k < length nodes
  pub roots_apart : (k l : ℕ) → k < l → l < length roots → slice_index roots k < slice_index roots l
  pub roots_free : (i k x : ℕ) (node : RegexNode) → k < length roots → slice_get nodes i ≡ Some node → IsPart node x
      → x ≡ slice_index roots k → ⊥

-- each place where a node goes on is below the count
abbrev pub AreNextBelow : ℕ → List ℕ → Type 0
AreNextBelow count next = (i : ℕ) → i < length next → slice_index next i < count

-- the first k roots go on at the ends of their expressions
pub record AreEndsSet (size : ℕ) (roots next : List ℕ) (count k : ℕ) : Type 0 where
  pub len : length next ≡ size
  pub below : AreNextBelow count next
  pub ends : (j : ℕ) → j < k → slice_index next (slice_index roots j) ≡ size + size + j

-- the roots go on at the ends of their expressions, and the parts of the nodes from a place on where they should
pub record AreContinued (nodes : List RegexNode) (roots next : List ℕ) (count at : ℕ) : Type 0 where
  pub ends : AreEndsSet (length nodes) roots next count (length roots)
  pub parts : (j : ℕ) (node : RegexNode) → at ≤ j → slice_get nodes j ≡ Some node → Continues next (length nodes) j node

-- this is at place i: first the nodes have one each, then another one each, and then there are the ends
pub record IsPlaceAt (nodes : List RegexNode) (next : List ℕ) (i : ℕ) (place : Place) : Type 0 where
  pub first : (node : RegexNode) → slice_get nodes i ≡ Some node → place ≡ first_place node (slice_index next i)
  pub again : (j : ℕ) (node : RegexNode) → i ≡ length nodes + j → slice_get nodes j ≡ Some node
      → place ≡ again_place node (slice_index next j)
  pub end : (k : ℕ) → i ≡ length nodes + length nodes + k → place ≡ p.End k

-- these are the first places
pub record AreListed (nodes : List RegexNode) (next : List ℕ) (places : List Place) (i : ℕ) : Type 0 where
  pub len : length places ≡ i
  pub each : (k : ℕ) (place : Place) → slice_get places k ≡ Some place → IsPlaceAt nodes next k place

-- the places are those of the nodes and roots
pub record IsMachine (nodes : List RegexNode) (roots : List ℕ) (places : List Place) : Type 0 where
  pub next : List ℕ
  pub continued : AreContinued nodes roots next (length nodes + length nodes + length roots) 0
  pub listed : AreListed nodes next places (length nodes + length nodes + length roots)
  pub fits : length nodes + length nodes + length roots < 2 ^ 64

-- each node goes on where it should, and all places have numbers
pub record IsWayOn (nodes : List RegexNode) (roots next : List ℕ) : Type 0 where
  pub continued : AreContinued nodes roots next (length nodes + length nodes + length roots) 0
  pub fits : length nodes + length nodes + length roots < 2 ^ 64
