-- What is known of the children of a new node while they are gone through from the last on, and of where a child is.
use Rattle.std.specs.Prelude.{◌≡◌, ◌<◌, ◌≤◌, ◌+◌, ◌*◌, ◌-◌, ◌^◌, ℕ, List, ◌++◌, Some, length, take, drop, reverse, slice_get, count_ones}
use Rattle.wb_values.specs.declared.value.Value.{Value}
use Rattle.wb_values.specs.declared.value.Value.TheVariants.{Tree as Stored}
use Rattle.wb_values.specs.declared.node.Node.{Node}
use Rattle.wb_values.specs.declared.layout.Layout.{Layout}
use Rattle.wb_values.specs.declared.walk.Position.{Position}
use Rattle.wb_values.specs.declared.walk.Position.TheVariants as position
use Rattle.wb_values.specs.InPlace.{node_at, children_back, LieInPlace}
use Rattle.wb_values.specs.Inner.Begin.{begin}

-- the digits so far are below the next one, and the trees so far begin among the nodes
abbrev pub IsWithin : List Node → Layout → Type 0
IsWithin nodes layout = (layout.digits < layout.unit) × (layout.top ≤ length nodes)

-- these children are gone through, the last first, and those of them that don't lie in place were listed after the start: whatever digits and
-- others come next, they stand for what is before these children
pub record IsLayout (nodes : List Node) (start listed done : List Value) (layout : Layout) : Type 0 where
  pub others : List Value
  pub listed_are : listed ≡ start ++ others
  pub few : length others ≤ length done
  pub used : ℕ
  pub left : ℕ
  pub digits : used + left ≡ 32
  pub unit : layout.unit ≡ 2 ^ used
  pub within : IsWithin nodes layout
  pub stands : (d : ℕ) (os : List Value) →
      children_back 32 nodes (layout.digits + layout.unit * d) (length nodes) (others ++ os) ≡ done ++ children_back left nodes d layout.top os
  pub lies : (d first : ℕ) → LieInPlace left nodes d layout.top first →
      LieInPlace 32 nodes (layout.digits + layout.unit * d) (length nodes) first

-- the digits and what was listed stand for these children, all that a node has
pub record IsWhole (nodes : List Node) (start listed children : List Value) (layout : Layout) : Type 0 where
  pub others : List Value
  pub listed_are : listed ≡ start ++ others
  pub few : length others ≤ length children
  pub digits : layout.digits < 2 ^ 32
  pub top : layout.top ≤ length nodes
  pub stands : reverse (children_back 32 nodes layout.digits (length nodes) others) ≡ children
  pub lies : LieInPlace 32 nodes layout.digits (length nodes) layout.top

-- the children of the node at a place, the last first
abbrev pub backwards : List Node → List Value → ℕ → Node → List Value
backwards nodes values k n =
    children_back 32 (take k nodes) n.inner k (take (n.end - begin 0 nodes k) (drop (begin 0 nodes k) values))

-- a walk over the children of the node of a tree, from the last one on, to the one before so many others: it came to these digits, to the
-- end of the trees in place that are left, to the next of the others, and has so many children to go
pub record IsWalk (nodes : List Node) (tree after digits top at left : ℕ) : Type 0 where
  pub count : ℕ
  pub few : digits < 2 ^ count
  pub below : top ≤ tree
  pub first : ℕ
  pub lies : LieInPlace count (take tree nodes) digits top first
  pub inside : left < count_ones digits + ((node_at nodes tree).end - at)
  pub reaches : (values : List Value) (child : Value) → (node_at nodes tree).end ≤ length values →
      slice_get (backwards nodes values tree (node_at nodes tree)) after ≡ Some child →
      slice_get (children_back count (take tree nodes) digits top (take ((node_at nodes tree).end - at) (drop at values))) left ≡ Some child

-- a walk over the children of the node of a tree, from the last one on, that lists them after others: it came to these digits, to the end of
-- the trees in place that are left, and to the next of the others
pub record IsListing (nodes : List Node) (values : List Value) (tree digits top at : ℕ) (start listed : List Value) : Type 0 where
  pub count : ℕ
  pub few : digits < 2 ^ count
  pub below : top ≤ tree
  pub first : ℕ
  pub lies : LieInPlace count (take tree nodes) digits top first
  pub done : List Value
  pub listed_are : listed ≡ start ++ done
  pub stands : done ++ children_back count (take tree nodes) digits top (take ((node_at nodes tree).end - at) (drop at values))
      ≡ backwards nodes values tree (node_at nodes tree)

-- the position is that of a child: a tree in place, or one of the values
abbrev pub IsPosition : List Value → Value → Position → Type 0
IsPosition values child (position.Tree id) = child ≡ Stored (record { 0 = id })
IsPosition values child (position.Cell at) = slice_get values at ≡ Some child
