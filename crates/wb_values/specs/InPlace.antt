-- The children of a node that lie in place: each ends directly before the next one, and the last directly before the node.
use Rattle.std.specs.Prelude.{◌≡◌, ◌≤◌, ◌+◌, ◌-◌, ◌/◌, ◌%◌, ◌^◌, ◌<◌, ℕ, zero, suc, List, [], ◌∷◌, ◌++◌, length, take, drop, reverse}
use Rattle.std.specs.Prelude.{slice_index_or}
use Rattle.wb_values.specs.declared.value.Value.{Value}
use Rattle.wb_values.specs.declared.value.Value.TheVariants.{Tree as Stored}
use Rattle.wb_values.specs.declared.node.Node.{Node}

-- what stands for a node past the end
abbrev pub no_node : Node
no_node = record { production = 0; size = 0; end = 0; inner = 0 }

-- the node at a place
abbrev pub node_at : List Node → ℕ → Node
node_at nodes place = slice_index_or nodes place no_node

-- how many nodes the tree at a place takes in place
abbrev pub size_at : List Node → ℕ → ℕ
size_at nodes place = (node_at nodes place).size

-- the first values where a digit is 0, and else the second
abbrev pub of_digit : ℕ → List Value → List Value → List Value
of_digit zero others inner = others
of_digit (suc digit) others inner = inner

-- the first fact where a digit is 0, and else the second
abbrev pub AtDigit : ℕ → Type 0 → Type 0 → Type 0
AtDigit zero Other Inner = Other
AtDigit (suc digit) Other Inner = Inner

-- the children of a node, the last first, of which at most so many have a digit, and no more those before them: at the digit 1 a child is
-- the tree that ends at the top, and the next one ends where it begins; each other child is the next of the others
unfoldable pub children_back : ℕ → List Node → ℕ → ℕ → List Value → List Value
children_back zero nodes digits top others = others
children_back (suc count) nodes digits top others =
    of_digit (digits % 2) (take 1 others ++ children_back count nodes (digits / 2) top (drop 1 others))
    (Stored (record { 0 = top - 1 }) ∷ children_back count nodes (digits / 2) (top - size_at nodes (top - 1)) others)

-- the trees in place lie one after the other, from the first place up to the top
unfoldable pub LieInPlace : ℕ → List Node → ℕ → ℕ → ℕ → Type 0
LieInPlace zero nodes digits top first = top ≡ first
LieInPlace (suc count) nodes digits top first =
    AtDigit (digits % 2) (LieInPlace count nodes (digits / 2) top first)
    ((1 ≤ top) × (size_at nodes (top - 1) ≤ top) × LieInPlace count nodes (digits / 2) (top - size_at nodes (top - 1)) first)

-- the children of a node that comes after these, where those not in place are listed, the last first
abbrev pub children_after : List Node → Node → List Value → List Value
children_after before n others = reverse (children_back 32 before n.inner (length before) others)

-- the size of a node that comes after these counts it and the trees in place under it, which begin at the first place
pub record IsSized (before : List Node) (n : Node) : Type 0 where
  pub digits : n.inner < 2 ^ 32
  pub first : ℕ
  pub inside : first ≤ length before
  pub size : n.size + first ≡ suc (length before)
  pub in_place : LieInPlace 32 before n.inner (length before) first

-- so it is with each of the nodes that come after these
abbrev pub AreSized : List Node → List Node → Type 0
AreSized before [] = Unit {0}
AreSized before (n ∷ ns) = IsSized before n × AreSized (before ++ n ∷ []) ns
