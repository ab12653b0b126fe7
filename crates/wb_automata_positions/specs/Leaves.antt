-- Which bytes the leaves of expressions hold.
use Rattle.std.specs.Prelude.{ℕ, ◌/◌, ◌%◌, ◌==◌, ◌&&◌, slice_index, List, [], Bool, false, slice_index_or}
use Rattle.wb_regex.specs.declared.node.RegexNode.{RegexNode}
use Rattle.wb_regex.specs.declared.node.RegexNode.TheVariants as n
use Rattle.std.specs.Int.{bit_at}

-- the bits of these words say that the byte is in the set
abbrev pub has_byte : List ℕ → ℕ → Bool
has_byte words b = (b / 256 == 0) && (bit_at (slice_index words (b / 64)) (b % 64) == 1)

-- the node is a leaf that holds the byte
abbrev pub node_holds : RegexNode → ℕ → Bool
node_holds (n.Set words) b = has_byte words b
node_holds (n.Sequence i j) b = false
node_holds (n.Choice i j) b = false
node_holds (n.Star i) b = false
node_holds (n.Plus i) b = false
node_holds (n.Maybe i) b = false

abbrev pub holds_of : List RegexNode → ℕ → ℕ → Bool
holds_of nodes p b = node_holds (slice_index_or nodes p (n.Set [])) b
