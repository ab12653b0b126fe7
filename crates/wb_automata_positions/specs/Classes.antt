-- Bytes in classes: the bytes of a class are in the same sets.
use Rattle.std.specs.Prelude.{◌≡◌, ◌<◌, ◌≤◌, ℕ, List, Some, length, slice_get, slice_index}
use Rattle.wb_regex.specs.declared.node.RegexNode.{RegexNode}
use Rattle.wb_automata_positions.specs.Leaves.{node_holds}
use Rattle.wb_automata_positions.specs.Rising.{AreRising}

-- each byte has a class, whose first byte is in the same of the first i nodes, and isn't greater
pub record AreClasses (nodes : List RegexNode) (classes firsts : List ℕ) (i : ℕ) : Type 0 where
  pub len : length classes ≡ 256
  pub below : (b : ℕ) → b < 256 → slice_index classes b < length firsts
  pub first : (b : ℕ) → b < 256 → slice_index firsts (slice_index classes b) ≤ b
  pub alike : (b : ℕ) → b < 256 → (p : ℕ) (node : RegexNode) → p < i → slice_get nodes p ≡ Some node → node_holds node b ≡ node_holds node
      (slice_index firsts (slice_index classes b))
  pub rising : AreRising firsts
