-- The nodes of several expressions, one after the other in one list.
use Rattle.std.specs.Prelude.{◌≡◌, ◌+◌, ◌<◌, ℕ, List, [], Some, slice_get, slice_index_or, length, map, ◌++◌}
use Rattle.wb_regex.specs.Tree.{Tree}
use Rattle.wb_automata_positions.specs.Inner.Bounds.{bound_of}
use Rattle.wb_regex.specs.Covers.{Covers}
use Rattle.wb_regex.specs.Filled.{Filled}
use Rattle.wb_regex.specs.Matches.{Matches}
use Rattle.wb_regex.specs.declared.node.RegexNode.{RegexNode}
use Rattle.wb_regex.specs.declared.node.RegexNode.TheVariants as n

-- the node with the places of its parts raised
abbrev pub raised : ℕ → RegexNode → RegexNode
raised m (n.Set words) = n.Set words
raised m (n.Sequence i j) = n.Sequence (m + i) (m + j)
raised m (n.Choice i j) = n.Choice (m + i) (m + j)
raised m (n.Star i) = n.Star (m + i)
raised m (n.Plus i) = n.Plus (m + i)
raised m (n.Maybe i) = n.Maybe (m + i)

-- the nodes of a tree were put after others, and the root is the last of them
pub record AreAdded (old new : List RegexNode) (t : Tree) (root : ℕ) : Type 0 where
  pub source : List RegexNode
  pub covers : Covers source 0 (length source) t
  pub filled : Filled t
  pub not_empty : ¬ Matches t []
  pub joins : new ≡ old ++ map (raised (length old)) source
  pub last : root + 1 ≡ length new

-- from the place m on the nodes are those of the tree, raised
pub record IsPart (nodes : List RegexNode) (m : ℕ) (t : Tree) : Type 0 where
  pub source : List RegexNode
  pub covers : Covers source 0 (length source) t
  pub filled : Filled t
  pub not_empty : ¬ Matches t []
  pub embeds : (k : ℕ) (node : RegexNode) → slice_get source k ≡ Some node → slice_get nodes (m + k) ≡ Some (raised m node)

-- the nodes are those of the first i trees, and the roots are the last nodes of each
pub record AreConcatenated (trees : List Tree) (nodes : List RegexNode) (roots : List ℕ) (i : ℕ) : Type 0 where
  pub len : length nodes ≡ bound_of trees i
  pub roots_len : length roots ≡ i
  pub parts : (k : ℕ) (t : Tree) → k < i → slice_get trees k ≡ Some t → IsPart nodes (bound_of trees k) t
  pub roots_at : (k : ℕ) → k < i → slice_index_or roots k 0 + 1 ≡ bound_of trees (k + 1)
