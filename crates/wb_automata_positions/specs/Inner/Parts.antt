-- Nodes whose parts come before them.
use Rattle.std.specs.Prelude.{◌≡◌, ℕ, ◌<◌, List, slice_get, Some}
use Rattle.wb_regex.specs.declared.node.RegexNode.{RegexNode}
use Rattle.wb_regex.specs.declared.node.RegexNode.TheVariants as n

-- the parts have places below this
abbrev pub PartsBelow : ℕ → RegexNode → Type 0
PartsBelow m (n.Set words) = Unit {0}
PartsBelow m (n.Sequence i j) = (i < m) × (j < m)
PartsBelow m (n.Choice i j) = (i < m) × (j < m)
PartsBelow m (n.Star i) = i < m
PartsBelow m (n.Plus i) = i < m
PartsBelow m (n.Maybe i) = i < m

abbrev pub AreParts : List RegexNode → Type 0
AreParts nodes = (k : ℕ) (node : RegexNode) → slice_get nodes k ≡ Some node → PartsBelow k node
