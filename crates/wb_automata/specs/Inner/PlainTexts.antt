-- Expressions that are one text alone, by their nodes.
use Rattle.std.specs.Prelude.{◌≡◌, ◌<◌, ◌+◌, ℕ, List, [], ◌∷◌, ◌++◌, Some, length, slice_get}
use Rattle.wb_regex.specs.Matches.{Matches, HoldsByte}
use Rattle.wb_regex.specs.Tree.{Tree}
use Rattle.wb_regex.specs.declared.node.RegexNode.{RegexNode}
use Rattle.wb_regex.specs.declared.node.RegexNode.TheVariants as n

-- each match is the text
abbrev pub MatchesOnly : Tree → List ℕ → Type 0
MatchesOnly tree text = (x : List ℕ) → Matches tree x → x ≡ text

-- each byte of the set is this one
abbrev pub IsSingle : List ℕ → ℕ → Type 0
IsSingle words byte = (c : ℕ) → HoldsByte words c → c ≡ byte

-- the set is a single byte, which comes after the text
abbrev pub AddsSingle : List ℕ → List ℕ → List ℕ → Type 0
AddsSingle words before after = (byte : ℕ) × IsSingle words byte × (after ≡ before ++ byte ∷ [])

-- the node is a single byte, which comes after the text, or a row of its parts
abbrev pub Adds : RegexNode → List ℕ → List ℕ → Type 0
Adds (n.Set words) before after = AddsSingle words before after
Adds (n.Sequence i j) before after = after ≡ before
Adds (n.Choice i j) before after = ⊥
Adds (n.Star i) before after = ⊥
Adds (n.Plus i) before after = ⊥
Adds (n.Maybe i) before after = ⊥

-- the texts before and after each of the first nodes
pub record AreTexts (nodes : List RegexNode) (count : ℕ) (text : List ℕ) (rows : List (List ℕ)) : Type 0 where
  pub len : length rows ≡ count + 1
  pub first : slice_get rows 0 ≡ Some []
  pub last : slice_get rows count ≡ Some text
  pub steps : (k : ℕ) (node : RegexNode) (before after : List ℕ) → k < count → slice_get nodes k ≡ Some node
      → slice_get rows k ≡ Some before → slice_get rows (k + 1) ≡ Some after → Adds node before after

-- the text is that of the first nodes, each a single byte or a row of its parts
abbrev pub IsTextOf : List RegexNode → ℕ → List ℕ → Type 0
IsTextOf nodes count text = (rows : List (List ℕ)) × AreTexts nodes count text rows
