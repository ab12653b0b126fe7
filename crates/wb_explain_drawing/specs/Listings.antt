-- What is listed of a tree: its nodes and leaves, each before what is below it, from left to right.
use Rattle.std.specs.Prelude.{◌≡◌, ◌+◌, ◌++◌, ◌∷◌, ℕ, List, [], Bool, true, nat_lt, if◌then◌else◌}
use Rattle.wb_values.specs.Tree.{Tree, node, plain, tree, Values, empty, more}
use Rattle.wb_explain_drawing.specs.declared.items.Item.{Item}
use Rattle.wb_explain_drawing.specs.declared.items.Part.{Part}
use Rattle.wb_explain_drawing.specs.declared.items.Part.TheVariants.{Node, Leaf}

-- how many leaves trees and values have
abbrev mutual
  pub leaves_of : Tree → ℕ
  leaves_of (node production children) = leaves_in children

  pub leaves_in : Values → ℕ
  leaves_in empty = 0
  leaves_in (more (plain x) xs) = 1 + leaves_in xs
  leaves_in (more (tree t) xs) = leaves_of t + leaves_in xs

-- a node or a leaf below so many nodes, with so many leaves before it
abbrev pub item : Part → ℕ → ℕ → Item
item part depth leaf = record { part = part; depth = depth; leaf = leaf }

-- what is listed, where that is on one of the first levels
abbrev pub seen : ℕ → Item → List Item
seen levels x = if nat_lt x.depth levels then x ∷ [] else []

-- what is listed of a tree and of values below so many nodes, with so many leaves before them
abbrev mutual
  pub listed : ℕ → ℕ → ℕ → Tree → List Item
  listed levels depth leaf (node production children) =
      seen levels (item (Node production) depth leaf) ++ listed_in levels (depth + 1) leaf children

  pub listed_in : ℕ → ℕ → ℕ → Values → List Item
  listed_in levels depth leaf empty = []
  listed_in levels depth leaf (more (plain x) xs) = seen levels (item Leaf depth leaf) ++ listed_in levels depth (leaf + 1) xs
  listed_in levels depth leaf (more (tree t) xs) =
      listed levels depth leaf t ++ listed_in levels depth (leaf + leaves_of t) xs

-- these are the first of what is listed of the first levels of a tree
abbrev pub IsFirstOf : ℕ → Tree → List Item → Type 0
IsFirstOf levels t items = (rest : List Item) × (listed levels 0 0 t ≡ items ++ rest)

-- these are the first of what is listed of the first levels of a tree, and all of it where it is whole
pub record IsListing (levels : ℕ) (t : Tree) (items : List Item) (whole : Bool) : Type 0 where
  pub rest : List Item
  pub first : listed levels 0 0 t ≡ items ++ rest
  pub all : whole ≡ true → rest ≡ []
