-- What is left of a listing, from the nodes that are open.
use Rattle.std.specs.Prelude.{◌≡◌, ◌<◌, ◌+◌, ◌++◌, ◌∷◌, ℕ, zero, suc, List, [], length}
use Rattle.wb_values.specs.Tree.{Tree, Values, empty, more, children_of, count_of}
use Rattle.wb_values.specs.ValuesIn.{tree_in}
use Rattle.wb_explain_drawing.specs.Listings.{leaves_in, listed_in}
use Rattle.wb_explain_drawing.specs.declared.items.Item.{Item}
use Rattle.wb_explain_drawing.specs.declared.walk.Open.{Open}
use Rattle.wb_explain_drawing.specs.declared.walk.Walked.{Walked}
use Rattle.wb_explain_drawing.specs.declared.walk.Walked.TheVariants.{At, End, Stop}

-- the values from a place on
abbrev pub values_from : ℕ → Values → Values
values_from zero xs = xs
values_from (suc place) empty = empty
values_from (suc place) (more x xs) = values_from place xs

-- the children of an open node that are left
abbrev pub left_of : List Tree → Open → Values
left_of store o = values_from o.next (children_of (tree_in store o.id.0))

-- a child of an open node is left
pub record HasNext (store : List Tree) (o : Open) : Type 0 where
  pub there : o.id.0 < length store
  pub place : o.next < count_of (children_of (tree_in store o.id.0))

module _ (levels : ℕ) (store : List Tree) where
  -- what is left of the listing, with so many leaves before it
  abbrev pub remaining : List Open → ℕ → List Item
  remaining [] leaf = []
  remaining (o ∷ os) leaf = listed_in levels (o.depth + 1) leaf (left_of store o) ++ remaining os (leaf + leaves_in (left_of store o))

  -- after a step the listing is what it was: with what is left, or as it is, or there is more of it
  abbrev pub Leads : List Item → List Item → List Open → Walked → Type 0
  Leads all items os (At leaf) = all ≡ items ++ remaining os leaf
  Leads all items os End = all ≡ items
  Leads all items os Stop = (rest : List Item) × (all ≡ items ++ rest)
