-- The trees that the nodes of a store stand for, where their children lie in place, or one after the other in a list of values.
use Rattle.std.specs.Prelude.{◌≡◌, ◌≤◌, ℕ, suc, ◌-◌, List, [], ◌∷◌, ◌++◌, length, take, drop, All}
use Rattle.wb_values.specs.Tree.{Tree, node}
use Rattle.wb_values.specs.ValuesIn.{values_in, IsIn}
use Rattle.wb_values.specs.declared.value.Value.{Value}
use Rattle.wb_values.specs.declared.node.Node.{Node}
use Rattle.wb_values.specs.InPlace.{children_after, AreSized}

-- a production with its stored children
abbrev pub Built : Type 0
Built = ℕ × List Value

-- the nodes that come after these, as productions with their children: those not in place are the values from one end to the next, for the
-- first node from this place on
abbrev pub built_from : List Node → ℕ → List Value → List Node → List Built
built_from before start values [] = []
built_from before start values (n ∷ ns) =
    (n.production, children_after before n (take (n.end - start) (drop start values))) ∷ built_from (before ++ n ∷ []) n.end values ns

-- the tree that a production with its children stands for
abbrev pub tree_of : List Tree → Built → Tree
tree_of trees b = node b.0 (values_in trees b.1)

-- these trees, and those of the further nodes after them, the first first
unfoldable pub grown : List Tree → List Built → List Tree
grown trees [] = trees
grown trees (b ∷ bs) = grown (trees ++ tree_of trees b ∷ []) bs

-- the trees of a store
unfoldable pub trees_of : List Node → List Value → List Tree
trees_of nodes values = grown [] (built_from [] 0 values nodes)

-- each node, the first of which is the tree of this number, names lower trees alone
abbrev pub IsOrdered : ℕ → List Built → Type 0
IsOrdered number [] = Unit {0}
IsOrdered number (b ∷ bs) = All (IsIn number) b.1 × IsOrdered (suc number) bs

-- the values of the nodes lie one after the other, from one place to another
abbrev pub IsLaid : ℕ → List Node → ℕ → Type 0
IsLaid start [] end = start ≡ end
IsLaid start (n ∷ ns) end = (start ≤ n.end) × IsLaid n.end ns end

-- nodes and values are those of a store
pub record IsStore (nodes : List Node) (values : List Value) : Type 0 where
  pub laid : IsLaid 0 nodes (length values)
  pub sized : AreSized [] nodes
  pub ordered : IsOrdered 0 (built_from [] 0 values nodes)
