-- Nodes of a production over children, among the trees of a store.
use Rattle.std.specs.Prelude.{◌≡◌, ◌<◌, ℕ, List, Some, length, slice_get}
use Rattle.wb_values.specs.Tree.{Tree, Values, node, value_at}
use Rattle.wb_values.specs.ValuesIn.{tree_in, value_in}
use Rattle.wb_values.specs.declared.value.Value.{Value}

-- the tree of this number is the node of the production over the values
pub record IsNode (trees : List Tree) (p : ℕ) (vs : Values) (id : ℕ) : Type 0 where
  pub held : id < length trees
  pub is : tree_in trees id ≡ node p vs

-- the first values, so many of them, are what these stand for
abbrev pub AreFirst : List Tree → Values → List Value → ℕ → Type 0
AreFirst trees vs children n = (i : ℕ) (v : Value) → i < n → slice_get children i ≡ Some v → value_at vs i ≡ Some (value_in trees v)
