-- What is at the nodes of a store of trees, by their numbers.
use Rattle.std.specs.Prelude.{◌≡◌, ◌≢◌, ◌<◌, ◌≤◌, ◌⊎◌, ℕ, List, Some, IfSome, slice_get, length}
use Rattle.wb_values.specs.Signature.{Signature}
use Rattle.wb_values.specs.Tree.{Tree, children_of, count_of, plain, production_of, text, tree as subtree, value_at}
use Rattle.wb_values.specs.ValuesIn.{tree_in}
use Rattle.wb_terms.specs.Printed.{printed_tree}
use Rattle.wb_session_library.specs.Views.{TextView}
use Rattle.wb_session_library.specs.declared.node.Child.{Child}
use Rattle.wb_session_library.specs.declared.node.Child.TheVariants as child
use Rattle.wb_session_library.specs.declared.node.Node.{Node}

-- there is a node of the number, and it is of this production and has so many children
pub record IsNode (store : List Tree) (node : ℕ) (is : Node) : Type 0 where
  pub there : node < length store
  pub production : is.production ≡ production_of (tree_in store node)
  pub children : is.children ≡ count_of (children_of (tree_in store node))

-- there is no node of the number, or it has no child at the place
abbrev pub HasNoChild : List Tree → ℕ → ℕ → Type 0
HasNoChild store node place = (length store ≤ node) ⊎ (count_of (children_of (tree_in store node)) ≤ place)

-- there is a node of the number, and it has a child at the place
pub record HasChild (store : List Tree) (node place : ℕ) : Type 0 where
  pub node_there : node < length store
  pub child_there : place < count_of (children_of (tree_in store node))

-- the child at the place of the node is the tree of this node, which is an earlier one, or no tree
abbrev pub IsThatChild : List Tree → ℕ → ℕ → Child → Type 0
IsThatChild store node place (child.Node number) =
    (value_at (children_of (tree_in store node)) place ≡ Some (subtree (tree_in store number))) × (number < node)
IsThatChild store node place child.Leaf = (other : Tree) → value_at (children_of (tree_in store node)) place ≢ Some (subtree other)

-- there is such a child, and this is what it is
pub record IsChild (store : List Tree) (node place : ℕ) (found : Child) : Type 0 where
  pub there : HasChild store node place
  pub is : IsThatChild store node place found

-- the child at the place of the node is a leaf with this text
pub record IsLeafText (store : List Tree) (node place : ℕ) (bytes : List ℕ) : Type 0 where
  pub there : HasChild store node place
  pub is : value_at (children_of (tree_in store node)) place ≡ Some (plain (text bytes))

-- there is no such child, or it has no text, since it is a node
abbrev pub HasNoText : List Tree → ℕ → ℕ → Type 0
HasNoText store node place =
    HasNoChild store node place ⊎ ((bytes : List ℕ) → value_at (children_of (tree_in store node)) place ≢ Some (plain (text bytes)))

-- the production has this printed name
pub record IsName (signatures : List Signature) (production : ℕ) (name : List ℕ) : Type 0 where
  pub there : production < length signatures
  pub is : IfSome (slice_get signatures production) (λ (s : Signature). name ≡ s.name)

-- the terminal has this printed name
abbrev pub IsTerminalName : List (List ℕ) → ℕ → List ℕ → Type 0
IsTerminalName terminals terminal name = slice_get terminals terminal ≡ Some name

-- there is a node of the number, and these bytes are its printed tree
pub record IsPrinted (view : TextView) (node : ℕ) (bytes : List ℕ) : Type 0 where
  pub there : node < length view.store
  pub is : bytes ≡ printed_tree view.language.signatures (tree_in view.store node)
