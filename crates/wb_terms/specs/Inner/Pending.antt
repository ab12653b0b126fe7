-- What is still to be printed.
use Rattle.std.specs.Prelude.{◌≡◌, ℕ, zero, suc, ◌+◌, ◌<◌, ◌≤◌, List, [], ◌∷◌, ◌++◌, Option, None, Some, Bool, true, false, length, take, drop, reverse, All}
use Rattle.wb_values.specs.Signature.{Signature}
use Rattle.wb_values.specs.Tree.{Tree, node, Value, plain, tree, Values, empty, more, children_of}
use Rattle.wb_values.specs.ValuesIn.{tree_in, value_in, values_in, IsIn}
use Rattle.wb_values.specs.declared.value.TreeId.{TreeId}
use Rattle.wb_values.specs.declared.value.Value.{Value as Stored}
use Rattle.wb_values.specs.declared.value.Value.TheVariants.{Tree as Subtree}
use Rattle.wb_terms.specs.declared.print.Begun.{Begun}
use Rattle.wb_terms.specs.declared.print.Current.{Current}
use Rattle.wb_terms.specs.declared.print.Next.{Next}
use Rattle.wb_terms.specs.Printed.{printed_tree, printed_value, printed_children, printed_others}

-- what comes before a child: nothing before the first one
abbrev pub before : Bool → List ℕ
before true = []
before false = 44 ∷ 32 ∷ []

-- so many closing parentheses
abbrev pub closing : ℕ → List ℕ
closing zero = []
closing (suc n) = 41 ∷ closing n

-- a tree with so many parentheses after it
abbrev pub next_text : List Signature → List Tree → ℕ → ℕ → List ℕ
next_text signatures trees t closes = printed_tree signatures (tree_in trees t) ++ closing closes

-- children, of which the first alone has no separator before it
abbrev pub children_text : Bool → List Signature → Values → List ℕ
children_text true signatures children = printed_children signatures children
children_text false signatures children = printed_others signatures children

-- the children that are left of a tree that is begun, where they are the values from a place on, the last first
abbrev pub children_left : List Tree → ℕ → List Stored → Values
children_left trees below values = values_in trees (reverse (drop below values))

-- the text of what is left to be printed, of the last tree first: the children that are left, and what closes it
abbrev pub text_left : Bool → List Signature → List Tree → List Stored → List Begun → List ℕ
text_left first signatures trees values [] = []
text_left first signatures trees values (o ∷ os) =
    children_text first signatures (children_left trees o.below values)
    ++ (closing o.closes ++ text_left false signatures trees (take o.below values) os)

-- the same with the tree whose children come next
abbrev pub current_text : List Signature → List Tree → List Stored → Current → List Begun → List ℕ
current_text signatures trees values c os = text_left c.first signatures trees values (c.begun ∷ os)

-- how many steps it takes
abbrev mutual
  pub tree_weight : Tree → ℕ
  tree_weight (node production children) = children_weight children

  pub value_weight : Value → ℕ
  value_weight (plain c) = 0
  value_weight (tree t) = tree_weight t

  pub children_weight : Values → ℕ
  children_weight empty = 1
  children_weight (more x xs) = 1 + (value_weight x + children_weight xs)

abbrev pub weight_left : List Tree → List Stored → List Begun → ℕ
weight_left trees values [] = 0
weight_left trees values (o ∷ os) = children_weight (children_left trees o.below values) + weight_left trees (take o.below values) os

-- the children of each tree are some of those values that are left without the children of the trees after it
abbrev pub AreNested : ℕ → List Begun → Type 0
AreNested count [] = Unit {0}
AreNested count (o ∷ os) = (o.below ≤ count) × AreNested o.below os

-- the trees among the values are the first so many of the store
abbrev pub ArePendingIn : ℕ → List Stored → List Begun → Type 0
ArePendingIn count values os = All (IsIn count) values × AreNested (length values) os

-- a value is appended, or is this tree, and then nothing is appended
abbrev pub Appends : List ℕ → List ℕ → Stored → Option TreeId → Type 0
Appends old new value None = (signatures : List Signature) (trees : List Tree) → new ≡ old ++ printed_value signatures (value_in trees value)
Appends old new value (Some id) = (value ≡ Subtree id) × (new ≡ old)

-- names are appended down to a tree, of which the children are left
pub record Descends (signatures : List Signature) (trees : List Tree) (old new : List ℕ) (next last : Next) : Type 0 where
  pub text : new ++ (printed_children signatures (children_of (tree_in trees last.tree.0)) ++ closing last.closes)
      ≡ old ++ next_text signatures trees next.tree.0 next.closes
  pub weight : children_weight (children_of (tree_in trees last.tree.0)) ≤ tree_weight (tree_in trees next.tree.0)
  pub within : last.tree.0 < length trees

-- a tree is begun, or one below it
pub record Begins (signatures : List Signature) (trees : List Tree) (old new : List ℕ) (next : Next) (values others : List Stored)
    (current : Current) : Type 0 where
  pub text : (os : List Begun) → new ++ current_text signatures trees others current os
      ≡ old ++ (next_text signatures trees next.tree.0 next.closes ++ text_left false signatures trees values os)
  pub weight : (os : List Begun) → weight_left trees others (current.begun ∷ os)
      ≤ tree_weight (tree_in trees next.tree.0) + weight_left trees values os
  pub pending : (os : List Begun) → AreNested (length values) os → ArePendingIn (length trees) others (current.begun ∷ os)

-- trees that are begun are kept with so many values, but for the first where it has no children left: then it is so many parentheses
pub record Keeps (count : ℕ) (os kept : List Begun) (closes : ℕ) : Type 0 where
  pub text : (signatures : List Signature) (trees : List Tree) (values : List Stored) → length values ≡ count
      → closing closes ++ text_left false signatures trees values kept ≡ text_left false signatures trees values os
  pub weight : (trees : List Tree) (values : List Stored) → length values ≡ count
      → weight_left trees values kept ≤ weight_left trees values os
  pub nested : AreNested count os → AreNested count kept

-- what is printed and left is as before, and less of it is left
pub record Steps (signatures : List Signature) (trees : List Tree) (old new : List ℕ) (was : Current) (values others : List Stored)
    (os qs : List Begun) (current : Current) : Type 0 where
  pub text : new ++ current_text signatures trees others current qs ≡ old ++ current_text signatures trees values was os
  pub weight : weight_left trees others (current.begun ∷ qs) < weight_left trees values (was.begun ∷ os)
  pub pending : ArePendingIn (length trees) others (current.begun ∷ qs)
