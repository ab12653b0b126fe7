-- Children of stored trees, and the sites that are one step down.
use Rattle.std.specs.Prelude.{◌≡◌, ◌<◌, ℕ, List, Option, Some, None, length}
use Rattle.wb_values.specs.declared.value.TreeId.{TreeId}
use Rattle.wb_values.specs.Tree.{Tree, Value, tree, children_of, value_at}
use Rattle.wb_values.specs.ValuesIn.{tree_in}
use Rattle.wb_eval.specs.Inner.Machines.{HasTree}
use Rattle.wb_eval_memo.specs.Memos.{count, IsBelow}
use Rattle.wb_eval_memo.specs.declared.memo.Memo.{Memo}
use Rattle.wb_eval_memo.specs.declared.sites.Step.{Step}
use Rattle.wb_eval_memo.specs.declared.sites.Step.TheVariants as step

-- the tree has a child there
abbrev pub HasChild : List Tree → TreeId → ℕ → Type 0
HasChild trees id k = (v : Value) × (value_at (children_of (tree_in trees id.0)) k ≡ Some v)

-- it is a tree
abbrev pub IsTreeChild : List Tree → TreeId → ℕ → Type 0
IsTreeChild trees id k = (u : Tree) × (value_at (children_of (tree_in trees id.0)) k ≡ Some (tree u))

-- it is this tree
pub record IsChild (trees : List Tree) (id : TreeId) (k : ℕ) (child : TreeId) : Type 0 where
  pub inside : child.0 < length trees
  pub is : value_at (children_of (tree_in trees id.0)) k ≡ Some (tree (tree_in trees child.0))

-- the site's tree has a tree there, where the step is to a child
abbrev pub IsReady : List Tree → Memo → ℕ → Step → Type 0
IsReady trees m site (step.Child k) = (id : TreeId) × HasTree m site id × (id.0 < length trees) × IsTreeChild trees id k
IsReady trees m site other = Unit {0}

-- the tree that a new site is given
abbrev pub IsGivenTree : List Tree → Memo → ℕ → Step → Option TreeId → Type 0
IsGivenTree trees m site (step.Child k) given =
    (id : TreeId) × (child : TreeId) × HasTree m site id × IsChild trees id k child × (given ≡ Some child)
IsGivenTree trees m site other given = given ≡ None

-- the site is one step down from the other, and has the tree that it is to be given where it is new
abbrev pub IsReached : List Tree → Memo → Memo → ℕ → Step → ℕ → Type 0
IsReached trees old new parent s site =
    (given : Option TreeId) × (count old < count new → IsGivenTree trees old parent s given) × IsBelow old new parent s given site
