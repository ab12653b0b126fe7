-- The instances that were entered, those that wait for another, and where a walk has come to.
use Rattle.std.specs.Prelude.{◌≡◌, ◌⊎◌, ℕ, List, [], ◌∷◌, Contains}
use Rattle.wb_base.specs.Different.{Differ}
use Rattle.wb_operations.specs.Operations.{Operations}
use Rattle.wb_values.specs.Tree.{Tree, Value}
use Rattle.wb_syntax_resolved.specs.declared.attribution.AttributionParts.{AttributionParts}
use Rattle.wb_eval_theory.specs.Answers.{IsNodeAt, HasAnswer}
use Rattle.wb_eval_theory.specs.Instances.{Instance, root, synthesized_at, home}
use Rattle.wb_eval_theory.specs.Needed.{ReadsNext, IsNeeded}
use Rattle.wb_eval_theory.specs.Walks.{value, Walk, read, walk_of}

module _ (a : AttributionParts) (operations : Operations) (top : Tree) (attribute : ℕ) where
  -- what is asked
  abbrev pub start : Instance
  start = synthesized_at root attribute

  -- from one walk to another, after reads of values of instances that were entered
  pub data Passed (all : List Instance) : Walk → Walk → Type 0 where
    at_once : {w : Walk} → Passed all w w
    by_read : {r : Instance} {next : Value → Walk} {v : Value} {w : Walk} → HasAnswer a operations top r (value v) → Contains all r
        → Passed all (next v) w → Passed all (read r next) w

  -- each instance that waits reads the one above it
  abbrev pub Waiting : List Instance → Instance → List Instance → Type 0
  Waiting all r [] = r ≡ start
  Waiting all r (i ∷ is) =
      (t : Tree) × (next : Value → Walk) × IsNodeAt a operations top (home i) t × Passed all (walk_of operations a i t) (read r next)
      × Waiting all i is

  -- what an instance has that was left
  pub record IsLeft (all : List Instance) (r : Instance) : Type 0 where
    pub value_of : Value
    pub answers : HasAnswer a operations top r (value value_of)
    pub covers : (x : Instance) → ReadsNext a operations top r x → Contains all x

  -- the instances that were entered, the one at work, and those that wait below it
  pub record IsState (all : List Instance) (i : Instance) (is : List Instance) : Type 0 where
    pub different : Differ all
    pub needed : (x : Instance) → Contains all x → IsNeeded a operations top start x
    pub has_start : Contains all start
    pub has_this : (x : Instance) → Contains (i ∷ is) x → Contains all x
    pub waiting : Waiting all i is
    pub known : (x : Instance) → Contains all x → Contains (i ∷ is) x ⊎ IsLeft all x

  -- where the walk of the one at work has come to
  pub record HasCome (all : List Instance) (i : Instance) (w : Walk) : Type 0 where
    pub at : Tree
    pub is_node : IsNodeAt a operations top (home i) at
    pub passed : Passed all (walk_of operations a i at) w
