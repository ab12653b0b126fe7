-- The instances that are needed for one that is asked, and their count.
use Rattle.std.specs.Prelude.{◌<◌, ℕ, List, All, length}
use Rattle.wb_base.specs.Different.{Differ}
use Rattle.wb_operations.specs.Operations.{Operations}
use Rattle.wb_values.specs.Tree.{Tree, Value}
use Rattle.wb_eval_theory.specs.Answers.{IsNodeAt, HasAnswer}
use Rattle.wb_eval_theory.specs.Instances.{Instance, home}
use Rattle.wb_eval_theory.specs.Walks.{value, Walk, read, walk_of}
use Rattle.wb_syntax_resolved.specs.declared.attribution.AttributionParts.{AttributionParts}

module _ (a : AttributionParts) (operations : Operations) (top : Tree) where
  -- the walk comes to another, after reads that all have values
  pub data Comes : Walk → Walk → Type 0 where
    here : {w : Walk} → Comes w w
    after : {r : Instance} {next : Value → Walk} {v : Value} {w : Walk} → HasAnswer a operations top r (value v) → Comes (next v) w
        → Comes (read r next) w

  -- the first instance reads the second, next after reads that all have values
  pub record ReadsNext (i r : Instance) : Type 0 where
    pub at : Tree
    pub is_node : IsNodeAt a operations top (home i) at
    pub rest : Value → Walk
    pub comes : Comes (walk_of operations a i at) (read r rest)

  -- what is needed for an instance: the least set that has it and, with each instance, those that it reads next
  pub data IsNeeded (asked : Instance) : Instance → Type 0 where
    itself : IsNeeded asked asked
    next : {i r : Instance} → IsNeeded asked i → ReadsNext i r → IsNeeded asked r

  -- more than n instances are needed: a set that may be infinite
  pub record NeedsMoreThan (asked : Instance) (n : ℕ) : Type 0 where
    pub members : List Instance
    pub count : n < length members
    pub different : Differ members
    pub needed : All (IsNeeded asked) members
