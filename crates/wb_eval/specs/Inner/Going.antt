-- What code on a stack of values is: a walk.
use Rattle.std.specs.Prelude.{ℕ, zero, suc, List, [], ◌∷◌, Some}
use Rattle.wb_operations.specs.Operations.{Operations}
use Rattle.wb_values.specs.Tree.{tree, node, Value, Values, empty, more}
use Rattle.wb_eval_rules.specs.Code.{visit, build, call, stay, Way, next, skip, unless, Instruction, does}
use Rattle.wb_eval_theory.specs.Instances.{Path}
use Rattle.wb_eval_theory.specs.Walks.{Walk, missing, branch, with_call, walk_expression, finish}

-- the first values of a stack, so many, the first of them last, and those below
abbrev pub popped : ℕ → List Value → Values → Values
popped zero values us = us
popped (suc n) [] us = us
popped (suc n) (v ∷ values) us = popped n values (more v us)

abbrev pub below : ℕ → List Value → List Value
below zero values = values
below (suc n) [] = []
below (suc n) (v ∷ values) = below n values

abbrev pub on_top : List Value → (Value → List Value → Walk) → Walk
on_top [] on = missing
on_top (v ∷ values) on = on v values

-- on with the value of an instruction, where code goes on so after it
abbrev pub go : (ℕ → List Value → Walk) → Way → Value → List Value → Walk
go on next v values = on zero (v ∷ values)
go on (skip n) v values = on n (v ∷ values)
go on (unless n) v values = branch v (on zero values) (on n values)

module _ (operations : Operations) (q : Path) (vs : Values) where
  -- the walk that code is, on these values, after so many instructions that are left out
  unfoldable pub resume : List Instruction → ℕ → List Value → Walk
  resume [] n values = on_top values (λ v rest. finish operations v)
  resume (i ∷ code) (suc n) values = resume code n values
  resume (does (visit e) way ∷ code) zero values = walk_expression operations q vs e (λ v. go (resume code) way v values)
  resume (does (build production n) way ∷ code) zero values =
      go (resume code) way (tree (node production (popped n values empty))) (below n values)
  resume (does (call operation n) way ∷ code) zero values =
      with_call operations (Some operation) (popped n values empty) (λ v. go (resume code) way v (below n values))
  resume (does stay way ∷ code) zero values = on_top values (go (resume code) way)

-- a stack with more values, the last on top
abbrev pub pushed : Values → List Value → List Value
pushed empty values = values
pushed (more u us) values = pushed us (u ∷ values)
