-- Equations by what they are for.
use Rattle.std.specs.Prelude.{◌≡◌, ◌≢◌, ◌<◌, ℕ, suc, List, Some, length, slice_get}
use Rattle.wb_syntax_resolved.specs.declared.equation.Equation.{Equation}
use Rattle.wb_syntax_resolved.specs.declared.equation.Place.TheVariants as place
use Rattle.wb_syntax_resolved.specs.declared.equation.Target.{Target}
use Rattle.wb_syntax_resolved.specs.declared.equation.Target.TheVariants as target
use Rattle.wb_syntax_resolved.specs.declared.production.Production.{Production}
use Rattle.wb_eval_rows.specs.Sparse.{number_at}
use Rattle.wb_eval_rules.specs.declared.equations.Equations.{Equations}

-- the number of the equation for a target, from 1 on, or 0
abbrev pub number_for : Equations → Target → ℕ
number_for index (target.Top y) = number_at index.tops 0 y
number_for index (target.Forward y) = number_at index.forwards 0 y
number_for index (target.Place (place.Child k) y) = number_at index.children k y
number_for index (target.Place (place.Local x) y) = number_at index.locals x y

-- the numbers are those of the first equations, so many: each number leads to an equation for its target, and each equation has one
pub record IsIndexOf (equations : List Equation) (count : ℕ) (index : Equations) : Type 0 where
  pub to : (t : Target) (j : ℕ) → number_for index t ≡ suc j
      → (j < count) × ((e : Equation) × (slice_get equations j ≡ Some e) × (e.target ≡ t))
  pub from : (j : ℕ) (e : Equation) → j < count → slice_get equations j ≡ Some e → number_for index e.target ≢ 0

-- each production has its equations' numbers
pub record AreIndexes (productions : List Production) (rows : List Equations) : Type 0 where
  pub count : length rows ≡ length productions
  pub each : (n : ℕ) (p : Production) (row : Equations) → slice_get productions n ≡ Some p → slice_get rows n ≡ Some row
      → IsIndexOf p.equations (length p.equations) row
