-- The equations of items that write on a production, which are given by their places.
use Rattle.std.specs.Prelude.{◌<◌, ℕ, List, [], Option, Some, None, All, Contains, flat_map, length, slice_get}
use Rattle.wb_syntax.specs.declared.expression.Equation as written
use Rattle.wb_syntax.specs.declared.item.Item.{Item}
use Rattle.wb_syntax.specs.declared.pattern.Pattern.{Pattern}
use Rattle.wb_syntax.specs.Equations.{equations_of}
use Rattle.wb_names_numbers_theory.specs.Written.{makes_attribute, makes_local, makes_forward}
use Rattle.wb_names_rows.specs.declared.body.Body.{Body}
use Rattle.wb_names_rows.specs.declared.scope.Scope.{Scope}
use Rattle.wb_names_rows.specs.declared.scope.ProductionLabels.{ProductionLabels}
use Rattle.wb_names_rows.specs.Nodes.{IsFoundEquation, IsFoundLocal, IsFoundForward, EquationIsThere, AddsAll}

-- the equations of an item, where there is one
abbrev pub equations_in : Option (Item Pattern) → List written.Equation
equations_in None = []
equations_in (Some item) = equations_of item.form

-- the equations of the items at these places, in order
abbrev pub equations_at : List (Item Pattern) → List ℕ → List written.Equation
equations_at items places = flat_map (λ (place : ℕ). equations_in (slice_get items place)) places

-- the places are ones of items, and each name in the equations there is there
pub record AreThere (s : Scope) (labels : ProductionLabels) (items : List (Item Pattern)) (places : List ℕ) : Type 0 where
  pub within : All (λ (place : ℕ). place < length items) places
  pub names : (place : ℕ) → Contains places place → All (EquationIsThere s labels) (equations_in (slice_get items place))

-- what equations make is added to what a production has
pub record AddsBody (s : Scope) (labels : ProductionLabels) (es : List written.Equation) (old new : Body) : Type 0 where
  pub locals : AddsAll (λ (q : written.Equation). makes_local q.target) (IsFoundLocal s labels) es old.locals.items new.locals.items
  pub forwards : AddsAll (λ (q : written.Equation). makes_forward q.target) (IsFoundForward s labels) es old.forwards.items
      new.forwards.items
  pub equations : AddsAll (λ (q : written.Equation). makes_attribute q.target) (IsFoundEquation s labels) es old.equations.items
      new.equations.items
