-- The equations of items, whose nodes are whole expressions.
use Rattle.std.specs.Prelude.{List, [], All}
use Rattle.wb_syntax_expressions.specs.Expression.{IsWhole}
use Rattle.wb_syntax.specs.declared.expression.Equation.{Equation}
use Rattle.wb_syntax.specs.declared.item.Item.{Item}
use Rattle.wb_syntax.specs.declared.item.ItemForm.{ItemForm}
use Rattle.wb_syntax.specs.declared.item.ItemForm.TheVariants as f

-- the equations of a form
abbrev pub equations_of : {P : Type 0} → ItemForm P → List Equation
equations_of (f.Lexical role name pattern) = []
equations_of (f.Plain plain) = []
equations_of (f.Production role production) = production.equations
equations_of (f.Aspect name equations) = equations

-- the nodes of each equation of the item are one whole expression
abbrev pub HasWholeEquations : {P : Type 0} → Item P → Type 0
HasWholeEquations item = All (λ equation. IsWhole equation.nodes) (equations_of item.form)
