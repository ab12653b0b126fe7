-- Specifications that are the same but for the places of their items and equations.
use Rattle.std.specs.Prelude.{◌≡◌, ℕ, List, map}
use Rattle.wb_syntax.specs.declared.expression.Equation.{Equation}
use Rattle.wb_syntax.specs.declared.production.Production.{Production}
use Rattle.wb_syntax.specs.declared.item.Item.{Item}
use Rattle.wb_syntax.specs.declared.item.ItemForm.{ItemForm}
use Rattle.wb_syntax.specs.declared.item.ItemForm.TheVariants as f
use Rattle.wb_syntax.specs.declared.pattern.Pattern.{Pattern}
use Rattle.wb_syntax.specs.SpecText.{SpecView, IsSpecText}

-- the equation without its place
abbrev pub unplaced_equation : Equation → Equation
unplaced_equation e = record e { offset = 0 }

-- the production without the places of its equations
abbrev pub unplaced_production : Production → Production
unplaced_production q = record q { equations = map unplaced_equation q.equations }

-- the form without the places of its equations
abbrev pub unplaced_form : ItemForm Pattern → ItemForm Pattern
unplaced_form (f.Lexical role name pattern) = f.Lexical role name pattern
unplaced_form (f.Plain plain) = f.Plain plain
unplaced_form (f.Production role production) = f.Production role (unplaced_production production)
unplaced_form (f.Aspect name equations) = f.Aspect name (map unplaced_equation equations)

-- the item without its place and those of its equations
abbrev pub unplaced : Item Pattern → Item Pattern
unplaced item = record { offset = 0; form = unplaced_form item.form }

-- the two are the same but for places
pub record AreSameButPlaces (one other : SpecView) : Type 0 where
  pub format : one.format ≡ other.format
  pub name : one.name ≡ other.name
  pub header : one.header ≡ other.header
  pub items : map unplaced one.items ≡ map unplaced other.items

-- the text is a specification that is the same as this one but for places
pub record ReadsBack (spec : SpecView) (text : List ℕ) : Type 0 where
  pub other : SpecView
  pub read : IsSpecText text other
  pub same : AreSameButPlaces other spec
