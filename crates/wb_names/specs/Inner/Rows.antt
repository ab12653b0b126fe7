-- Rows of productions that are added, concrete ones apart from the others.
use Rattle.std.specs.Prelude.{◌≡◌, ◌++◌, ◌∷◌, [], Bool, true, false, not, List, filter}
use Rattle.wb_syntax_resolved.specs.declared.production.Production.{Production}
use Rattle.wb_syntax_resolved.specs.declared.production.ProductionRole.{ProductionRole}
use Rattle.wb_syntax_resolved.specs.declared.production.ProductionRole.TheVariants.{Concrete, Abstract}
use Rattle.wb_names_theory.specs.Declarations.{ProductionDeclaration}
use Rattle.wb_names_numbers_theory.specs.Rows.{production_role}
use Rattle.wb_names_rows.specs.Nodes.{AddsAll}
use Rattle.wb_names.specs.declared.productions.Productions.{Productions}

-- a production of this role is of the concrete grammar
abbrev pub is_concrete : ProductionRole → Bool
is_concrete Concrete = true
is_concrete Abstract = false

abbrev pub has_concrete : Production → Bool
has_concrete p = is_concrete p.role

abbrev pub declares_concrete : ProductionDeclaration → Bool
declares_concrete d = is_concrete (production_role d.role)

-- one row is added, to one list or the other
pub record AddsRow (row : Production) (old new : Productions) : Type 0 where
  pub concrete : new.concrete.items ≡ old.concrete.items ++ filter has_concrete (row ∷ [])
  pub others : new.others.items ≡ old.others.items ++ filter (λ (p : Production). not (has_concrete p)) (row ∷ [])

-- one row for each is added, to one list or the other
pub record AddsProductions {X : Type 0} (test : X → Bool) (IsRow : X → Production → Type 0) (xs : List X) (old new : Productions) : Type 0
  where
    pub concrete : AddsAll test IsRow xs old.concrete.items new.concrete.items
    pub others : AddsAll (λ (x : X). not (test x)) IsRow xs old.others.items new.others.items
