-- Rows of productions as they are made before all have numbers: names are those of a scope, and a base's numbers are looked up in tables.
use Rattle.std.specs.Prelude.{◌≡◌, ◌⊎◌, ◌++◌, length, map, option_to_list}
use Rattle.std.specs.List.{AllZip}
use Rattle.wb_syntax_resolved.specs.declared.production.Child.{Child}
use Rattle.wb_syntax_resolved.specs.declared.production.Local.{Local}
use Rattle.wb_syntax_resolved.specs.declared.production.Production.{Production}
use Rattle.wb_names_theory.specs.Declarations.{ProductionDeclaration}
use Rattle.wb_names_numbers_theory.specs.Files.{File, equations_on}
use Rattle.wb_names_numbers_theory.specs.Numbering.{Numbering}
use Rattle.wb_names_numbers_theory.specs.Rows.{production_role}
use Rattle.wb_names_numbers_theory.specs.Sources.{sources, IsFrom}
use Rattle.wb_names_numbers_theory.specs.Written.{local_equations, forward_equations, attribute_equations}
use Rattle.wb_names_rows.specs.declared.moves.Moves.{Moves}
use Rattle.wb_names_rows.specs.declared.scope.Scope.{Scope}
use Rattle.wb_names_rows.specs.declared.scope.ProductionLabels.{ProductionLabels}
use Rattle.wb_names_rows.specs.Moves.{IsNow, IsChildNow, IsLocalNow, IsForwardNow, IsEquationNow}
use Rattle.wb_names_rows.specs.Nodes.{IsAt, IsFoundLocal, IsFoundForward, IsFoundEquation}
use Rattle.wb_names_rows.specs.Scope.{IsFoundChild}

-- the labels of a row
pub record AreLabelsOf (labels : ProductionLabels) (row : Production) : Type 0 where
  pub names : labels.names ≡ map (λ (c : Child). c.label) row.children ++ map (λ (l : Local). l.label) row.locals
  pub count : labels.children ≡ length row.children

module _ (file : File) (s : Scope) (m : Moves) where
  -- the row of a base's production, with its own locals and equations first and then those that the file writes on it
  pub record IsExtendedNow (p row : Production) : Type 0 where
    pub name : row.name ≡ p.name
    pub owner_is : row.owner ≡ p.owner
    pub role : row.role ≡ p.role
    pub left : IsNow m.nonterminals.items p.left row.left
    pub children : AllZip (IsChildNow m) p.children row.children
    pub labels : ProductionLabels
    pub are_labels : AreLabelsOf labels row
    pub locals : AllZip (IsFrom (IsLocalNow m) (IsFoundLocal s labels)) (sources p.locals (local_equations (equations_on p.name file.items)))
        row.locals
    pub forward : AllZip (IsForwardNow m) (option_to_list p.forward) (option_to_list row.forward)
    pub equations : AllZip (IsFrom (IsEquationNow m) (IsFoundEquation s labels))
        (sources p.equations (attribute_equations (equations_on p.name file.items))) row.equations

  -- the row of a production that is declared, with all that the file writes on it
  pub record IsDeclaredNow (d : ProductionDeclaration) (row : Production) : Type 0 where
    pub name : row.name ≡ d.production.name
    pub owner_is : row.owner ≡ file.owner
    pub role : row.role ≡ production_role d.role
    pub left : IsAt s.nonterminals d.production.left row.left
    pub children : (n : Numbering) → AllZip (IsFoundChild s n) d.production.children row.children
    pub labels : ProductionLabels
    pub are_labels : AreLabelsOf labels row
    pub locals : AllZip (IsFoundLocal s labels) (local_equations (equations_on d.production.name file.items)) row.locals
    pub forward : AllZip (IsFoundForward s labels) (forward_equations (equations_on d.production.name file.items)) (option_to_list row.forward)
    pub equations : AllZip (IsFoundEquation s labels) (attribute_equations (equations_on d.production.name file.items)) row.equations

  -- a production's row: one of the base or one that is declared
  abbrev pub IsProductionNow : Production ⊎ ProductionDeclaration → Production → Type 0
  IsProductionNow = IsFrom IsExtendedNow IsDeclaredNow
