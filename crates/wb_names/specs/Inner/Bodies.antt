-- What is written on a production, after what is there.
use Rattle.std.specs.Prelude.{◌≡◌, ◌++◌, ℕ, List, [], Contains, length, map, option_to_list}
use Rattle.std.specs.List.{AllZip}
use Rattle.wb_syntax_resolved.specs.declared.production.Child.{Child}
use Rattle.wb_syntax_resolved.specs.declared.production.Local.{Local}
use Rattle.wb_syntax_resolved.specs.declared.production.Production.{Production}
use Rattle.wb_syntax.specs.declared.expression.Equation as written
use Rattle.wb_names_theory.specs.declared.declaration.Labelled.{Labelled}
use Rattle.wb_names_theory.specs.Declares.{declarations}
use Rattle.wb_names_theory.specs.Meaning.{HasLabel}
use Rattle.wb_names_numbers_theory.specs.Files.{File, equations_on}
use Rattle.wb_names_numbers_theory.specs.Written.{local_equations}
use Rattle.wb_names_numbers_theory.proofs.OneProduction.{local_label}
use Rattle.wb_names_rows.specs.declared.body.Body.{Body}
use Rattle.wb_names_rows.specs.declared.moves.Moves.{Moves}
use Rattle.wb_names_rows.specs.declared.row.Head.{Head}
use Rattle.wb_names_rows.specs.declared.scope.Scope.{Scope}
use Rattle.wb_names_rows.specs.declared.scope.ProductionLabels.{ProductionLabels}
use Rattle.wb_names_rows.specs.Blocks.{AddsBody}
use Rattle.wb_names_rows.specs.Moves.{IsNow, IsChildNow, IsLocalNow, IsForwardNow, IsEquationNow}
use Rattle.wb_names_symbols.specs.Symbols.{AreNumbers}
use Rattle.wb_names_symbols.specs.Lent.{lent_file}
use Rattle.wb_names_symbols.specs.Right.{IsRight}
use Rattle.wb_names.specs.declared.production.Context.{Context}
use Rattle.wb_names_symbols.specs.Writers.{AreWriters}

-- the file of a context
abbrev pub file_of : Context → File
file_of context = lent_file context.file

-- the file's names are right, its numbers are those of its names, and the writers are those of its items
pub record IsContext (c : Context) : Type 0 where
  pub right : IsRight (file_of c)
  pub numbers : AreNumbers (file_of c) c.scope.now c.moves.now
  pub writers : AreWriters c.file.items.now c.file.items.now c.writers.now

-- each label that is declared on the production of this name is one of these
abbrev pub KnowsLabels : File → List ℕ → List (List ℕ) → Type 0
KnowsLabels file name labels =
    (l : List ℕ) (is : Labelled) → HasLabel (declarations file.base file.items) name l is → Contains labels l

-- the labels of children, of locals that are there, and of those that equations make
abbrev pub labels_with : List Child → List Local → List written.Equation → List (List ℕ)
labels_with children locals equations =
    map (λ (c : Child). c.label) children
    ++ (map (λ (l : Local). l.label) locals ++ map (λ (q : written.Equation). local_label q.target) (local_equations equations))

-- what the equations make is added, on a production with these children
pub record IsWritten (s : Scope) (children : List Child) (equations : List written.Equation) (old new : Body) : Type 0 where
  pub labels : ProductionLabels
  pub names : labels.names ≡ labels_with children old.locals.items equations
  pub count : labels.children ≡ length children
  pub adds : AddsBody s labels equations old new

-- what a base's production has in new numbers, but for what is written on it
pub record IsMovedHead (m : Moves) (p : Production) (head : Head) : Type 0 where
  pub name : head.name ≡ p.name
  pub owner_is : head.owner ≡ p.owner
  pub role : head.role ≡ p.role
  pub left : IsNow m.nonterminals.items p.left head.left
  pub children : AllZip (IsChildNow m) p.children head.children
  pub forward : AllZip (IsForwardNow m) (option_to_list p.forward) (option_to_list head.forward)

-- what a base's production has, in new numbers, and what a file writes on it
pub record IsExtendedBody (file : File) (s : Scope) (m : Moves) (p : Production) (children : List Child) (body : Body) : Type 0 where
  pub moved : Body
  pub locals : AllZip (IsLocalNow m) p.locals moved.locals.items
  pub equations : AllZip (IsEquationNow m) p.equations moved.equations.items
  pub written : IsWritten s children (equations_on p.name file.items) moved body

-- what a file writes on a production of its own
pub record IsDeclaredBody (file : File) (s : Scope) (name : List ℕ) (children : List Child) (body : Body) : Type 0 where
  pub empty : Body
  pub no_locals : empty.locals.items ≡ []
  pub no_forwards : empty.forwards.items ≡ []
  pub no_equations : empty.equations.items ≡ []
  pub written : IsWritten s children (equations_on name file.items) empty body
