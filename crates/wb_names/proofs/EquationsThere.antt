-- Each name in what is written on a production is there.
use Rattle.std.proofs.Common.{◌++◌, ℕ, List, All, Contains, slice_get, refl, sym, subst}
use Rattle.std.specs.Prelude.{flat_map}
use Rattle.wb_lemmas.proofs.Elements.{all_from_contained}
use Rattle.wb_lemmas.proofs.Members.{append_contains_left, contains_at, contains_later}
use Rattle.wb_syntax.specs.declared.expression.Equation as written
use Rattle.wb_syntax.specs.declared.production.Child.{Child}
use Rattle.wb_names_theory.specs.declared.usage.Usage.{Usage}
use Rattle.wb_names_theory.specs.declared.usage.Usage.TheVariants as u
use Rattle.wb_names_theory.specs.declared.usage.Wanted.TheVariants as w
use Rattle.wb_names_theory.specs.Declarations.{ProductionDeclaration, productions}
use Rattle.wb_names_theory.specs.Declares.{declarations}
use Rattle.wb_names_theory.specs.Hold.{AreMeant}
use Rattle.wb_names_theory.specs.Uses.{uses, equation_uses, production_uses, kind_uses, child_wanted}
use Rattle.wb_names_numbers_theory.specs.Files.{File, equations_on}
use Rattle.wb_names_numbers_theory.proofs.OwnDeclared.{flat_map_contains}
use Rattle.wb_names_numbers_theory.proofs.Selected.{block_of_equation}
use Rattle.wb_names_numbers_theory.proofs.Used.{equation_used, production_used}
use Rattle.wb_names_rows.specs.declared.scope.Scope.{Scope}
use Rattle.wb_names_rows.specs.declared.scope.ProductionLabels.{ProductionLabels}
use Rattle.wb_names_rows.specs.Blocks.{AreThere, equations_in}
use Rattle.wb_names_rows.specs.Nodes.{EquationIsThere}
use Rattle.wb_names_rows.specs.Scope.{KindIsThere}
use Rattle.wb_names_rows.specs.There.{HasDeclared}
use Rattle.wb_names_rows.proofs.UsesThere.{child_there, equation_there, nonterminal_there}
use Rattle.wb_names.specs.Inner.Bodies.{KnowsLabels}
use Rattle.wb_names_symbols.specs.Writers.{IsWrittenAt}

module _ (file : File) (s : Scope) (has : HasDeclared s (declarations file.base file.items))
    (meant : AreMeant (declarations file.base file.items) (uses file.items)) (labels : ProductionLabels) (name : List ℕ)
    (known : KnowsLabels file name labels.names) where
  one_there : (q : written.Equation) → Contains (equations_on name file.items) q → EquationIsThere s labels q
  one_there q listed =
      let b = block_of_equation name file.items q listed in
      equation_there s (declarations file.base file.items) (uses file.items) has meant labels name known q (λ it more.
      equation_used file.items b.0 b.1 q b.3 it (subst (λ z. Contains (equation_uses z q) it) (sym b.2) more))

  pub all_there : (places : List ℕ) → IsWrittenAt file.items file.items name places → AreThere s labels file.items places
  all_there places is = record {
    within = is.within;
    names = λ place listed. all_from_contained (EquationIsThere s labels) (equations_in (slice_get file.items place)) (λ q more. one_there q
        (subst (λ z. Contains z q) is.equations
        (flat_map_contains (λ (z : ℕ). equations_in (slice_get file.items z)) places place q listed more)));
  }

-- the names in a declared production are there
module _ (file : File) (s : Scope) (has : HasDeclared s (declarations file.base file.items))
    (meant : AreMeant (declarations file.base file.items) (uses file.items)) (x : ProductionDeclaration)
    (listed : Contains (productions file.items) x) where
  pub left_there : Contains s.nonterminals x.production.left
  left_there =
      let it = u.Name x.production.left w.Nonterminal in
      nonterminal_there s (declarations file.base file.items) (uses file.items) has meant x.production.left
      (production_used file.items x listed it (contains_at (production_uses x.role x.production) it 0 refl))

  pub children_there : All (λ (c : Child). KindIsThere s c.kind) x.production.children
  children_there = all_from_contained (λ (c : Child). KindIsThere s c.kind) x.production.children (λ c more.
      let kinds : Child → List Usage = λ c. kind_uses (child_wanted x.role) c.kind in
      let equations = flat_map (equation_uses x.production.name) x.production.equations in
      child_there s (declarations file.base file.items) (uses file.items) has meant x.role c.kind (λ it used.
      production_used file.items x listed it (contains_later (u.Name x.production.left w.Nonterminal) it
      (flat_map kinds x.production.children ++ equations)
      (append_contains_left (flat_map kinds x.production.children) equations it
      (flat_map_contains kinds x.production.children c it more used)))))
