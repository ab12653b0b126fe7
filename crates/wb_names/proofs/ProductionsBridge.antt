-- A production's row, in names of a scope and numbers by tables, is the row of what the file stands for.
use Rattle.std.proofs.Common.{◌≡◌, ◌<◌, ◌++◌, ◌∷◌, ◌⊎◌, inl, inr, [], ℕ, List, Option, Some, None, All, Contains, length, map, slice_get}
use Rattle.std.proofs.Common.{ap, sym, subst, ◌∙◌, arith}
use Rattle.std.specs.Prelude.{IfSome, option_map, option_to_list}
use Rattle.std.specs.List.{AllZip}
use Rattle.std.proofs.lemmas.List.{length-map}
use Rattle.std.proofs.lemmas.Option.{slice_get-map}
use Rattle.std.proofs.lemmas.Simd.{map-map}
use Rattle.wb_lemmas.proofs.Elements.{all_contained, all_weaker}
use Rattle.wb_lemmas.proofs.Members.{contains_cases, contains_first, contains_later, nothing_in, place_of}
use Rattle.wb_lemmas.proofs.Places.{append_before, at_within}
use Rattle.wb_lemmas.proofs.Zips.{zip_at, zip_weaker}
use Rattle.wb_syntax_resolved.specs.declared.equation.Equation.{Equation}
use Rattle.wb_syntax_resolved.specs.declared.production.Child.{Child}
use Rattle.wb_syntax_resolved.specs.declared.production.Forward.{Forward}
use Rattle.wb_syntax_resolved.specs.declared.production.Local.{Local}
use Rattle.wb_syntax_resolved.specs.declared.production.Production.{Production}
use Rattle.wb_syntax_resolved.specs.Expression.{Node}
use Rattle.wb_syntax_resolved.specs.Named.{IsNamedProduction, IsNamedLocal, IsNamedEquation, IsNamedExpression, IsNamedNode}
use Rattle.wb_syntax_resolved.specs.Once.{Entry}
use Rattle.wb_syntax_resolved.specs.Owners.{Sees}
use Rattle.wb_syntax.specs.declared.expression.Equation as written
use Rattle.wb_names_theory.specs.Declarations.{ProductionDeclaration, productions}
use Rattle.wb_names_numbers_theory.specs.Files.{File, equations_on}
use Rattle.wb_names_numbers_theory.specs.Given.{IsFile}
use Rattle.wb_names_numbers_theory.specs.Moved.{Move, IsMovedNumber, IsMovedChild, IsMovedLocal, IsMovedForward, IsMovedEquation}
use Rattle.wb_names_numbers_theory.specs.Numbering.{Numbering, labels_in}
use Rattle.wb_names_numbers_theory.specs.Resolves.{move_of, IsProduction}
use Rattle.wb_names_numbers_theory.specs.Rows.{IsProductionRow, IsExtendedProduction}
use Rattle.wb_names_numbers_theory.specs.Sources.{sources, IsFrom}
use Rattle.wb_names_numbers_theory.specs.Written.{local_equations, forward_equations, attribute_equations}
use Rattle.wb_names_numbers_theory.specs.Written.{IsWrittenChild, IsWrittenEquation, IsWrittenLocal, IsWrittenForward}
use Rattle.wb_names_numbers_theory.proofs.Ground.{hosts}
use Rattle.wb_names_numbers_theory.proofs.RowLemmas.{contains_map, source_before, source_of_zip}
use Rattle.wb_names_rows.specs.declared.moves.Moves.{Moves}
use Rattle.wb_names_rows.specs.declared.scope.Scope.{Scope}
use Rattle.wb_names_rows.specs.declared.scope.ProductionLabels.{ProductionLabels}
use Rattle.wb_names_rows.specs.Moves.{IsChildNow, IsLocalNow, IsForwardNow, IsEquationNow}
use Rattle.wb_names_rows.specs.Nodes.{IsFoundEquation, IsFoundForward, IsFoundLocal}
use Rattle.wb_names_rows.specs.Scope.{IsScope, AreLabels, IsFoundChild}
use Rattle.wb_names_rows.proofs.BaseMoved.{Stays, IsNodeIn, moved_local, moved_forward, moved_equation}
use Rattle.wb_names_rows.proofs.BaseWithin.{node_in, target_in}
use Rattle.wb_names_rows.proofs.FoundLemmas.{found_equation, found_local, found_forward}
use Rattle.wb_names_rows.proofs.MovedLemmas.{AreMoves, moved_child}
use Rattle.wb_names_rows.proofs.ScopeLemmas.{is_number}
use Rattle.wb_names_symbols.specs.Symbols.{AreNumbers}
use Rattle.wb_names.specs.Inner.Now.{AreLabelsOf, IsExtendedNow, IsDeclaredNow, IsProductionNow}

-- another relation holds, where it follows for each element
zip_listed : {A B : Type 0} (R S : A → B → Type 0) (xs : List A) (ys : List B) → ((x : A) (y : B) → Contains xs x → R x y → S x y)
    → AllZip R xs ys → AllZip S xs ys
zip_listed R S [] [] gives all = tt
zip_listed R S [] (y ∷ ys) gives all = absurd all
zip_listed R S (x ∷ xs) [] gives all = absurd all
zip_listed R S (x ∷ xs) (y ∷ ys) gives all =
    (gives x y (contains_first x xs) all.0, zip_listed R S xs ys (λ z w has r. gives z w (contains_later x z xs has) r) all.1)

-- a fact of what is there, where it is listed
some_listed : {X : Type 0} (P : X → Type 0) (o : Option X) → IfSome o P → (x : X) → Contains (option_to_list o) x → P x
some_listed P None is x has = absurd (nothing_in x has)
some_listed P (Some y) is x has =
    elim (contains_cases y x [] has) [ inl same ↦ subst P same is | inr more ↦ absurd (nothing_in x more) ]

-- labels of a row, where the owner sees its locals
row_labels : (labels : ProductionLabels) (row : Production) (owner : ℕ) → AreLabelsOf labels row
    → ((l : Local) → Contains row.locals l → Sees owner l.owner) → AreLabels labels (labels_in row) owner
row_labels labels row owner are seen = record {
  names = are.names
      ∙ ap (λ z. map (λ (c : Child). c.label) row.children ++ z)
      (sym (map-map (λ (e : Entry). e.1) (λ (l : Local). (l.owner, l.label)) row.locals));
  count = are.count ∙ sym (length-map row.children (λ (c : Child). c.label));
  seen = λ e has.
      let x = contains_map (λ (l : Local). (l.owner, l.label)) row.locals e has in
      subst (λ (z : Entry). Sees owner z.0) x.2 (seen x.0 x.1);
}

module _ (file : File) (s : Scope) (m : Moves) (n : Numbering) (is_file : IsFile file) (numbers : AreNumbers file s m)
    (scope : IsScope s n) (are : AreMoves m (move_of file n)) (stay : Stays (move_of file n)) where
  abbrev move : Move
  move = move_of file n

  -- a declared production
  declared_row : (d : ProductionDeclaration) (row : Production) → IsDeclaredNow file s m d row → IsProductionRow n s.owner file.items d row
  declared_row d row e =
      let es = equations_on d.production.name file.items in
      let labels : AreLabels e.labels (labels_in row) s.owner =
      row_labels e.labels row s.owner e.are_labels (λ l has.
      let (i, at) = place_of row.locals l has in
      let x = source_of_zip (IsFoundLocal s e.labels) (local_equations es) row.locals e.locals i l at in inr x.is_row.owner) in
      record {
        name = e.name;
        owner_is = e.owner_is ∙ sym numbers.owner;
        role = e.role;
        left = is_number s.nonterminals n.nonterminals s.owner scope.nonterminals d.production.left row.left e.left;
        children = zip_weaker (IsFoundChild s n) (IsWrittenChild n s.owner) (λ x y found. found scope) d.production.children row.children
            (e.children n);
        locals = zip_weaker (IsFoundLocal s e.labels) (IsWrittenLocal n s.owner (labels_in row))
            (found_local s n scope e.labels (labels_in row) labels) (local_equations es) row.locals e.locals;
        forward = zip_weaker (IsFoundForward s e.labels) (IsWrittenForward n s.owner (labels_in row))
            (found_forward s n scope e.labels (labels_in row) labels) (forward_equations es) (option_to_list row.forward) e.forward;
        equations = zip_weaker (IsFoundEquation s e.labels) (IsWrittenEquation n s.owner (labels_in row))
            (found_equation s n scope e.labels (labels_in row) labels) (attribute_equations es) row.equations e.equations;
      }

  module _ (p row : Production) (has : Contains file.base.attributes.productions p) (e : IsExtendedNow file s m p row) where
    abbrev es : List written.Equation
    es = equations_on p.name file.items

    abbrev old : List (Local ⊎ written.Equation)
    old = sources p.locals (local_equations es)

    named_production : IsNamedProduction file.base.attributes p
    named_production =
        all_contained (IsNamedProduction file.base.attributes) file.base.attributes.productions p is_file.base.attributes.named.productions
        has

    -- the owner sees its locals
    local_owner : (x : Local ⊎ written.Equation) (l : Local) → Contains old x → IsFrom (IsLocalNow m) (IsFoundLocal s e.labels) x l
        → Sees s.owner l.owner
    local_owner (inl x) l more now =
        inl (now.owner
        ∙ (hosts file.base is_file.base is_file.alone).locals p has x (source_before p.locals (local_equations es) x more))
    local_owner (inr q) l more found = inr found.owner

    labels : AreLabels e.labels (labels_in row) s.owner
    labels = row_labels e.labels row s.owner e.are_labels (λ l more.
        let (i, at) = place_of row.locals l more in
        let x = source_of_zip (IsFrom (IsLocalNow m) (IsFoundLocal s e.labels)) old row.locals e.locals i l at in
        local_owner x.source l x.listed x.is_row)

    -- the base's locals keep their places
    local_stays : (k : ℕ) → k < length (labels_in p).locals
        → IsMovedNumber move.owner_in (labels_in p).locals (labels_in row).locals k k
    local_stays k within =
        let inside : k < length p.locals =
        let c : length (labels_in p).locals ≡ length p.locals = length-map p.locals (λ (l : Local). (l.owner, l.label)) in
        omega (arith, c, within) in
        let x = at_within p.locals k inside in
        let left : Local → Local ⊎ written.Equation = inl in
        let right : written.Equation → Local ⊎ written.Equation = inr in
        let mapped : k < length (map left p.locals) =
        let c : length (map left p.locals) ≡ length p.locals = length-map p.locals left in omega (arith, c, inside) in
        let there : slice_get old k ≡ Some (left x.0) =
        append_before (map left p.locals) (map right (local_equations es)) k mapped
        ∙ (slice_get-map left p.locals k ∙ ap (option_map left) x.1) in
        let y = zip_at (IsFrom (IsLocalNow m) (IsFoundLocal s e.labels)) old row.locals k (left x.0) e.locals there in
        record {
          owner = x.0.owner;
          name = x.0.label;
          before = slice_get-map (λ (l : Local). (l.owner, l.label)) p.locals k ∙ ap (option_map (λ (l : Local). (l.owner, l.label))) x.1;
          after = slice_get-map (λ (l : Local). (l.owner, l.label)) row.locals k
              ∙ (ap (option_map (λ (l : Local). (l.owner, l.label))) y.there
              ∙ λ i. Some (y.related.owner i, y.related.label i));
        }

    nodes_in : (owner : ℕ) (nodes : List Node) → IsNamedExpression file.base.attributes p owner nodes
        → All (IsNodeIn move (labels_in p)) nodes
    nodes_in owner nodes is =
        all_weaker (IsNamedNode file.base.attributes p owner) (IsNodeIn move (labels_in p)) nodes
        (λ node one. node_in file n p owner node one) is.named

    local_row : (x : Local ⊎ written.Equation) (l : Local) → Contains old x → IsFrom (IsLocalNow m) (IsFoundLocal s e.labels) x l
        → IsFrom (IsMovedLocal move (labels_in p) (labels_in row)) (IsWrittenLocal n s.owner (labels_in row)) x l
    local_row (inl x) l more now =
        let is = all_contained (IsNamedLocal file.base.attributes p) p.locals x named_production.locals
        (source_before p.locals (local_equations es) x more) in
        moved_local m move are stay (labels_in p) (labels_in row) local_stays x l (nodes_in x.owner x.nodes is.value) now
    local_row (inr q) l more found = found_local s n scope e.labels (labels_in row) labels q l found

    equation_row : (x : Equation ⊎ written.Equation) (y : Equation) → Contains (sources p.equations (attribute_equations es)) x
        → IsFrom (IsEquationNow m) (IsFoundEquation s e.labels) x y
        → IsFrom (IsMovedEquation move (labels_in p) (labels_in row)) (IsWrittenEquation n s.owner (labels_in row)) x y
    equation_row (inl x) y more now =
        let is = all_contained (IsNamedEquation file.base.attributes p) p.equations x named_production.equations
        (source_before p.equations (attribute_equations es) x more) in
        moved_equation m move are stay (labels_in p) (labels_in row) local_stays x y (target_in file n p x.owner x.target is.target)
        (nodes_in x.owner x.nodes is.value) now
    equation_row (inr q) y more found = found_equation s n scope e.labels (labels_in row) labels q y found

    extended_row : IsExtendedProduction n s.owner file.items move p row
    extended_row = record {
      name = e.name;
      owner_is = e.owner_is;
      role = e.role;
      left = are.nonterminals p.left row.left e.left;
      children = zip_weaker (IsChildNow m) (IsMovedChild move) (moved_child m move are) p.children row.children e.children;
      locals = zip_listed (IsFrom (IsLocalNow m) (IsFoundLocal s e.labels))
          (IsFrom (IsMovedLocal move (labels_in p) (labels_in row)) (IsWrittenLocal n s.owner (labels_in row))) old row.locals local_row
          e.locals;
      forward = zip_listed (IsForwardNow m) (IsMovedForward move (labels_in p) (labels_in row)) (option_to_list p.forward)
          (option_to_list row.forward) (λ x y more now. moved_forward m move are stay (labels_in p) (labels_in row) local_stays x y
          (nodes_in p.owner x.nodes (some_listed (λ (f : Forward). IsNamedExpression file.base.attributes p p.owner f.nodes) p.forward
          named_production.forward x more)) now) e.forward;
      equations = zip_listed (IsFrom (IsEquationNow m) (IsFoundEquation s e.labels))
          (IsFrom (IsMovedEquation move (labels_in p) (labels_in row)) (IsWrittenEquation n s.owner (labels_in row)))
          (sources p.equations (attribute_equations es)) row.equations equation_row e.equations;
    }

  -- the row of a production
  pub is_production : (x : Production ⊎ ProductionDeclaration) (row : Production) → IsProductionNow file s m x row
      → Contains (sources file.base.attributes.productions (productions file.items)) x → IsProduction file n x row
  is_production (inl p) row e listed =
      subst (λ (o : ℕ). IsExtendedProduction n o file.items move p row) numbers.owner
      (extended_row p row (source_before file.base.attributes.productions (productions file.items) p listed) e)
  is_production (inr d) row e listed =
      subst (λ (o : ℕ). IsProductionRow n o file.items d row) numbers.owner (declared_row d row e)
