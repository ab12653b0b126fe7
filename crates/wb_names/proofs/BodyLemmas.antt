-- Rows of productions, of their parts and of what is written on them.
use Rattle.std.proofs.Common.{◌≡◌, ◌≤◌, ◌++◌, ◌∷◌, [], ℕ, List, Option, Some, None, map, length, ap, sym, refl, subst, ◌∙◌, arith}
use Rattle.std.proofs.Common.{length-append}
use Rattle.std.specs.Prelude.{MatchOption, option_to_list}
use Rattle.std.specs.List.{AllZip}
use Rattle.std.proofs.lemmas.List.{map-append}
use Rattle.wb_lemmas.proofs.Zips.{zip_map}
use Rattle.wb_syntax_resolved.specs.declared.production.Child.{Child}
use Rattle.wb_syntax_resolved.specs.declared.production.Forward.{Forward}
use Rattle.wb_syntax_resolved.specs.declared.production.Local.{Local}
use Rattle.wb_syntax_resolved.specs.declared.production.Production.{Production}
use Rattle.wb_syntax.specs.declared.expression.Equation as written
use Rattle.wb_syntax.specs.declared.expression.Target.{Target}
use Rattle.wb_syntax.specs.declared.expression.Target.TheVariants as g
use Rattle.wb_names_theory.specs.Declarations.{Items, ProductionDeclaration}
use Rattle.wb_names_theory.specs.Declares.{declarations}
use Rattle.wb_names_theory.specs.Hold.{AreOnce}
use Rattle.wb_names_numbers_theory.specs.Files.{File, equations_on}
use Rattle.wb_names_numbers_theory.specs.Numbering.{Numbering}
use Rattle.wb_names_numbers_theory.specs.Rows.{production_role}
use Rattle.wb_names_numbers_theory.specs.Sources.{sources, IsFrom}
use Rattle.wb_names_numbers_theory.specs.Written.{local_equations, forward_equations, attribute_equations}
use Rattle.wb_names_numbers_theory.proofs.OneProduction.{local_label}
use Rattle.wb_names_rows.specs.declared.body.Body.{Body}
use Rattle.wb_names_rows.specs.declared.moves.Moves.{Moves}
use Rattle.wb_names_rows.specs.declared.scope.Scope.{Scope}
use Rattle.wb_names_rows.specs.declared.scope.ProductionLabels.{ProductionLabels}
use Rattle.wb_names_rows.specs.Blocks.{AddsBody, equations_at}
use Rattle.wb_names_rows.specs.Moves.{IsNow, IsChildNow, IsLocalNow, IsForwardNow, IsEquationNow}
use Rattle.wb_names_rows.specs.Nodes.{IsAt, IsFoundEquation, IsFoundForward, IsFoundLocal, IsFoundLocalTarget}
use Rattle.wb_names_rows.specs.Scope.{IsFoundChild}
use Rattle.wb_names_rows.proofs.GroupLemmas.{zip_sources}
use Rattle.wb_names.specs.Inner.Bodies.{IsWritten, IsExtendedBody, IsDeclaredBody, labels_with}
use Rattle.wb_names.specs.Inner.Now.{AreLabelsOf, IsExtendedNow, IsDeclaredNow}
use Rattle.wb_names_symbols.specs.Writers.{IsWrittenAt}
use Rattle.wb_names.proofs.ForwardsOnce.{one_forward}

-- the label of a local that is found is that of its equation
found_label : (s : Scope) (labels : ProductionLabels) (to : Target) (l : List ℕ) (k : ℕ) → IsFoundLocalTarget s labels to l k
    → l ≡ local_label to
found_label s labels (g.Local own m) l k e = e.0
found_label s labels (g.Top a) l k e = absurd e
found_label s labels (g.Label other a) l k e = absurd e
found_label s labels (g.Forward a) l k e = absurd e
found_label s labels g.ForwardsTo l k e = absurd e

-- the labels are those of the row
module _ (s : Scope) (children : List Child) (equations : List written.Equation) (old new : Body)
    (w : IsWritten s children equations old new) where
  abbrev label : Local → List ℕ
  label l = l.label

  written_labels : map label new.locals.items
      ≡ map label old.locals.items ++ map (λ (q : written.Equation). local_label q.target) (local_equations equations)
  written_labels =
      let own = w.adds.locals.0 in
      ap (map label) w.adds.locals.1
      ∙ (map-append label old.locals.items own
      ∙ ap (λ z. map label old.locals.items ++ z) (zip_map (IsFoundLocal s w.labels) (λ (q : written.Equation). local_label q.target) label
      (λ q l e. found_label s w.labels q.target l.label l.nonterminal e.target) (local_equations equations) own w.adds.locals.2))

  pub labels_of_row : (row : Production) → row.children ≡ children → row.locals ≡ new.locals.items → AreLabelsOf w.labels row
  labels_of_row row same_children same_locals = record {
    names = w.names
        ∙ (ap (λ z. map (λ (c : Child). c.label) children ++ z) (sym written_labels)
        ∙ (ap (λ z. map (λ (c : Child). c.label) z ++ map label new.locals.items) (sym same_children)
        ∙ ap (λ z. map (λ (c : Child). c.label) row.children ++ map label z) (sym same_locals)));
    count = w.count ∙ ap length (sym same_children);
  }

-- a list of at most one element is what is taken from its end
one_taken : {X : Type 0} (xs ys : List X) (o : Option X) → xs ≡ ys ++ option_to_list o → length xs ≤ 1
    → (length (option_to_list o) ≡ 0 → length ys ≡ 0) → xs ≡ option_to_list o
one_taken xs [] o is few some = is
one_taken xs (y ∷ ys) None is few some = absurd (omega (arith, some refl))
one_taken xs (y ∷ ys) (Some x) is few some =
    let n = ap length is in
    let k = length-append (y ∷ ys) (x ∷ []) in
    absurd (omega (arith, n, k, few))

-- lists whose elements are related have one length
pub zip_length : {A B : Type 0} (R : A → B → Type 0) (xs : List A) (ys : List B) → AllZip R xs ys → length ys ≡ length xs
zip_length R [] [] all = refl
zip_length R [] (y ∷ ys) all = absurd all
zip_length R (x ∷ xs) [] all = absurd all
zip_length R (x ∷ xs) (y ∷ ys) all = let r = zip_length R xs ys all.1 in omega (arith, r)

module _ (file : File) (s : Scope) (m : Moves) where
  -- the parts of a base's production
  pub record MovedParts (p row : Production) (body : Body) : Type 0 where
    pub name : row.name ≡ p.name
    pub owner_is : row.owner ≡ p.owner
    pub role : row.role ≡ p.role
    pub left : IsNow m.nonterminals.items p.left row.left
    pub children : AllZip (IsChildNow m) p.children row.children
    pub forward : AllZip (IsForwardNow m) (option_to_list p.forward) (option_to_list row.forward)
    pub locals : row.locals ≡ body.locals.items
    pub equations : row.equations ≡ body.equations.items

  pub extended_now : (p row : Production) (body : Body) → MovedParts p row body → IsExtendedBody file s m p row.children body
      → IsExtendedNow file s m p row
  extended_now p row body parts b =
      let es = equations_on p.name file.items in
      let w = b.written in
      let adds = w.adds in
      record {
        name = parts.name;
        owner_is = parts.owner_is;
        role = parts.role;
        left = parts.left;
        children = parts.children;
        labels = w.labels;
        are_labels = labels_of_row s row.children es b.moved body w row refl parts.locals;
        locals = subst (AllZip (IsFrom (IsLocalNow m) (IsFoundLocal s w.labels)) (sources p.locals (local_equations es)))
            (sym (parts.locals ∙ adds.locals.1))
            (zip_sources (IsLocalNow m) (IsFoundLocal s w.labels) p.locals (local_equations es) b.moved.locals.items adds.locals.0 b.locals
            adds.locals.2);
        forward = parts.forward;
        equations = subst (AllZip (IsFrom (IsEquationNow m) (IsFoundEquation s w.labels)) (sources p.equations (attribute_equations es)))
            (sym (parts.equations ∙ adds.equations.1))
            (zip_sources (IsEquationNow m) (IsFoundEquation s w.labels) p.equations (attribute_equations es) b.moved.equations.items
            adds.equations.0 b.equations adds.equations.2);
      }

  -- the parts of a declared production, whose forward is taken from the end of those that are made
  pub record DeclaredParts (d : ProductionDeclaration) (row : Production) (body : Body) : Type 0 where
    pub name : row.name ≡ d.production.name
    pub owner_is : row.owner ≡ file.owner
    pub role : row.role ≡ production_role d.role
    pub left : IsAt s.nonterminals d.production.left row.left
    pub children : (n : Numbering) → AllZip (IsFoundChild s n) d.production.children row.children
    pub left_over : List Forward
    pub forward : body.forwards.items ≡ left_over ++ option_to_list row.forward
    pub all_taken : length (option_to_list row.forward) ≡ 0 → length left_over ≡ 0
    pub locals : row.locals ≡ body.locals.items
    pub equations : row.equations ≡ body.equations.items

  pub declared_now : AreOnce (declarations file.base file.items) → (d : ProductionDeclaration) (row : Production) (body : Body)
      → DeclaredParts d row body → IsDeclaredBody file s d.production.name row.children body → IsDeclaredNow file s m d row
  declared_now once d row body parts b =
      let es = equations_on d.production.name file.items in
      let w = b.written in
      let adds = w.adds in
      let locals : row.locals ≡ adds.locals.0 = parts.locals ∙ (adds.locals.1 ∙ ap (λ z. z ++ adds.locals.0) b.no_locals) in
      let forwards : body.forwards.items ≡ adds.forwards.0 = adds.forwards.1 ∙ ap (λ z. z ++ adds.forwards.0) b.no_forwards in
      let equations : row.equations ≡ adds.equations.0 =
      parts.equations ∙ (adds.equations.1 ∙ ap (λ z. z ++ adds.equations.0) b.no_equations) in
      let count = zip_length (IsFoundForward s w.labels) (forward_equations es) adds.forwards.0 adds.forwards.2 in
      let few : length body.forwards.items ≤ 1 =
      let most = one_forward d.production.name file.base file.items once in
      let same = ap length forwards in
      omega (arith, most, count, same) in
      let taken : adds.forwards.0 ≡ option_to_list row.forward =
      sym forwards ∙ one_taken body.forwards.items parts.left_over row.forward parts.forward few parts.all_taken in
      record {
        name = parts.name;
        owner_is = parts.owner_is;
        role = parts.role;
        left = parts.left;
        children = parts.children;
        labels = w.labels;
        are_labels = labels_of_row s row.children es b.empty body w row refl parts.locals;
        locals = subst (AllZip (IsFoundLocal s w.labels) (local_equations es)) (sym locals) adds.locals.2;
        forward = subst (AllZip (IsFoundForward s w.labels) (forward_equations es)) taken adds.forwards.2;
        equations = subst (AllZip (IsFoundEquation s w.labels) (attribute_equations es)) (sym equations) adds.equations.2;
      }

-- labels by places are those of what is written
pub labels_by_places : (items : Items) (name places : List ℕ) (children : List Child) (given locals : List Local) (names : List (List ℕ))
    → names ≡ labels_with children given (equations_at items places) → given ≡ locals → IsWrittenAt items items name places
    → names ≡ labels_with children locals (equations_on name items)
labels_by_places items name places children given locals names is same at =
    is ∙ (ap (λ z. labels_with children z (equations_at items places)) same ∙ ap (λ z. labels_with children locals z) at.equations)

pub written_body : (s : Scope) (children : List Child) (items : Items) (name places : List ℕ) (old new : Body) (labels : ProductionLabels)
    → labels.names ≡ labels_with children old.locals.items (equations_on name items) → labels.children ≡ length children
    → IsWrittenAt items items name places → AddsBody s labels (equations_at items places) old new
    → IsWritten s children (equations_on name items) old new
written_body s children items name places old new labels names count at adds = record {
  labels = labels;
  names = names;
  count = count;
  adds = subst (λ z. AddsBody s labels z old new) at.equations adds;
}

-- nothing is left, where nothing was taken
pub none_left : {X : Type 0} (o : Option X) (old new : ℕ) (Q : X → Type 0) → MatchOption o ((old ≡ 0) × (new ≡ 0)) Q
    → length (option_to_list o) ≡ 0 → new ≡ 0
none_left None old new Q m e = m.1
none_left (Some x) old new Q m e = absurd (omega (arith, e))
