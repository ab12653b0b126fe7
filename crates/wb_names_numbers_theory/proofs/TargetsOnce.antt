-- No two equations of a production have one target, and no attribute occurs twice on a nonterminal, where declarations are once.
use Rattle.std.proofs.Common.{◌≡◌, ◌≤◌, ◌+◌, ◌++◌, ◌∷◌, ◌⊎◌, inl, inr, [], ℕ, Bool, true, false, List, Option, Some, None, Contains, map}
use Rattle.std.proofs.Common.{cond, slice_get}
use Rattle.std.proofs.Common.{ap, sym, refl, subst, ◌∙◌, arith, ◌&&◌}
use Rattle.std.specs.Prelude.{flat_map, filter, option_to_list, option_map}
use Rattle.std.specs.List.{AllZip}
use Rattle.std.specs.Str.{bytes_eq}
use Rattle.std.proofs.lemmas.List.{append-nil}
use Rattle.std.proofs.lemmas.Option.{slice_get-map}
use Rattle.wb_lemmas.proofs.Booleans.{and_both}
use Rattle.wb_lemmas.proofs.Elements.{all_contained}
use Rattle.wb_lemmas.proofs.Members.{contains_at}
use Rattle.wb_lemmas.proofs.Places.{at_once}
use Rattle.wb_lemmas.proofs.Zips.{zip_at, beside}
use Rattle.wb_base.specs.Different.{Differ}
use Rattle.wb_base.specs.declared.symbol.Kind.TheVariants as kind
use Rattle.wb_syntax_resolved.specs.declared.equation.Equation.{Equation}
use Rattle.wb_syntax_resolved.specs.declared.equation.Place.{Place}
use Rattle.wb_syntax_resolved.specs.declared.equation.Place.TheVariants as place
use Rattle.wb_syntax_resolved.specs.declared.equation.Target.{Target}
use Rattle.wb_syntax_resolved.specs.declared.equation.Target.TheVariants as target
use Rattle.wb_syntax_resolved.specs.declared.production.Child.{Child}
use Rattle.wb_syntax_resolved.specs.declared.production.ChildKind.{ChildKind}
use Rattle.wb_syntax_resolved.specs.declared.production.ChildKind.TheVariants as child
use Rattle.wb_syntax_resolved.specs.declared.production.Local.{Local}
use Rattle.wb_syntax_resolved.specs.declared.production.Production.{Production}
use Rattle.wb_syntax_resolved.specs.declared.resolved.ResolvedParts.{ResolvedParts}
use Rattle.wb_syntax_resolved.specs.Named.{IsNamedEquation, IsNamedProduction, IsNamedTarget}
use Rattle.wb_syntax_resolved.specs.Once.{Entry}
use Rattle.wb_syntax_resolved.specs.Visible.{kind_at}
use Rattle.wb_syntax.specs.declared.expression.Equation as written
use Rattle.wb_syntax.specs.declared.expression.Target as is_for
use Rattle.wb_syntax.specs.declared.expression.Target.TheVariants as g
use Rattle.wb_syntax.specs.declared.item.Item.{Item}
use Rattle.wb_syntax.specs.declared.item.ItemForm.{ItemForm}
use Rattle.wb_syntax.specs.declared.item.ItemForm.TheVariants as f
use Rattle.wb_syntax.specs.declared.pattern.Pattern.{Pattern}
use Rattle.wb_names_theory.specs.declared.declaration.Declaration.{Declaration}
use Rattle.wb_names_theory.specs.declared.declaration.Declaration.TheVariants as d
use Rattle.wb_names_theory.specs.declared.declaration.Site.{Site}
use Rattle.wb_names_theory.specs.declared.declaration.Site.TheVariants as site
use Rattle.wb_names_theory.specs.Declarations.{Items, ProductionDeclaration}
use Rattle.wb_names_theory.specs.Declares.{base_declarations, item_declarations, form_declarations, declarations, production_declarations}
use Rattle.wb_names_theory.specs.Declares.{child_declaration}
use Rattle.wb_names_theory.specs.Declares.{equation_declarations, target_declaration, target_attribute, target_site, label_at, name_in}
use Rattle.wb_names_theory.specs.Declares.{attribute_name}
use Rattle.wb_names_theory.specs.Hold.{AreOnce}
use Rattle.wb_names_numbers_theory.specs.Files.{File, Block, blocks, block_of, equations_on}
use Rattle.wb_names_numbers_theory.specs.Numbering.{Numbering, numbering_of, labels_in, IsNumber, IsPlace}
use Rattle.wb_names_numbers_theory.specs.Moved.{IsMovedChild, IsMovedEquation, IsMovedPlace, IsMovedTarget}
use Rattle.wb_names_numbers_theory.specs.Resolves.{move_of}
use Rattle.wb_names_numbers_theory.specs.Rows.{IsProductionRow, IsExtendedProduction}
use Rattle.wb_names_numbers_theory.specs.Sources.{sources, IsFrom}
use Rattle.wb_names_numbers_theory.specs.Written.{IsWrittenEquation, IsWrittenTarget, attribute_equations, makes_attribute}
use Rattle.wb_names_numbers_theory.proofs.Counts.{times_sources, times_blocks, count_items, count_base, count_production}
use Rattle.wb_names_numbers_theory.proofs.Found.{moved_attribute}
use Rattle.wb_names_numbers_theory.proofs.Ground.{Ground, moved_number}
use Rattle.wb_names_numbers_theory.proofs.LabelsOnce.{map_cond}
use Rattle.wb_names_numbers_theory.proofs.RowLemmas.{source_before}
use Rattle.wb_names_numbers_theory.proofs.Selected.{bytes_same, same_bytes}
use Rattle.wb_names_numbers_theory.proofs.Times.{is_same, same_site, same_site_itself, once_where, times, times_append, times_flat_map}
use Rattle.wb_names_numbers_theory.proofs.Times.{times_once}
use Rattle.wb_names_numbers_theory.proofs.Times.{one_place}

-- a number has one name
pub number_name : (names : List Entry) (owner : ℕ) (a b : List ℕ) (k : ℕ) → IsNumber names owner a k → IsNumber names owner b k → a ≡ b
number_name names owner a b k x y = ap (λ (e : Entry). e.1) (at_once names k (x.other, a) (y.other, b) x.is y.is)

-- an equation of a production, for this attribute at this site
abbrev pub given : List ℕ → List ℕ → Site → Declaration
given p a at = d.Equation p a at

given_same : (p a b : List ℕ) (s t : Site) → a ≡ b → s ≡ t → is_same (given p a s) (given p b t) ≡ true
given_same p a b s t e f =
    subst (λ z. is_same (given p a s) (given p z t) ≡ true) e (subst (λ z. is_same (given p a s) (given p a z) ≡ true) f
    (and_both (bytes_eq p p) (bytes_eq a a && same_site s s) (bytes_same p p refl) (and_both (bytes_eq a a) (same_site s s)
    (bytes_same a a refl) (same_site_itself s))))

-- over items
module _ (p a : List ℕ) (s : Site) where
  abbrev x : Declaration
  x = given p a s

  abbrev written_mark : written.Equation → Declaration
  written_mark q = target_declaration p q.target

  target_counts : (name : List ℕ) → name ≡ p → (to : is_for.Target) (ms : List Declaration) (k : ℕ) → times x ms ≤ k
      → times x (cond (makes_attribute to) (target_declaration p to ∷ ms) ms) ≤ once_where (is_same x (target_declaration name to)) + k
  target_counts name same (g.Top b) ms k le =
      let e = ap (λ z. once_where (is_same x (d.Equation z b site.Top))) same in omega (arith, le, e)
  target_counts name same (g.Label m b) ms k le =
      let e = ap (λ z. once_where (is_same x (d.Equation z b (site.Label m)))) same in omega (arith, le, e)
  target_counts name same (g.Forward b) ms k le =
      let e = ap (λ z. once_where (is_same x (d.Equation z b site.Forward))) same in omega (arith, le, e)
  target_counts name same (g.Local m b) ms k le = omega (arith, le)
  target_counts name same g.ForwardsTo ms k le = omega (arith, le)

  equations_count : (name : List ℕ) → name ≡ p → (es : List written.Equation) → times x (map written_mark (attribute_equations es))
      ≤ times x (equation_declarations name es)
  equations_count name same [] = omega arith
  equations_count name same (e ∷ es) =
      let r = target_counts name same e.target (map written_mark (attribute_equations es)) (times x (equation_declarations name es))
      (equations_count name same es) in
      let c = ap (times x) (map_cond written_mark (makes_attribute e.target) e (attribute_equations es)) in
      omega (arith, r, c)

  abbrev on : Block → Bool
  on b = bytes_eq b.name p

  abbrev es_of : Block → List written.Equation
  es_of b = b.equations

  abbrev for_attribute : written.Equation → Bool
  for_attribute e = makes_attribute e.target

  abbrev total : Items → ℕ
  total items = times x (map written_mark (filter for_attribute (flat_map es_of (filter on (blocks items)))))

  abbrev of_form : ItemForm Pattern → ℕ
  of_form form = times x (map written_mark (filter for_attribute (flat_map es_of (filter on (option_to_list (block_of form))))))

  step : (item : Item Pattern) (items : Items) → total (item ∷ items) ≡ of_form item.form + total items
  step item items = times_blocks x written_mark for_attribute es_of on (block_of item.form) (blocks items)

  block_count : (name : List ℕ) (es : List written.Equation) (b : Bool) → bytes_eq name p ≡ b
      → times x (map written_mark (filter for_attribute (flat_map es_of (cond b (record { name = name; equations = es } ∷ []) []))))
      ≤ times x (equation_declarations name es)
  block_count name es true e =
      let r = equations_count name (same_bytes name p e) es in
      let same : es ++ [] ≡ es = append-nil es in
      subst (λ z. times x (map written_mark (filter for_attribute z)) ≤ times x (equation_declarations name es)) (sym same) r
  block_count name es false e = omega arith

  each : (form : ItemForm Pattern) → of_form form ≤ times x (form_declarations form)
  each (f.Lexical role name pattern) = omega arith
  each (f.Plain plain) = omega arith
  each (f.Production role q) =
      let r = block_count q.name q.equations (bytes_eq q.name p) refl in
      let both = times_append x (map (child_declaration q.name) q.children) (equation_declarations q.name q.equations) in
      omega (arith, r, both)
  each (f.Aspect name es) = let r = block_count name es (bytes_eq name p) refl in omega (arith, r)

  pub items_count : (items : Items) → total items ≤ times x (item_declarations items)
  items_count items = count_items x of_form total refl step each items

-- the equation whose target is at a place
from_option : (o : Option Equation) (to : Target) → option_map (λ (e : Equation). e.target) o ≡ Some to → (e : Equation) × (o ≡ Some e)
    × (e.target ≡ to)
from_option None to e = absurd (cc e)
from_option (Some y) to e = let same : y.target ≡ to = cc in (y, refl, same)

equation_at : (es : List Equation) (i : ℕ) (to : Target) → slice_get (map (λ (e : Equation). e.target) es) i ≡ Some to
    → (e : Equation) × (slice_get es i ≡ Some e) × (e.target ≡ to)
equation_at es i to at = from_option (slice_get es i) to (sym (slice_get-map (λ (e : Equation). e.target) es i) ∙ at)

-- what a numbered target is by names
module _ (n : Numbering) (owner : ℕ) (row : Production) where
  abbrev pub IsCalled : Target → List ℕ → Site → Type 0
  IsCalled (target.Top k) a s = IsNumber n.attributes owner a k × (s ≡ site.Top)
  IsCalled (target.Place at k) a s = (l : List ℕ) × IsPlace (labels_in row) owner l at × IsNumber n.attributes owner a k × (s ≡ site.Label
      l)
  IsCalled (target.Forward k) a s = IsNumber n.attributes owner a k × (s ≡ site.Forward)

  place_label : (at : Place) (l m : List ℕ) → IsPlace (labels_in row) owner l at → IsPlace (labels_in row) owner m at → l ≡ m
  place_label (place.Child k) l m e f = at_once (labels_in row).children k l m e f
  place_label (place.Local k) l m e f = number_name (labels_in row).locals owner l m k e f

  one_call : (to : Target) (a b : List ℕ) (s t : Site) → IsCalled to a s → IsCalled to b t → (a ≡ b) × (s ≡ t)
  one_call (target.Top k) a b s t e f = (number_name n.attributes owner a b k e.0 f.0, e.1 ∙ sym f.1)
  one_call (target.Place at k) a b s t e f =
      (number_name n.attributes owner a b k e.2 f.2, e.3 ∙ (ap site.Label (place_label at e.0 f.0 e.1 f.1) ∙ sym f.3))
  one_call (target.Forward k) a b s t e f = (number_name n.attributes owner a b k e.0 f.0, e.1 ∙ sym f.1)

  -- a written target is called as it is written
  pub record Called (p : List ℕ) (to : Target) (it : Declaration) : Type 0 where
    pub attribute : List ℕ
    pub at : Site
    pub is : it ≡ given p attribute at
    pub called : IsCalled to attribute at

  written_called : (p : List ℕ) (from : is_for.Target) (to : Target) → IsWrittenTarget n owner (labels_in row) from to
      → Called p to (target_declaration p from)
  written_called p (g.Top a) to e =
      record { attribute = a; at = site.Top; is = refl; called = subst (λ z. IsCalled z a site.Top) (sym e.2) (e.1, refl) }
  written_called p (g.Label l a) to e = record {
    attribute = a;
    at = site.Label l;
    is = refl;
    called = subst (λ z. IsCalled z a (site.Label l)) (sym e.4) (l, e.2, e.3, refl);
  }
  written_called p (g.Forward a) to e =
      record { attribute = a; at = site.Forward; is = refl; called = subst (λ z. IsCalled z a site.Forward) (sym e.2) (e.1, refl) }
  written_called p (g.Local l m) to e = absurd e
  written_called p g.ForwardsTo to e = absurd e

  -- targets of rows that are called by different declarations differ
  pub targets_differ : {S : Type 0} (R : S → Equation → Type 0) (p : List ℕ) (mark : S → Declaration)
      → (xs : List S) (ys : List Equation) → AllZip R xs ys
      → ((u : S) (v : Equation) → Contains xs u → R u v → Called p v.target (mark u))
      → ((a : List ℕ) (s : Site) → times (given p a s) (map mark xs) ≤ 1) → Differ (map (λ (e : Equation). e.target) ys)
  targets_differ {S} R p mark xs ys all calls few to i j at_i at_j =
      let u = equation_at ys i to at_i in
      let v = equation_at ys j to at_j in
      let x = beside R xs ys i u.0 all u.1 in
      let y = beside R xs ys j v.0 all v.1 in
      let c = calls x.other u.0 (contains_at xs x.other i x.at) x.related in
      let k = calls y.other v.0 (contains_at xs y.other j y.at) y.related in
      let same = one_call to c.attribute k.attribute c.at k.at
      (subst (λ z. IsCalled z c.attribute c.at) u.2 c.called) (subst (λ z. IsCalled z k.attribute k.at) v.2 k.called) in
      one_place (given p c.attribute c.at) (map mark xs) (few c.attribute c.at) i j (mark x.other) (mark y.other)
      (slice_get-map mark xs i ∙ ap (option_map mark) x.at) (slice_get-map mark xs j ∙ ap (option_map mark) y.at)
      (subst (λ z. is_same (given p c.attribute c.at) z ≡ true) (sym c.is)
      (given_same p c.attribute c.attribute c.at c.at refl refl))
      (subst (λ z. is_same (given p c.attribute c.at) z ≡ true) (sym k.is)
      (given_same p c.attribute k.attribute c.at k.at same.0 same.1))

module _ (file : File) (r : ResolvedParts) (ground : Ground file r) (once : AreOnce (declarations file.base file.items)) where
  abbrev n : Numbering
  n = numbering_of r

  -- the equations of a declared production
  pub own_targets : (v : ProductionDeclaration) (row : Production) → IsProductionRow n file.owner file.items v row
      → Differ (map (λ (e : Equation). e.target) row.equations)
  own_targets v row e =
      let p = v.production.name in
      targets_differ n file.owner row (IsWrittenEquation n file.owner (labels_in row)) p (λ (q : written.Equation). target_declaration p
      q.target)
      (attribute_equations (equations_on p file.items)) row.equations e.equations
      (λ u w has t. written_called n file.owner row p u.target w.target t.target)
      (λ a s. let items = items_count p a s file.items in
      let both = times_append (given p a s) (base_declarations file.base) (item_declarations file.items) in
      let few = times_once (given p a s) (declarations file.base file.items) once in
      omega (arith, items, both, few))

  -- those of a production of the base
  module _ (q row : Production) (has : Contains file.base.attributes.productions q)
      (e : IsExtendedProduction n file.owner file.items (move_of file n) q row) where
    -- a moved place has the label that it had
    moved_label : (at to : Place) (is : ChildKind) → kind_at q at ≡ Some is
        → IsMovedPlace (move_of file n) (labels_in q) (labels_in row) at to → IsPlace (labels_in row) file.owner (label_at q at) to
    moved_label (place.Child k) to is there m =
        let c = child_at (slice_get q.children k) there in
        let t = zip_at (IsMovedChild (move_of file n)) q.children row.children k c.0 e.children c.1 in
        subst (IsPlace (labels_in row) file.owner (label_at q (place.Child k))) (sym m)
        (slice_get-map (λ (c : Child). c.label) row.children k ∙ (ap (option_map (λ (c : Child). c.label)) t.there
        ∙ ap Some (t.related.label ∙ sym (ap (name_in (λ (c : Child). c.label)) c.1)))) where
          child_at : (o : Option Child) → option_map (λ (c : Child). c.kind) o ≡ Some is → (c : Child) × (o ≡ Some c)
          child_at None never = absurd (cc never)
          child_at (Some c) some = (c, refl)
    moved_label (place.Local k) to is there m =
        subst (IsPlace (labels_in row) file.owner (label_at q (place.Local k))) (sym m.2)
        (moved_number (λ (y : Local). (y.owner, y.label)) q.locals (labels_in row).locals (ground.host.locals q has) file.owner k m.0 m.1)

    base_called : (from to : Target) → IsNamedTarget file.base.attributes q 0 from
        → IsMovedTarget (move_of file n) (labels_in q) (labels_in row) from to
        → Called n file.owner row q.name to (d.Equation q.name (target_attribute file.base from) (target_site q from))
    base_called (target.Top k) to named m = record {
      attribute = attribute_name file.base k;
      at = site.Top;
      is = refl;
      called = subst (λ z. IsCalled n file.owner row z (attribute_name file.base k) site.Top) (sym m.2)
          (moved_attribute file r ground k m.0 m.1, refl);
    }
    base_called (target.Place at k) to named m = record {
      attribute = attribute_name file.base k;
      at = site.Label (label_at q at);
      is = refl;
      called = subst (λ z. IsCalled n file.owner row z (attribute_name file.base k) (site.Label (label_at q at))) (sym m.4) (
        label_at q at,
        moved_label at m.0 (child.Value (kind.Tree named.0)) named.1.is m.2,
        moved_attribute file r ground k m.1 m.3,
        refl,
      );
    }
    base_called (target.Forward k) to named m = record {
      attribute = attribute_name file.base k;
      at = site.Forward;
      is = refl;
      called = subst (λ z. IsCalled n file.owner row z (attribute_name file.base k) site.Forward) (sym m.2)
          (moved_attribute file r ground k m.0 m.1, refl);
    }

    abbrev base_mark : Equation ⊎ written.Equation → Declaration
    base_mark (inl y) = d.Equation q.name (target_attribute file.base y.target) (target_site q y.target)
    base_mark (inr y) = target_declaration q.name y.target

    abbrev own : List written.Equation
    own = attribute_equations (equations_on q.name file.items)

    source_called : (u : Equation ⊎ written.Equation) (v : Equation) → Contains (sources q.equations own) u
        → IsFrom (IsMovedEquation (move_of file n) (labels_in q) (labels_in row)) (IsWrittenEquation n file.owner (labels_in row)) u v
        → Called n file.owner row q.name v.target (base_mark u)
    source_called (inl y) v listed t =
        let inside = source_before q.equations own y listed in
        let named = all_contained (IsNamedEquation file.base.attributes q) q.equations y
        (all_contained (IsNamedProduction file.base.attributes) file.base.attributes.productions q ground.base.attributes.named.productions
        has).equations inside in
        base_called y.target v.target (subst (λ o. IsNamedTarget file.base.attributes q o y.target) (ground.host.equations q has y inside)
        named.target)
        t.target
    source_called (inr y) v listed t = written_called n file.owner row q.name y.target v.target t.target

    pub base_targets : Differ (map (λ (e : Equation). e.target) row.equations)
    base_targets =
        targets_differ n file.owner row (IsFrom (IsMovedEquation (move_of file n) (labels_in q) (labels_in row))
        (IsWrittenEquation n file.owner (labels_in row))) q.name base_mark (sources q.equations own) row.equations e.equations source_called
        (λ a s. let x = given q.name a s in
        let parts = times_sources x base_mark q.equations own in
        let rules = times_flat_map x (production_declarations file.base) file.base.attributes.productions q has in
        let production = count_production x file.base q in
        let base = count_base x file.base in
        let items = items_count q.name a s file.items in
        let both = times_append x (base_declarations file.base) (item_declarations file.items) in
        let few = times_once x (declarations file.base file.items) once in
        omega (arith, parts, rules, production, base, items, both, few))
