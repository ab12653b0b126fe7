-- No label of a production is there twice, where declarations are once.
use Rattle.std.proofs.Common.{◌≡◌, ◌≤◌, ◌+◌, ◌++◌, ◌∷◌, ◌⊎◌, inl, inr, [], ℕ, Bool, true, false, List, Some, Contains, map, cond}
use Rattle.std.proofs.Common.{ap, sym, refl, subst, arith}
use Rattle.std.specs.Prelude.{flat_map, filter, option_to_list}
use Rattle.std.specs.List.{AllZip}
use Rattle.std.specs.Str.{bytes_eq}
use Rattle.std.proofs.lemmas.List.{append-nil}
use Rattle.wb_lemmas.proofs.Booleans.{and_both}
use Rattle.wb_syntax_resolved.specs.declared.production.Child.{Child}
use Rattle.wb_syntax_resolved.specs.declared.production.Local.{Local}
use Rattle.wb_syntax_resolved.specs.declared.production.Production.{Production}
use Rattle.wb_syntax_resolved.specs.declared.resolved.ResolvedParts.{ResolvedParts}
use Rattle.wb_syntax_resolved.specs.Once.{Entry, NamesDiffer, labels_of}
use Rattle.wb_syntax.specs.declared.expression.Equation as written
use Rattle.wb_syntax.specs.declared.expression.Target.{Target}
use Rattle.wb_syntax.specs.declared.expression.Target.TheVariants as g
use Rattle.wb_syntax.specs.declared.item.Item.{Item}
use Rattle.wb_syntax.specs.declared.item.ItemForm.{ItemForm}
use Rattle.wb_syntax.specs.declared.item.ItemForm.TheVariants as f
use Rattle.wb_syntax.specs.declared.pattern.Pattern.{Pattern}
use Rattle.wb_syntax.specs.declared.production.Child as named
use Rattle.wb_names_theory.specs.declared.declaration.Declaration.{Declaration}
use Rattle.wb_names_theory.specs.declared.declaration.Declaration.TheVariants as d
use Rattle.wb_names_theory.specs.declared.declaration.Labelled.TheVariants as label
use Rattle.wb_names_theory.specs.Declarations.{Items, ProductionDeclaration, productions, production_of}
use Rattle.wb_names_theory.specs.Declares.{base_declarations, item_declarations, form_declarations, declarations, production_declarations}
use Rattle.wb_names_theory.specs.Declares.{child_declaration}
use Rattle.wb_names_theory.specs.Declares.{equation_declarations, target_declaration, base_labelled, nonterminal_name}
use Rattle.wb_names_theory.specs.Hold.{AreOnce}
use Rattle.wb_names_numbers_theory.specs.Files.{File, Block, blocks, block_of, equations_on}
use Rattle.wb_names_numbers_theory.specs.Numbering.{Numbering, numbering_of, labels_in}
use Rattle.wb_names_numbers_theory.specs.Moved.{IsMovedChild, IsMovedLocal}
use Rattle.wb_names_numbers_theory.specs.Resolves.{move_of}
use Rattle.wb_names_numbers_theory.specs.Rows.{IsProductionRow, IsExtendedProduction}
use Rattle.wb_names_numbers_theory.specs.Sources.{sources, IsFrom}
use Rattle.wb_names_numbers_theory.specs.Written.{IsWrittenChild, IsWrittenLocal, local_equations, makes_local}
use Rattle.wb_names_numbers_theory.proofs.Counts.{times_zip, times_sources, times_map_append, times_map_map, times_blocks, count_items}
use Rattle.wb_names_numbers_theory.proofs.Counts.{count_base}
use Rattle.wb_names_numbers_theory.proofs.Counts.{count_production}
use Rattle.wb_names_numbers_theory.proofs.Distinct.{names_differ}
use Rattle.wb_names_numbers_theory.proofs.OneProduction.{local_label, target_label}
use Rattle.wb_names_numbers_theory.proofs.Selected.{bytes_same, same_bytes, kept_from}
use Rattle.wb_names_numbers_theory.proofs.Times.{is_same, once_where, times, times_append, times_map, times_flat_map, times_once}

-- a label of the production
abbrev pub mark : List ℕ → List ℕ → Declaration
mark p l = d.Label p l label.Plain

pub mark_itself : (p l : List ℕ) → is_same (mark p l) (mark p l) ≡ true
mark_itself p l = and_both (bytes_eq p p) (bytes_eq l l) (bytes_same p p refl) (bytes_same l l refl)

-- what a test keeps, mapped
pub map_cond : {X Y : Type 0} (g : X → Y) (b : Bool) (y : X) (ys : List X) → map g (cond b (y ∷ ys) ys) ≡ cond b (g y ∷ map g ys) (map g ys)
map_cond g true y ys = refl
map_cond g false y ys = refl

module _ (p l : List ℕ) where
  abbrev x : Declaration
  x = mark p l

  abbrev local_mark : written.Equation → Declaration
  local_mark q = mark p (local_label q.target)

  -- an equation declares the label of its local
  target_counts : (name : List ℕ) → name ≡ p → (to : Target) (ms : List Declaration) (k : ℕ) → times x ms ≤ k
      → times x (cond (makes_local to) (mark p (local_label to) ∷ ms) ms) ≤ once_where (is_same x (target_declaration name to)) + k
  target_counts name same (g.Local one m) ms k le =
      let e : is_same x (d.Label p one (label.Local m)) ≡ is_same x (d.Label name one (label.Local m)) =
      ap (λ z. is_same x (d.Label z one (label.Local m))) (sym same) in
      let f : once_where (is_same x (mark p one)) ≡ once_where (is_same x (d.Label name one (label.Local m))) = ap once_where e in
      omega (arith, le, f)
  target_counts name same (g.Top a) ms k le = omega (arith, le)
  target_counts name same (g.Label m a) ms k le = omega (arith, le)
  target_counts name same (g.Forward a) ms k le = omega (arith, le)
  target_counts name same g.ForwardsTo ms k le = omega (arith, le)

  locals_count : (name : List ℕ) → name ≡ p → (es : List written.Equation) → times x (map local_mark (local_equations es))
      ≤ times x (equation_declarations name es)
  locals_count name same [] = omega arith
  locals_count name same (e ∷ es) =
      let r = target_counts name same e.target (map local_mark (local_equations es)) (times x (equation_declarations name es))
      (locals_count name same es) in
      let c = ap (times x) (map_cond local_mark (makes_local e.target) e (local_equations es)) in
      omega (arith, r, c)

  -- the labels of children and of locals, over items
  abbrev on : Block → Bool
  on b = bytes_eq b.name p

  abbrev es_of : Block → List written.Equation
  es_of b = b.equations

  abbrev is_local : written.Equation → Bool
  is_local e = makes_local e.target

  abbrev children_of : ItemForm Pattern → List Declaration
  children_of (f.Lexical role name pattern) = []
  children_of (f.Plain plain) = []
  children_of (f.Production role q) = map (child_declaration q.name) q.children
  children_of (f.Aspect name es) = []

  abbrev total : Items → ℕ
  total items =
      times x (map local_mark (filter is_local (flat_map es_of (filter on (blocks items)))))
      + times x (flat_map (λ (item : Item Pattern). children_of item.form) items)

  abbrev of_form : ItemForm Pattern → ℕ
  of_form form =
      times x (map local_mark (filter is_local (flat_map es_of (filter on (option_to_list (block_of form)))))) + times x (children_of form)

  step : (item : Item Pattern) (items : Items) → total (item ∷ items) ≡ of_form item.form + total items
  step item items =
      let one = times_blocks x local_mark is_local es_of on (block_of item.form) (blocks items) in
      let two = times_append x (children_of item.form) (flat_map (λ (item : Item Pattern). children_of item.form) items) in
      omega (arith, one, two)

  block_count : (name : List ℕ) (es : List written.Equation) (b : Bool) → bytes_eq name p ≡ b
      → times x (map local_mark (filter is_local (flat_map es_of (cond b (record { name = name; equations = es } ∷ []) []))))
      ≤ times x (equation_declarations name es)
  block_count name es true e =
      let r = locals_count name (same_bytes name p e) es in
      let s : es ++ [] ≡ es = append-nil es in
      subst (λ z. times x (map local_mark (filter is_local z)) ≤ times x (equation_declarations name es)) (sym s) r
  block_count name es false e = omega arith

  each : (form : ItemForm Pattern) → of_form form ≤ times x (form_declarations form)
  each (f.Lexical role name pattern) = omega arith
  each (f.Plain plain) = omega arith
  each (f.Production role q) =
      let r = block_count q.name q.equations (bytes_eq q.name p) refl in
      let both = times_append x (map (child_declaration q.name) q.children) (equation_declarations q.name q.equations) in
      omega (arith, r, both)
  each (f.Aspect name es) = let r = block_count name es (bytes_eq name p) refl in omega (arith, r)

  items_count : (items : Items) → total items ≤ times x (item_declarations items)
  items_count items = count_items x of_form total refl step each items

  -- the children of a declared production are among those of all
  own_children : (items : Items) (v : ProductionDeclaration) → Contains (productions items) v
      → times x (map (child_declaration v.production.name) v.production.children)
      ≤ times x (flat_map (λ (item : Item Pattern). children_of item.form) items)
  own_children items v has =
      let k = kept_from (λ (y : Item Pattern). production_of y.form) items v has in
      let r = times_flat_map x (λ (item : Item Pattern). children_of item.form) items k.0 k.1 in
      subst (λ z. times x z ≤ times x (flat_map (λ (item : Item Pattern). children_of item.form) items)) (from k.0.form k.2) r where
        from : (form : ItemForm Pattern) → production_of form ≡ Some v → children_of form
            ≡ map (child_declaration v.production.name) v.production.children
        from (f.Lexical role name pattern) o = absurd (cc o)
        from (f.Plain plain) o = absurd (cc o)
        from (f.Aspect name es) o = absurd (cc o)
        from (f.Production role q) o =
            let same : record { role = role; production = q } ≡ v = cc in
            ap (λ (z : ProductionDeclaration). map (child_declaration z.production.name) z.production.children) same

  module _ (file : File) (r : ResolvedParts) (once : AreOnce (declarations file.base file.items)) where
    abbrev n : Numbering
    n = numbering_of r

    abbrev equations : List written.Equation
    equations = local_equations (equations_on p file.items)

    -- the labels of the row of a declared production
    own_few : (v : ProductionDeclaration) (row : Production) → v.production.name ≡ p → Contains (productions file.items) v
        → IsProductionRow n file.owner file.items v row
        → times x (map (λ (e : Entry). mark p e.1) (labels_of row)) ≤ 1
    own_few v row same has e =
        let tag : Entry → Declaration = λ e. mark p e.1 in
        let children = times_zip x (IsWrittenChild n file.owner) (λ (c : named.Child). mark p c.label) (λ (c : Child). mark p c.label)
        (λ u w q. ap (λ k. is_same x (mark p k)) q.label) v.production.children row.children e.children in
        let here : AllZip (IsWrittenLocal n file.owner (labels_in row)) equations row.locals =
        subst (λ z. AllZip (IsWrittenLocal n file.owner (labels_in row)) (local_equations (equations_on z file.items)) row.locals) same
        e.locals in
        let locals = times_zip x (IsWrittenLocal n file.owner (labels_in row)) local_mark (λ (y : Local). mark p y.label)
        (λ u w q. ap (λ k. is_same x (mark p k)) (target_label n file.owner u.target w.label w.nonterminal q.target)) equations row.locals
        here in
        let outer = times_map_append x tag (map (λ (c : Child). (row.owner, c.label)) row.children)
        (map (λ (y : Local). (y.owner, y.label)) row.locals) in
        let c_map = times_map_map x tag (λ (c : Child). (row.owner, c.label)) row.children in
        let l_map = times_map_map x tag (λ (y : Local). (y.owner, y.label)) row.locals in
        let called = times_map x (child_declaration v.production.name) (λ (c : named.Child). mark p c.label)
        (λ c. ap (λ z. is_same x (d.Label z c.label label.Plain)) same) v.production.children in
        let there = own_children file.items v has in
        let items = items_count file.items in
        let both = times_append x (base_declarations file.base) (item_declarations file.items) in
        let few = times_once x (declarations file.base file.items) once in
        omega (arith, children, locals, outer, c_map, l_map, called, there, items, both, few)

    -- those of a production of the base
    abbrev source_mark : Local ⊎ written.Equation → Declaration
    source_mark (inl y) = mark p y.label
    source_mark (inr q) = local_mark q

    base_local : (q : Production) (row : Production) (u : Local ⊎ written.Equation) (w : Local)
        → IsFrom (IsMovedLocal (move_of file n) (labels_in q) (labels_in row)) (IsWrittenLocal n file.owner (labels_in row)) u w
        → is_same x (mark p w.label) ≡ is_same x (source_mark u)
    base_local q row (inl y) w e = ap (λ k. is_same x (mark p k)) e.label
    base_local q row (inr y) w e =
        ap (λ k. is_same x (mark p k)) (target_label n file.owner y.target w.label w.nonterminal e.target)

    base_few : (q row : Production) → q.name ≡ p → Contains file.base.attributes.productions q
        → IsExtendedProduction n file.owner file.items (move_of file n) q row
        → times x (map (λ (e : Entry). mark p e.1) (labels_of row)) ≤ 1
    base_few q row same has e =
        let tag : Entry → Declaration = λ e. mark p e.1 in
        let m = move_of file n in
        let children = times_zip x (IsMovedChild m) (λ (c : Child). mark p c.label) (λ (c : Child). mark p c.label)
        (λ u w z. ap (λ k. is_same x (mark p k)) z.label) q.children row.children e.children in
        let own = local_equations (equations_on q.name file.items) in
        let locals = times_zip x (IsFrom (IsMovedLocal m (labels_in q) (labels_in row)) (IsWrittenLocal n file.owner (labels_in row)))
        source_mark (λ (y : Local). mark p y.label) (base_local q row) (sources q.locals own) row.locals e.locals in
        let l_in = times_sources x source_mark q.locals own in
        let own_is : times x (map local_mark own) ≡ times x (map local_mark equations) =
        ap (λ z. times x (map local_mark (local_equations (equations_on z file.items)))) same in
        let outer = times_map_append x tag (map (λ (c : Child). (row.owner, c.label)) row.children)
        (map (λ (y : Local). (y.owner, y.label)) row.locals) in
        let c_map = times_map_map x tag (λ (c : Child). (row.owner, c.label)) row.children in
        let l_map = times_map_map x tag (λ (y : Local). (y.owner, y.label)) row.locals in
        let c_base = times_map x (λ (c : Child). d.Label q.name c.label (base_labelled file.base c.kind)) (λ (c : Child). mark p c.label)
        (λ c. ap (λ z. is_same x (d.Label z c.label label.Plain)) same) q.children in
        let l_base = times_map x (λ (y : Local). d.Label q.name y.label (label.Local (nonterminal_name file.base y.nonterminal)))
        (λ (y : Local). mark p y.label) (λ y. ap (λ z. is_same x (d.Label z y.label label.Plain)) same) q.locals in
        let rules = times_flat_map x (production_declarations file.base) file.base.attributes.productions q has in
        let parts = count_production x file.base q in
        let base = count_base x file.base in
        let items = items_count file.items in
        let both = times_append x (base_declarations file.base) (item_declarations file.items) in
        let few = times_once x (declarations file.base file.items) once in
        omega (arith, children, locals, l_in, own_is, outer, c_map, l_map, c_base, l_base, rules, parts, base, items, both, few)

-- the labels of a row differ
pub own_labels : (file : File) (r : ResolvedParts) → AreOnce (declarations file.base file.items)
    → (v : ProductionDeclaration) (row : Production)
    → Contains (productions file.items) v → IsProductionRow (numbering_of r) file.owner file.items v row → NamesDiffer (labels_of row)
own_labels file r once v row has e =
    names_differ (mark v.production.name) (mark_itself v.production.name) (labels_of row)
    (λ l. own_few v.production.name l file r once v row refl has e)

pub base_labels : (file : File) (r : ResolvedParts) → AreOnce (declarations file.base file.items) → (q row : Production)
    → Contains file.base.attributes.productions q
    → IsExtendedProduction (numbering_of r) file.owner file.items (move_of file (numbering_of r)) q row → NamesDiffer (labels_of row)
base_labels file r once q row has e =
    names_differ (mark q.name) (mark_itself q.name) (labels_of row) (λ l. base_few q.name l file r once q row refl has e)
