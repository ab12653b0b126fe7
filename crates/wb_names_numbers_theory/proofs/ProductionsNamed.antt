-- The productions of a value are named, where the names of its file are right.
use Rattle.std.proofs.Common.{◌≡◌, ◌≤◌, ◌∷◌, ◌⊎◌, inl, inr, [], ℕ, Bool, List, Option, Some, None, Contains, All, map, slice_get, length}
use Rattle.std.proofs.Common.{sym, refl, subst, ◌∙◌, arith}
use Rattle.std.specs.Prelude.{IfSome, option_to_list, flat_map, filter}
use Rattle.std.specs.List.{AllZip}
use Rattle.std.proofs.lemmas.List.Elements.{All-head}
use Rattle.wb_lemmas.proofs.Elements.{all_contained}
use Rattle.wb_lemmas.proofs.Members.{contains_first, contains_later, place_of, append_contains_left, nothing_in}
use Rattle.wb_base.specs.Identifiers.{IsName}
use Rattle.wb_syntax_resolved.specs.declared.attribution.AttributionParts.{AttributionParts}
use Rattle.wb_syntax_resolved.specs.declared.equation.Equation.{Equation}
use Rattle.wb_syntax_resolved.specs.declared.production.Child.{Child}
use Rattle.wb_syntax_resolved.specs.declared.production.ChildKind.{ChildKind}
use Rattle.wb_syntax_resolved.specs.declared.production.ChildKind.TheVariants as child
use Rattle.wb_syntax_resolved.specs.declared.production.Forward.{Forward}
use Rattle.wb_syntax_resolved.specs.declared.production.Local.{Local}
use Rattle.wb_syntax_resolved.specs.declared.production.Production.{Production}
use Rattle.wb_syntax_resolved.specs.declared.resolved.ResolvedParts.{ResolvedParts}
use Rattle.wb_syntax_resolved.specs.Named.{IsNamedProduction, IsNamedLocal}
use Rattle.wb_syntax_resolved.specs.Named.{IsNamedEquation, IsNamedExpression, IsNamedChild, IsChildKindOf, IsNamedTarget}
use Rattle.wb_syntax_resolved.specs.Once.{NamesDiffer, labels_of, IsOnceIn}
use Rattle.wb_syntax_resolved.specs.Owners.{Sees, IsOwner}
use Rattle.wb_syntax_resolved.specs.Visible.{SeesNonterminal}
use Rattle.wb_syntax.specs.declared.expression.Equation as written
use Rattle.wb_syntax.specs.declared.expression.Target as is_for
use Rattle.wb_syntax.specs.declared.expression.Target.TheVariants as g
use Rattle.wb_syntax.specs.declared.item.Item.{Item}
use Rattle.wb_syntax.specs.declared.item.ItemForm.{ItemForm}
use Rattle.wb_syntax.specs.declared.item.ItemForm.TheVariants as f
use Rattle.wb_syntax.specs.declared.pattern.Pattern.{Pattern}
use Rattle.wb_syntax.specs.declared.production.Child as named
use Rattle.wb_syntax.specs.declared.production.NamedKind.{NamedKind}
use Rattle.wb_syntax.specs.declared.production.NamedKind.TheVariants as k
use Rattle.wb_syntax.specs.declared.production.ProductionRole as written_role
use Rattle.wb_syntax.specs.declared.production.ProductionRole.TheVariants as w
use Rattle.wb_syntax.specs.Names.{EquationHasNames, target_names, child_names}
use Rattle.wb_names_theory.specs.declared.declaration.Declaration.TheVariants as d
use Rattle.wb_names_theory.specs.declared.declaration.Sort.TheVariants as sort
use Rattle.wb_names_theory.specs.declared.usage.Usage.TheVariants as u
use Rattle.wb_names_theory.specs.declared.usage.Wanted.TheVariants as wanted
use Rattle.wb_names_theory.specs.Declarations.{Items, ProductionDeclaration, productions, production_of}
use Rattle.wb_names_theory.specs.Declares.{declarations}
use Rattle.wb_names_theory.specs.Hold.{NamesHold, SymbolFor, AreOnce}
use Rattle.wb_names_theory.specs.NamesOk.{scope_of}
use Rattle.wb_names_theory.specs.Uses.{uses, kind_uses, child_wanted, equation_uses}
use Rattle.wb_names_theory.specs.WrongKind.{misplaced, form_misplaced, misplaced_child}
use Rattle.wb_names_numbers_theory.specs.Files.{File, equations_on}
use Rattle.wb_names_numbers_theory.specs.Moved.{IsMovedChild, IsMovedForward, IsMovedLocal, IsMovedEquation}
use Rattle.wb_names_numbers_theory.specs.Numbering.{Numbering, numbering_of, IsNumber, labels_in}
use Rattle.wb_names_numbers_theory.specs.Resolves.{move_of, IsProduction, IsConcrete}
use Rattle.wb_names_numbers_theory.specs.Rows.{IsProductionRow, IsExtendedProduction, production_role}
use Rattle.wb_names_numbers_theory.specs.Sources.{sources, IsFrom}
use Rattle.wb_names_numbers_theory.specs.Written.{IsWrittenChild, IsWrittenChildKind, IsWrittenLocal, IsWrittenLocalTarget}
use Rattle.wb_names_numbers_theory.specs.Written.{IsWrittenEquation}
use Rattle.wb_names_numbers_theory.specs.Written.{IsWrittenForward, local_equations, forward_equations, attribute_equations, makes_local}
use Rattle.wb_names_numbers_theory.specs.Written.{makes_forward}
use Rattle.wb_names_numbers_theory.specs.Written.{makes_attribute}
use Rattle.wb_names_numbers_theory.specs.Carried.{IsCarriedProduction}
use Rattle.wb_names_numbers_theory.proofs.BaseCarried.{base_carried, extended_carried}
use Rattle.wb_names_numbers_theory.proofs.Carrying.{carried_nonterminal}
use Rattle.wb_names_numbers_theory.proofs.CarryingNamed.{carried_all, carried_child, carried_local, carried_equation, carried_expression}
use Rattle.wb_names_numbers_theory.proofs.OwnDeclared.{flat_map_contains}
use Rattle.wb_names_numbers_theory.proofs.Found.{sees_nonterminal, nonterminal_found}
use Rattle.wb_names_numbers_theory.proofs.Ground.{Ground, production_seen}
use Rattle.wb_names_numbers_theory.proofs.LabelsFound.{ChildrenScanned, IsScannedName}
use Rattle.wb_names_numbers_theory.proofs.LabelsOnce.{own_labels, base_labels}
use Rattle.wb_names_numbers_theory.proofs.NumberLemmas.{differ_right}
use Rattle.wb_names_numbers_theory.proofs.OneProduction.{labels_differ}
use Rattle.wb_names_numbers_theory.proofs.OneRow.{LabelsDiffer, not_both}
use Rattle.wb_names_numbers_theory.proofs.OwnNamed.{Known, own_expression, own_equation_target}
use Rattle.wb_names_numbers_theory.proofs.RowLemmas.{all_rows, all_zipped, source_before, source_declared}
use Rattle.wb_names_numbers_theory.proofs.RowsNamed.{IsOwners, is_owner, is_host, own_kind}
use Rattle.wb_names_numbers_theory.proofs.Selected.{kept_from, contains_filter, block_of_equation}
use Rattle.wb_names_numbers_theory.proofs.TargetsOnce.{own_targets, base_targets}
use Rattle.wb_names_numbers_theory.proofs.Used.{production_used, production_names, equation_names}

-- a child of a declared production is used as its production asks
child_used : (items : Items) (x : ProductionDeclaration) (c : named.Child) (name : List ℕ) → Contains (productions items) x
    → Contains x.production.children c → c.kind ≡ k.Name name → Contains (uses items) (u.Name name (child_wanted x.role))
child_used items x c name has inside e =
    let it = u.Name name (child_wanted x.role) in
    let one : Contains (kind_uses (child_wanted x.role) c.kind) it =
    subst (λ z. Contains (kind_uses (child_wanted x.role) z) it) (sym e) (contains_first it []) in
    production_used items x has it (contains_later (u.Name x.production.left wanted.Nonterminal) it _
    (append_contains_left (flat_map (λ (c : named.Child). kind_uses (child_wanted x.role) c.kind) x.production.children)
    (flat_map (equation_uses x.production.name) x.production.equations) it
    (flat_map_contains (λ (c : named.Child). kind_uses (child_wanted x.role) c.kind) x.production.children c it inside one)))

-- a terminal among them is declared as one that is scanned
pub children_scanned : (file : File) (format : ℕ) → NamesHold (scope_of file.base file.owner format file.items) → ChildrenScanned file
children_scanned file format hold x c name number has inside e r ground is =
    from x.role (child_used file.items x c name has inside e) where
      neither : (k : ℕ) → IsNumber (numbering_of r).nonterminals file.owner name k → ⊥
      neither k other = not_both (numbering_of r) ground.distinct file.owner name number k is other

      from : (role : written_role.ProductionRole) → Contains (uses file.items) (u.Name name (child_wanted role)) → IsScannedName file name
      from w.Concrete used = symbol (hold.meant.names name wanted.GrammarSymbol used) where
        symbol : SymbolFor (declarations file.base file.items) wanted.GrammarSymbol name → IsScannedName file name
        symbol s = by_sort s.suits where
          by_sort : (s.is ≡ sort.Terminal) ⊎ (s.is ≡ sort.Marker) ⊎ (s.is ≡ sort.Nonterminal) → IsScannedName file name
          by_sort (inl terminal) = inl (subst (λ z. Contains (declarations file.base file.items) (d.Symbol name z)) terminal s.there)
          by_sort (inr (inl marker)) = inr (subst (λ z. Contains (declarations file.base file.items) (d.Symbol name z)) marker s.there)
          by_sort (inr (inr other)) =
              let f = nonterminal_found file r ground name (subst (λ z. Contains (declarations file.base file.items) (d.Symbol name z))
              other s.there) in
              absurd (neither f.number f.is)
      from w.Abstract used =
          let s = hold.meant.names name wanted.Nonterminal used in
          let f = nonterminal_found file r ground name (subst (λ z. Contains (declarations file.base file.items) (d.Symbol name z)) s.suits
          s.there) in
          absurd (neither f.number f.is)

module _ (file : File) (r : ResolvedParts) (known : Known file r) (owners : IsOwners file) where
  abbrev n : Numbering
  n = numbering_of r

  abbrev a : AttributionParts
  a = r.attributes

  abbrev b : AttributionParts
  b = file.base.attributes

  abbrev ground : Ground file r
  ground = known.ground

  abbrev once : AreOnce (declarations file.base file.items)
  once = known.hold.once

  -- labels and targets of each production are once
  once_in : (x : Production ⊎ ProductionDeclaration) (row : Production) → Contains (sources b.productions (productions file.items)) x
      → IsProduction file n x row → IsOnceIn row
  once_in (inl p) row has e =
      let inside = source_before b.productions (productions file.items) p has in
      record { labels = base_labels file r once p row inside e; targets = base_targets file r ground once p row inside e }
  once_in (inr x) row has e =
      let inside = source_declared b.productions (productions file.items) x has in
      record { labels = own_labels file r once x row inside e; targets = own_targets file r ground once x row e }

  pub all_once : All IsOnceIn a.productions
  all_once = all_rows IsConcrete (IsProduction file n) IsOnceIn (sources b.productions (productions file.items)) a.productions
      ground.resolves.productions (λ x row has listed e. once_in x row has e)

  -- the label of a local is a name
  local_target : (to : is_for.Target) (l : List ℕ) (number : ℕ) → IsWrittenLocalTarget n file.owner to l number
      → All IsName (target_names to)
      → IsName l × SeesNonterminal a file.owner number
  local_target (g.Local own m) l number e names =
      (subst IsName (sym e.0) (All-head IsName own (m ∷ []) names), sees_nonterminal file r ground m number e.1)
  local_target (g.Top name) l number e names = absurd e
  local_target (g.Label other name) l number e names = absurd e
  local_target (g.Forward name) l number e names = absurd e
  local_target g.ForwardsTo l number e names = absurd e

  module _ (at_row : ℕ) (row : Production) (is_there : slice_get a.productions at_row ≡ Some row) (labels : NamesDiffer (labels_of row))
    where
      differ : LabelsDiffer (labels_in row) row.owner file.owner
      differ = labels_differ row file.owner labels (production_seen file r ground at_row row is_there)

      equation_names_on : (q : written.Equation) → Contains (equations_on row.name file.items) q → EquationHasNames q
      equation_names_on q has =
          let (block, there, same, inside) = block_of_equation row.name file.items q has in
          equation_names file.items known.names block there q inside

      -- a local, an equation and a forward that the file writes
      own_local : (q : written.Equation) (l : Local) → Contains (equations_on row.name file.items) q
          → IsWrittenLocal n file.owner (labels_in row) q l → IsNamedLocal a row l
      own_local q l has e =
          let t = local_target q.target l.label l.nonterminal e.target (equation_names_on q has).target in
          record {
            owner = is_owner file r known owners l.owner e.owner_is;
            there = subst (λ o. Sees o row.owner) (sym e.owner_is) (production_seen file r ground at_row row is_there);
            label = t.0;
            nonterminal = subst (λ o. SeesNonterminal a o l.nonterminal) (sym e.owner_is) t.1;
            value = subst (λ o. IsNamedExpression a row o l.nodes) (sym e.owner_is)
                (own_expression file r known at_row row is_there differ q has l.nodes e.nodes);
          }

      own_equation : (q : written.Equation) (v : Equation) → Contains (equations_on row.name file.items) q
          → IsWrittenEquation n file.owner (labels_in row) q v → IsNamedEquation a row v
      own_equation q v has e = record {
        owner = is_owner file r known owners v.owner e.owner_is;
        there = subst (λ o. Sees o row.owner) (sym e.owner_is) (production_seen file r ground at_row row is_there);
        target = subst (λ o. IsNamedTarget a row o v.target) (sym e.owner_is)
            (own_equation_target file r known at_row row is_there differ q has v.target e.target);
        value = subst (λ o. IsNamedExpression a row o v.nodes) (sym e.owner_is)
            (own_expression file r known at_row row is_there differ q has v.nodes e.nodes);
      }

      own_forward : (q : written.Equation) (v : Forward) → Contains (equations_on row.name file.items) q
          → IsWrittenForward n file.owner (labels_in row) q v → IsNamedExpression a row file.owner v.nodes
      own_forward q v has e = own_expression file r known at_row row is_there differ q has v.nodes e.nodes

      -- those of a list that a test keeps
      kept_on : (name : List ℕ) → row.name ≡ name → (test : written.Equation → Bool) (q : written.Equation)
          → Contains (filter test (equations_on name file.items)) q → Contains (equations_on row.name file.items) q
      kept_on name same test q has =
          subst (λ z. Contains (equations_on z file.items) q) (sym same) (contains_filter test (equations_on name file.items) q has).0

      -- a production of the base, with what the file writes on it
      module _ (p : Production) (inside : Contains b.productions p)
          (e : IsExtendedProduction n file.owner file.items (move_of file n) p row) where
        base_named : IsNamedProduction b p
        base_named = all_contained (IsNamedProduction b) b.productions p ground.base.attributes.named.productions inside

        host_owner : (o : ℕ) → IsOwner b.extensions o → IsOwner a.extensions o
        host_owner o is =
            let few : o ≤ 0 = subst (λ z. o ≤ length z) ground.alone is in
            let zero : o ≡ 0 = omega (arith, few) in
            is_host file r known owners o zero

        locals_differ : NamesDiffer (labels_in row).locals
        locals_differ = differ_right (map (λ (c : Child). (row.owner, c.label)) row.children) (labels_in row).locals labels

        head : IsCarriedProduction (move_of file n) p row
        head = extended_carried n file (move_of file n) p row e

        by_local : (x : Local ⊎ written.Equation) (l : Local) → Contains (sources p.locals (local_equations (equations_on p.name file.items)))
            x
            → IsFrom (IsMovedLocal (move_of file n) (labels_in p) (labels_in row)) (IsWrittenLocal n file.owner (labels_in row)) x l
            → IsNamedLocal a row l
        by_local (inl x) l has t =
            carried_local (λ (o : ℕ). o) file.base r ground.distinct (base_carried file r ground.resolves) p row head locals_differ host_owner
            x l t
            (all_contained (IsNamedLocal b p) p.locals x base_named.locals
            (source_before p.locals (local_equations (equations_on p.name file.items)) x has))
        by_local (inr q) l has t =
            own_local q l (kept_on p.name e.name (λ (z : written.Equation). makes_local z.target) q
            (source_declared p.locals (local_equations (equations_on p.name file.items)) q has)) t

        by_equation : (x : Equation ⊎ written.Equation) (v : Equation)
            → Contains (sources p.equations (attribute_equations (equations_on p.name file.items))) x
            → IsFrom (IsMovedEquation (move_of file n) (labels_in p) (labels_in row)) (IsWrittenEquation n file.owner (labels_in row)) x v
            → IsNamedEquation a row v
        by_equation (inl x) v has t =
            carried_equation (λ (o : ℕ). o) file.base r ground.distinct (base_carried file r ground.resolves) p row head locals_differ
            host_owner x v t
            (all_contained (IsNamedEquation b p) p.equations x base_named.equations
            (source_before p.equations (attribute_equations (equations_on p.name file.items)) x has))
        by_equation (inr q) v has t =
            own_equation q v (kept_on p.name e.name (λ (z : written.Equation). makes_attribute z.target) q
            (source_declared p.equations (attribute_equations (equations_on p.name file.items)) q has)) t

        by_forward : (x y : Option Forward) → AllZip (IsMovedForward (move_of file n) (labels_in p) (labels_in row)) (option_to_list x)
            (option_to_list y)
            → IfSome x (λ (f : Forward). IsNamedExpression b p p.owner f.nodes)
            → IfSome y (λ (f : Forward). IsNamedExpression a row row.owner f.nodes)
        by_forward x None all named = tt
        by_forward None (Some y) all named = absurd all
        by_forward (Some x) (Some y) all named =
            subst (λ o. IsNamedExpression a row o y.nodes) (sym e.owner_is)
            (carried_expression (λ (o : ℕ). o) file.base r ground.distinct (base_carried file r ground.resolves) p row head locals_differ
            p.owner
            x.nodes y.nodes all.0.nodes named)

        named_base : IsNamedProduction a row
        named_base = record {
          owner = is_host file r known owners row.owner (e.owner_is ∙ ground.host.productions p inside);
          name = subst IsName (sym e.name) base_named.name;
          left = subst (λ o. SeesNonterminal a o row.left) (sym e.owner_is)
              (carried_nonterminal (λ (o : ℕ). o) file.base r ground.distinct (base_carried file r ground.resolves) p.owner p.left row.left
              base_named.left e.left);
          children = carried_all (IsMovedChild (move_of file n)) (IsNamedChild b p) (IsNamedChild a row)
              (carried_child (λ (o : ℕ). o) file.base r ground.distinct (base_carried file r ground.resolves) p row head locals_differ)
              p.children
              row.children e.children base_named.children;
          locals = all_zipped (IsFrom (IsMovedLocal (move_of file n) (labels_in p) (labels_in row)) (IsWrittenLocal n file.owner (labels_in
              row)))
              (IsNamedLocal a row) (sources p.locals (local_equations (equations_on p.name file.items))) row.locals e.locals
              (λ x l has listed t. by_local x l has t);
          forward = by_forward p.forward row.forward e.forward base_named.forward;
          equations = all_zipped
              (IsFrom (IsMovedEquation (move_of file n) (labels_in p) (labels_in row)) (IsWrittenEquation n file.owner (labels_in row)))
              (IsNamedEquation a row) (sources p.equations (attribute_equations (equations_on p.name file.items))) row.equations e.equations
              (λ x v has listed t. by_equation x v has t);
        }

      -- a declared production
      module _ (x : ProductionDeclaration) (inside : Contains (productions file.items) x)
          (e : IsProductionRow n file.owner file.items x row) where
        -- a child of a concrete one isn't plain, and none of an abstract one is a terminal
        plain_child : x.role ≡ w.Concrete → (c : named.Child) → Contains x.production.children c → {from : NamedKind} → c.kind ≡ from
            → Contains (misplaced_child w.Concrete c.label from) c.label → ⊥
        plain_child s c listed {from} q plain =
            let it = kept_from (λ (y : Item Pattern). production_of y.form) file.items x inside in
            let one : Contains (misplaced_child x.role c.label c.kind) c.label =
            subst (λ z. Contains (misplaced_child z c.label c.kind) c.label) (sym s)
            (subst (λ z. Contains (misplaced_child w.Concrete c.label z) c.label) (sym q) plain) in
            let two : Contains (flat_map (λ (y : named.Child). misplaced_child x.role y.label y.kind) x.production.children) c.label =
            flat_map_contains (λ (y : named.Child). misplaced_child x.role y.label y.kind) x.production.children c c.label listed one in
            let three : Contains (form_misplaced file.owner it.0.form) c.label = in_form it.0.form it.2 c.label two in
            let four : Contains (misplaced file.owner file.items) c.label =
            flat_map_contains (λ (y : Item Pattern). form_misplaced file.owner y.form) file.items it.0 c.label it.1 three in
            nothing_in c.label (subst (λ z. Contains z c.label) known.hold.placed four) where
              in_form : (form : ItemForm Pattern) → production_of form ≡ Some x → (l : List ℕ)
                  → Contains (flat_map (λ (y : named.Child). misplaced_child x.role y.label y.kind) x.production.children) l
                  → Contains (form_misplaced file.owner form) l
              in_form (f.Lexical kind name pattern) o l has = absurd (cc o)
              in_form (f.Plain plain) o l has = absurd (cc o)
              in_form (f.Aspect name es) o l has = absurd (cc o)
              in_form (f.Production kind q) o l has =
                  let same : record { role = kind; production = q } ≡ x = cc in
                  subst (λ (z : ProductionDeclaration). Contains (flat_map (λ (y : named.Child). misplaced_child z.role y.label y.kind)
                  z.production.children) l)
                  (sym same) has

        abstract_terminal : x.role ≡ w.Abstract → (c : named.Child) → Contains x.production.children c → (from : NamedKind) → c.kind ≡ from
            → (number : ℕ) → IsWrittenChildKind n file.owner from (child.Terminal number) → ⊥
        abstract_terminal s c listed k.Int q number t = t
        abstract_terminal s c listed k.Bool q number t = t
        abstract_terminal s c listed k.Text q number t = t
        abstract_terminal s c listed (k.Name name) q number t =
            let used = subst (λ z. Contains (uses file.items) (u.Name name (child_wanted z))) s (child_used file.items x c name inside listed
            q) in
            let meant = known.hold.meant.names name wanted.Nonterminal used in
            let found = nonterminal_found file r ground name
            (subst (λ z. Contains (declarations file.base file.items) (d.Symbol name z)) meant.suits meant.there) in
            not_both n ground.distinct file.owner name number found.number t found.is

        child_kind : (role : written_role.ProductionRole) → x.role ≡ role → (c : named.Child) → Contains x.production.children c
            → (from : NamedKind) → c.kind ≡ from → (is : ChildKind) → IsWrittenChildKind n file.owner from is
            → IsChildKindOf a file.owner (production_role role) is
        child_kind w.Concrete s c listed (k.Name name) q (child.Terminal number) t = tt
        child_kind w.Concrete s c listed (k.Name name) q (child.Value is) t =
            (t.0, t.2, sees_nonterminal file r ground name t.0 t.1)
        child_kind w.Concrete s c listed k.Int q is t = absurd (plain_child s c listed q (contains_first c.label []))
        child_kind w.Concrete s c listed k.Bool q is t = absurd (plain_child s c listed q (contains_first c.label []))
        child_kind w.Concrete s c listed k.Text q is t = absurd (plain_child s c listed q (contains_first c.label []))
        child_kind w.Abstract s c listed from q (child.Terminal number) t = absurd (abstract_terminal s c listed from q number t)
        child_kind w.Abstract s c listed from q (child.Value is) t = own_kind file r known owners from is t

        named_child : (c : named.Child) (to : Child) → Contains x.production.children c → IsWrittenChild n file.owner c to
            → IsNamedChild a row to
        named_child c to listed t =
            let names = all_contained (λ (c : named.Child). All IsName (child_names c)) x.production.children c
            (production_names file.items known.names x inside).children listed in
            record {
              label = subst IsName (sym t.label) (all_contained IsName (child_names c) c.label names (contains_first c.label _));
              is_kind = subst (λ o. IsChildKindOf a o row.role to.kind) (sym e.owner_is)
                  (subst (λ z. IsChildKindOf a file.owner z to.kind) (sym e.role) (child_kind x.role refl c listed c.kind refl to.kind
                  t.is_kind));
            }

        forward_named : (y : Option Forward)
            → AllZip (IsWrittenForward n file.owner (labels_in row)) (forward_equations (equations_on x.production.name file.items))
            (option_to_list y) → IfSome y (λ (f : Forward). IsNamedExpression a row row.owner f.nodes)
        forward_named None all = tt
        forward_named (Some y) all = subst (λ o. IsNamedExpression a row o y.nodes) (sym e.owner_is)
            (first (forward_equations (equations_on x.production.name file.items)) all
            (λ q has. kept_on x.production.name e.name (λ (z : written.Equation). makes_forward z.target) q has)) where
              first : (qs : List written.Equation) → AllZip (IsWrittenForward n file.owner (labels_in row)) qs (y ∷ [])
                  → ((q : written.Equation) → Contains qs q → Contains (equations_on row.name file.items) q)
                  → IsNamedExpression a row file.owner y.nodes
              first [] all on = absurd all
              first (q ∷ qs) all on = own_forward q y (on q (contains_first q qs)) all.0

        named_own : IsNamedProduction a row
        named_own =
            let names = production_names file.items known.names x inside in
            record {
              owner = is_owner file r known owners row.owner e.owner_is;
              name = subst IsName (sym e.name) names.name;
              left = subst (λ o. SeesNonterminal a o row.left) (sym e.owner_is)
                  (sees_nonterminal file r ground x.production.left row.left e.left);
              children = all_zipped (IsWrittenChild n file.owner) (IsNamedChild a row) x.production.children row.children e.children
                  (λ c to has listed t. named_child c to has t);
              locals = all_zipped (IsWrittenLocal n file.owner (labels_in row)) (IsNamedLocal a row)
                  (local_equations (equations_on x.production.name file.items)) row.locals e.locals (λ q l has listed t. own_local q l
                  (kept_on x.production.name e.name (λ (z : written.Equation). makes_local z.target) q has) t);
              forward = forward_named row.forward e.forward;
              equations = all_zipped (IsWrittenEquation n file.owner (labels_in row)) (IsNamedEquation a row)
                  (attribute_equations (equations_on x.production.name file.items)) row.equations e.equations (λ q v has listed t.
                  own_equation q v
                  (kept_on x.production.name e.name (λ (z : written.Equation). makes_attribute z.target) q has) t);
            }

  -- each production
  named_production : (x : Production ⊎ ProductionDeclaration) (row : Production) → Contains (sources b.productions (productions file.items))
      x
      → Contains a.productions row → IsProduction file n x row → IsNamedProduction a row
  named_production (inl p) row has listed e =
      let inside = source_before b.productions (productions file.items) p has in
      let (j, at) = place_of a.productions row listed in
      named_base j row at (base_labels file r once p row inside e) p inside e
  named_production (inr x) row has listed e =
      let inside = source_declared b.productions (productions file.items) x has in
      let (j, at) = place_of a.productions row listed in
      named_own j row at (own_labels file r once x row inside e) x inside e

  pub all_named : All (IsNamedProduction a) a.productions
  all_named = all_rows IsConcrete (IsProduction file n) (IsNamedProduction a) (sources b.productions (productions file.items)) a.productions
      ground.resolves.productions named_production
