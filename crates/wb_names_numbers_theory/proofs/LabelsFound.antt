-- A label that is declared on a production names a place of its row, and what is there is what it is declared as.
use Rattle.std.proofs.Common.{◌≡◌, ◌≢◌, ◌⊎◌, inl, inr, ℕ, Bool, true, false, List, Some, Contains, map, slice_get, ap}
use Rattle.std.proofs.Common.{sym, refl, subst, ◌∙◌}
use Rattle.std.specs.Prelude.{option_map}
use Rattle.std.proofs.lemmas.Bool.{false≢true}
use Rattle.std.proofs.lemmas.Option.{slice_get-map}
use Rattle.wb_lemmas.proofs.Elements.{all_contained}
use Rattle.wb_lemmas.proofs.Members.{contains_at, place_of, append_contains_left}
use Rattle.wb_lemmas.proofs.Zips.{zip_at}
use Rattle.wb_base.specs.declared.symbol.Kind.{Kind}
use Rattle.wb_base.specs.declared.symbol.Kind.TheVariants as kind
use Rattle.wb_syntax_resolved.specs.declared.attribution.AttributionParts.{AttributionParts}
use Rattle.wb_syntax_resolved.specs.declared.equation.Place.{Place}
use Rattle.wb_syntax_resolved.specs.declared.equation.Place.TheVariants as place
use Rattle.wb_syntax_resolved.specs.declared.production.Child.{Child}
use Rattle.wb_syntax_resolved.specs.declared.production.ChildKind.{ChildKind}
use Rattle.wb_syntax_resolved.specs.declared.production.ChildKind.TheVariants as child
use Rattle.wb_syntax_resolved.specs.declared.production.Local.{Local}
use Rattle.wb_syntax_resolved.specs.declared.production.Production.{Production}
use Rattle.wb_syntax_resolved.specs.declared.resolved.ResolvedParts.{ResolvedParts}
use Rattle.wb_syntax_resolved.specs.declared.terminal.Terminal.{Terminal}
use Rattle.wb_syntax_resolved.specs.declared.terminal.TerminalKind.{TerminalKind}
use Rattle.wb_syntax_resolved.specs.declared.terminal.TerminalKind.TheVariants as t
use Rattle.wb_syntax_resolved.specs.Resolved.{IsTerminalChild, HasGrammarTerminals}
use Rattle.wb_syntax_resolved.specs.Owners.{Sees}
use Rattle.wb_syntax_resolved.specs.Visible.{SeesPlace, owner_of_local}
use Rattle.wb_syntax.specs.declared.expression.Equation as written
use Rattle.wb_syntax.specs.declared.expression.Target.{Target}
use Rattle.wb_syntax.specs.declared.expression.Target.TheVariants as g
use Rattle.wb_syntax.specs.declared.item.PlainForm.{PlainForm}
use Rattle.wb_syntax.specs.declared.item.PlainForm.TheVariants as i
use Rattle.wb_syntax.specs.declared.production.Child as named
use Rattle.wb_syntax.specs.declared.production.NamedKind.{NamedKind}
use Rattle.wb_syntax.specs.declared.production.NamedKind.TheVariants as k
use Rattle.wb_names_theory.specs.declared.declaration.Declaration.{Declaration}
use Rattle.wb_names_theory.specs.declared.declaration.Declaration.TheVariants as d
use Rattle.wb_names_theory.specs.declared.declaration.Labelled.{Labelled}
use Rattle.wb_names_theory.specs.declared.declaration.Labelled.TheVariants as label
use Rattle.wb_names_theory.specs.declared.declaration.Sort.TheVariants as sort
use Rattle.wb_names_theory.specs.Declarations.{ProductionDeclaration, productions}
use Rattle.wb_names_theory.specs.Declares.{declarations, base_declarations, item_declarations, base_labelled, labelled, terminal_name}
use Rattle.wb_names_theory.specs.Declares.{nonterminal_name, terminal_sort, plain_declaration, target_declaration, name_in}
use Rattle.wb_names_theory.specs.Meaning.{IsSymbol, HasLabel}
use Rattle.wb_names_numbers_theory.specs.Files.{File, equations_on}
use Rattle.wb_names_numbers_theory.specs.Moved.{IsMovedChildKind, IsMovedChild, IsMovedLocal}
use Rattle.wb_names_numbers_theory.specs.Numbering.{Numbering, numbering_of, IsNumber, IsPlace, labels_in}
use Rattle.wb_names_numbers_theory.specs.Resolves.{move_of, IsConcrete, IsProduction}
use Rattle.wb_names_numbers_theory.specs.Sources.{sources, IsFrom}
use Rattle.wb_names_numbers_theory.specs.Written.{IsWrittenChild, IsWrittenChildKind, IsWrittenLocal, IsWrittenLocalTarget, local_equations}
use Rattle.wb_names_numbers_theory.specs.Written.{makes_local}
use Rattle.wb_names_numbers_theory.proofs.Carrying.{name_at}
use Rattle.wb_names_numbers_theory.proofs.DeclaredBy.{IsDeclaredBy, declared_by}
use Rattle.wb_names_numbers_theory.proofs.DeclaredBy as by
use Rattle.wb_names_numbers_theory.proofs.Found.{moved_nonterminal, moved_terminal}
use Rattle.wb_names_numbers_theory.proofs.Ground.{Ground, base_row, own_row, production_seen}
use Rattle.wb_names_numbers_theory.proofs.RowLemmas.{row_of_zip, RowOf, there_before, there_declared, map_contains, source_of}
use Rattle.wb_names_numbers_theory.proofs.Selected.{filter_contains, equations_of_block}

-- a terminal or marker is declared under this name
abbrev pub IsScannedName : File → List ℕ → Type 0
IsScannedName file name =
    IsSymbol (declarations file.base file.items) name sort.Terminal ⊎ IsSymbol (declarations file.base file.items) name sort.Marker

-- a terminal that is a child of a declared production is one of the grammar
abbrev pub ChildrenScanned : File → Type 0
ChildrenScanned file = (x : ProductionDeclaration) (c : named.Child) (name : List ℕ) (number : ℕ) → Contains (productions file.items) x
    → Contains x.production.children c → c.kind ≡ k.Name name → (r : ResolvedParts) → Ground file r
    → IsNumber (numbering_of r).terminals file.owner name number → IsScannedName file name

-- what is there is what the label is declared as
abbrev pub Means : File → Numbering → Labelled → ChildKind → Type 0
Means file n label.Plain is = (k : Kind) × (is ≡ child.Value k)
Means file n (label.Child name) is =
    ((k : ℕ) × (is ≡ child.Terminal k) × IsNumber n.terminals file.owner name k × IsScannedName file name)
    ⊎ ((k : ℕ) × (is ≡ child.Value (kind.Tree k)) × IsNumber n.nonterminals file.owner name k)
Means file n (label.Local name) is = (k : ℕ) × (is ≡ child.Value (kind.Tree k)) × IsNumber n.nonterminals file.owner name k

pub record LabelFound (file : File) (n : Numbering) (row : Production) (l : List ℕ) (is : Labelled) : Type 0 where
  pub at : Place
  pub is_place : IsPlace (labels_in row) file.owner l at
  pub to_kind : ChildKind
  pub there : SeesPlace row file.owner at to_kind
  pub means : Means file n is to_kind

abbrev is_label : Declaration → Bool
is_label (d.Label p l is) = true
is_label other = false

plain_no_label : (x : PlainForm) → is_label (plain_declaration x) ≡ false
plain_no_label (i.Prefer first second) = refl
plain_no_label (i.Nonterminal one) = refl
plain_no_label (i.Start one) = refl
plain_no_label (i.Extensible one) = refl
plain_no_label (i.Closed one) = refl
plain_no_label (i.Synthesized one its) = refl
plain_no_label (i.Inherited one its) = refl
plain_no_label (i.Occurs a m needs) = refl
plain_no_label (i.ForwardOn m needs) = refl

-- a declaration of a label is on its block's production
named_block : (p name : List ℕ) (to : Target) (l : List ℕ) (is : Labelled) → target_declaration p to ≡ d.Label name l is → p ≡ name
named_block p name (g.Local own nonterminal) l is same = cc
named_block p name (g.Top a) l is same = absurd (false≢true (ap is_label same))
named_block p name (g.Label m a) l is same = absurd (false≢true (ap is_label same))
named_block p name (g.Forward a) l is same = absurd (false≢true (ap is_label same))
named_block p name g.ForwardsTo l is same = absurd (false≢true (ap is_label same))

module _ (file : File) (r : ResolvedParts) (ground : Ground file r) (scanned : ChildrenScanned file) where
  abbrev n : Numbering
  n = numbering_of r

  abbrev b : AttributionParts
  b = file.base.attributes

  -- a terminal of the base is declared
  base_symbol : (x : Terminal) → Contains file.base.terminals x
      → Contains (declarations file.base file.items) (d.Symbol x.name (terminal_sort x.kind))
  base_symbol x has =
      append_contains_left (base_declarations file.base) (item_declarations file.items) _
      (append_contains_left _ _ _ (append_contains_left _ _ _ (append_contains_left _ _ _ (append_contains_left
      (map (λ (x : Terminal). d.Symbol x.name (terminal_sort x.kind)) file.base.terminals) _ _
      (map_contains (λ (x : Terminal). d.Symbol x.name (terminal_sort x.kind)) file.base.terminals x has)))))

  scanned_sort : (name : List ℕ) (k : TerminalKind) → k ≢ t.Ignore
      → Contains (declarations file.base file.items) (d.Symbol name (terminal_sort k)) → IsScannedName file name
  scanned_sort name t.Plain some has = inl has
  scanned_sort name t.Marking some has = inr has
  scanned_sort name t.Ignore some has = absurd (some refl)

  base_scanned : (p : Production) → Contains b.productions p → (c : Child) → Contains p.children c → (number : ℕ)
      → c.kind ≡ child.Terminal number → IsScannedName file (terminal_name file.base number)
  base_scanned p has c more number e =
      let t = all_contained (λ (c : Child). (number : ℕ) → c.kind ≡ child.Terminal number → IsTerminalChild file.base p.owner number)
      p.children c (all_contained (HasGrammarTerminals file.base) b.productions p ground.base.children has) more number e in
      subst (IsScannedName file) (ap (name_in (λ (x : Terminal). x.name)) (sym t.is))
      (scanned_sort t.terminal.name t.terminal.kind t.plain (base_symbol t.terminal (contains_at file.base.terminals t.terminal number
      t.is)))

  -- a moved kind means what the base's kind is called
  base_means : (p : Production) → Contains b.productions p → (c : Child) → Contains p.children c → (from to : ChildKind) → c.kind ≡ from
      → IsMovedChildKind (move_of file n) from to → Means file n (base_labelled file.base from) to
  base_means p has c more (child.Terminal number) to e m =
      inl (m.0, m.2, moved_terminal file r ground number m.0 m.1, base_scanned p has c more number e)
  base_means p has c more (child.Value (kind.Tree number)) to e m =
      inr (m.1.0, m.2 ∙ ap child.Value m.1.2, moved_nonterminal file r ground number m.1.0 m.1.1)
  base_means p has c more (child.Value kind.Int) to e m = (m.0, m.2)
  base_means p has c more (child.Value kind.Bool) to e m = (m.0, m.2)
  base_means p has c more (child.Value kind.Text) to e m = (m.0, m.2)

  -- a written kind means what it is called
  own_means : (x : ProductionDeclaration) → Contains (productions file.items) x → (c : named.Child) → Contains x.production.children c
      → (from : NamedKind) (to : ChildKind) → c.kind ≡ from → IsWrittenChildKind n file.owner from to → Means file n (labelled from) to
  own_means x has c more k.Int (child.Terminal number) e w = absurd w
  own_means x has c more k.Bool (child.Terminal number) e w = absurd w
  own_means x has c more k.Text (child.Terminal number) e w = absurd w
  own_means x has c more (k.Name name) (child.Terminal number) e w = inl (number, refl, w, scanned x c name number has more e r ground w)
  own_means x has c more k.Int (child.Value is) e w = (is, refl)
  own_means x has c more k.Bool (child.Value is) e w = (is, refl)
  own_means x has c more k.Text (child.Value is) e w = (is, refl)
  own_means x has c more (k.Name name) (child.Value is) e w = inr (w.0, ap child.Value w.2, w.1)

  module _ (at_row : ℕ) (row : Production) (is_there : slice_get r.attributes.productions at_row ≡ Some row) where
    -- a child at its place
    child_place : (j : ℕ) (c : Child) → slice_get row.children j ≡ Some c → (l : List ℕ) (is : Labelled) → c.label ≡ l
        → Means file n is c.kind → LabelFound file n row l is
    child_place j c at l is same means = record {
      at = place.Child j;
      is_place = slice_get-map (λ (c : Child). c.label) row.children j ∙ ap (option_map (λ (c : Child). c.label)) at ∙ ap Some same;
      to_kind = c.kind;
      there = record { is = ap (option_map (λ (c : Child). c.kind)) at; seen = production_seen file r ground at_row row is_there };
      means = means;
    }

    -- a local at its place
    local_place : (j : ℕ) (x : Local) → slice_get row.locals j ≡ Some x → Sees file.owner x.owner → (l : List ℕ) (is : Labelled)
        → x.label ≡ l → Means file n is (child.Value (kind.Tree x.nonterminal)) → LabelFound file n row l is
    local_place j x at seen l is same means = record {
      at = place.Local j;
      is_place = record {
        other = x.owner;
        is = name_at (λ (x : Local). (x.owner, x.label)) row.locals j x at ∙ ap (λ (z : List ℕ). Some (x.owner, z)) same;
        seen = seen;
      };
      to_kind = child.Value (kind.Tree x.nonterminal);
      there = record {
        is = ap (option_map (λ (x : Local). child.Value (kind.Tree x.nonterminal))) at;
        seen = subst (λ o. Sees file.owner (owner_of_local row o)) (sym at) seen;
      };
      means = means;
    }

    -- the local that an equation makes
    pub written_local : (q : written.Equation) → Contains (local_equations (equations_on row.name file.items)) q
        → RowOf (IsWrittenLocal n file.owner (labels_in row)) row.locals q
    written_local q has =
        let s = source_of IsConcrete (IsProduction file n) (sources b.productions (productions file.items)) r.attributes.productions
        ground.resolves.productions at_row row is_there in
        from s.source s.listed s.is_row where
          from : (x : Production ⊎ ProductionDeclaration) → Contains (sources b.productions (productions file.items)) x
              → IsProduction file n x row → RowOf (IsWrittenLocal n file.owner (labels_in row)) row.locals q
          from (inl p) more e =
              let equations = local_equations (equations_on p.name file.items) in
              let f = row_of_zip (IsFrom (IsMovedLocal (move_of file n) (labels_in p) (labels_in row)) (IsWrittenLocal n file.owner
              (labels_in row)))
              (sources p.locals equations) row.locals e.locals (inr q) (there_declared p.locals equations q
              (subst (λ z. Contains (local_equations (equations_on z file.items)) q) e.name has)) in
              record { place = f.place; row = f.row; at = f.at; is_row = f.is_row }
          from (inr x) more e =
              row_of_zip (IsWrittenLocal n file.owner (labels_in row)) (local_equations (equations_on x.production.name file.items))
              row.locals
              e.locals q (subst (λ z. Contains (local_equations (equations_on z file.items)) q) e.name has)

    -- an equation that makes a local declares its label
    from_target : (q : written.Equation) → Contains (equations_on row.name file.items) q → (to : Target) → q.target ≡ to → (l : List ℕ)
        (is : Labelled) (p : List ℕ) → target_declaration p to ≡ d.Label row.name l is → LabelFound file n row l is
    from_target q has (g.Local own nonterminal) e l is p same =
        let called : own ≡ l = cc in
        let what : label.Local nonterminal ≡ is = cc in
        let f = written_local q (filter_contains (λ (e : written.Equation). makes_local e.target) (equations_on row.name file.items) q has
        (ap makes_local e)) in
        let t : IsWrittenLocalTarget n file.owner (g.Local own nonterminal) f.row.label f.row.nonterminal =
        subst (λ z. IsWrittenLocalTarget n file.owner z f.row.label f.row.nonterminal) e f.is_row.target in
        local_place f.place f.row f.at (inr f.is_row.owner_is) l is (t.0 ∙ called)
        (subst (λ z. Means file n z (child.Value (kind.Tree f.row.nonterminal))) what (f.row.nonterminal, refl, t.1))
    from_target q has (g.Top a) e l is p same = absurd (false≢true (ap is_label same))
    from_target q has (g.Label m a) e l is p same = absurd (false≢true (ap is_label same))
    from_target q has (g.Forward a) e l is p same = absurd (false≢true (ap is_label same))
    from_target q has g.ForwardsTo e l is p same = absurd (false≢true (ap is_label same))

    label_by : (l : List ℕ) (is : Labelled) → IsDeclaredBy file.base file.items (d.Label row.name l is) → LabelFound file n row l is
    label_by l is (by.base_child p has c more e) =
        let same : p.name ≡ row.name = cc in
        let called : c.label ≡ l = cc in
        let what : base_labelled file.base c.kind ≡ is = cc in
        let (j, at) = place_of p.children c more in
        let x = zip_at (IsMovedChild (move_of file n)) p.children row.children j c (base_row file r ground p has at_row row is_there
        same).children at in
        child_place j x.other x.there l is (x.related.label ∙ called)
        (subst (λ z. Means file n z x.other.kind) what (base_means p has c more c.kind x.other.kind refl x.related.is_kind))
    label_by l is (by.base_local p has y more e) =
        let same : p.name ≡ row.name = cc in
        let called : y.label ≡ l = cc in
        let what : label.Local (nonterminal_name file.base y.nonterminal) ≡ is = cc in
        let equations = local_equations (equations_on p.name file.items) in
        let f = row_of_zip (IsFrom (IsMovedLocal (move_of file n) (labels_in p) (labels_in row)) (IsWrittenLocal n file.owner (labels_in
        row)))
        (sources p.locals equations) row.locals (base_row file r ground p has at_row row is_there same).locals (inl y)
        (there_before p.locals equations y more) in
        local_place f.place f.row f.at (inl (f.is_row.owner ∙ ground.host.locals p has y more)) l is (f.is_row.label ∙ called)
        (subst (λ z. Means file n z (child.Value (kind.Tree f.row.nonterminal))) what
        (f.row.nonterminal, refl, moved_nonterminal file r ground y.nonterminal f.row.nonterminal f.is_row.nonterminal))
    label_by l is (by.child x has c more e) =
        let same : x.production.name ≡ row.name = cc in
        let called : c.label ≡ l = cc in
        let what : labelled c.kind ≡ is = cc in
        let (j, at) = place_of x.production.children c more in
        let y = zip_at (IsWrittenChild n file.owner) x.production.children row.children j c (own_row file r ground x has at_row row is_there
        same).children at in
        child_place j y.other y.there l is (y.related.label ∙ called)
        (subst (λ z. Means file n z y.other.kind) what (own_means x has c more c.kind y.other.kind refl y.related.is_kind))
    label_by l is (by.equation b has q more e) =
        from_target q (equations_of_block row.name file.items b has (named_block b.name row.name q.target l is e) q more) q.target refl l is
        b.name e
    label_by l is (by.base_terminal x has e) = absurd (false≢true (ap is_label e))
    label_by l is (by.base_nonterminal x has e) = absurd (false≢true (ap is_label e))
    label_by l is (by.base_attribute x has e) = absurd (false≢true (ap is_label e))
    label_by l is (by.base_occurrence x has e) = absurd (false≢true (ap is_label e))
    label_by l is (by.base_symbol p has e) = absurd (false≢true (ap is_label e))
    label_by l is (by.base_left p has e) = absurd (false≢true (ap is_label e))
    label_by l is (by.base_forward p has f some e) = absurd (false≢true (ap is_label e))
    label_by l is (by.base_equation p has q more e) = absurd (false≢true (ap is_label e))
    label_by l is (by.lexical x has e) = absurd (false≢true (ap is_label e))
    label_by l is (by.plain x has e) = absurd (false≢true (sym (plain_no_label x) ∙ ap is_label e))
    label_by l is (by.production x has e) = absurd (false≢true (ap is_label e))
    label_by l is (by.left x has e) = absurd (false≢true (ap is_label e))

    pub label_found : (l : List ℕ) (is : Labelled) → HasLabel (declarations file.base file.items) row.name l is → LabelFound file n row l is
    label_found l is has = label_by l is (declared_by file.base file.items (d.Label row.name l is) has)
