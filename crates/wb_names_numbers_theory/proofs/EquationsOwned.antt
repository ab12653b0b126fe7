-- Equations of a value are their owners', where the names of its file are right.
use Rattle.std.proofs.Common.{◌≡◌, ◌⊎◌, inl, inr, ℕ, zero, suc, Bool, true, false, List, Some, Contains, All}
use Rattle.std.proofs.Common.{slice_get, ap, sym, refl, subst, ◌∙◌, arith}
use Rattle.std.specs.Prelude.{option_map}
use Rattle.std.proofs.lemmas.Bool.{false≢true}
use Rattle.wb_lemmas.proofs.Members.{contains_at, place_of}
use Rattle.wb_base.specs.declared.symbol.Kind.TheVariants as kind
use Rattle.wb_syntax_resolved.specs.declared.attributes.Occurrence.{Occurrence}
use Rattle.wb_syntax_resolved.specs.declared.attribution.AttributionParts.{AttributionParts}
use Rattle.wb_syntax_resolved.specs.declared.equation.Equation.{Equation}
use Rattle.wb_syntax_resolved.specs.declared.equation.Place.{Place}
use Rattle.wb_syntax_resolved.specs.declared.equation.Place.TheVariants as place
use Rattle.wb_syntax_resolved.specs.declared.equation.Target.{Target}
use Rattle.wb_syntax_resolved.specs.declared.equation.Target.TheVariants as target
use Rattle.wb_syntax_resolved.specs.declared.production.ChildKind.TheVariants as child
use Rattle.wb_syntax_resolved.specs.declared.production.Local.{Local}
use Rattle.wb_syntax_resolved.specs.declared.production.Production.{Production}
use Rattle.wb_syntax_resolved.specs.declared.resolved.ResolvedParts.{ResolvedParts}
use Rattle.wb_syntax_resolved.specs.Once.{NamesDiffer, labels_of}
use Rattle.wb_syntax_resolved.specs.Owned.{IsOwnEquation, IsForOwnLocal, IsForOwnOccurrence, IsTargetOf}
use Rattle.wb_syntax.specs.declared.expression.Equation as written
use Rattle.wb_syntax.specs.declared.expression.Target as is_for
use Rattle.wb_syntax.specs.declared.expression.Target.TheVariants as g
use Rattle.wb_syntax.specs.declared.item.PlainForm.{PlainForm}
use Rattle.wb_syntax.specs.declared.item.PlainForm.TheVariants as i
use Rattle.wb_names_theory.specs.declared.declaration.Declaration.{Declaration}
use Rattle.wb_names_theory.specs.declared.declaration.Declaration.TheVariants as d
use Rattle.wb_names_theory.specs.declared.declaration.Labelled.TheVariants as label
use Rattle.wb_names_theory.specs.declared.declaration.Site.TheVariants as site
use Rattle.wb_names_theory.specs.declared.declaration.Sort.TheVariants as sort
use Rattle.wb_names_theory.specs.declared.usage.Usage.{Usage}
use Rattle.wb_names_theory.specs.declared.usage.Usage.TheVariants as u
use Rattle.wb_names_theory.specs.declared.usage.LabelWanted.TheVariants as read
use Rattle.wb_names_theory.specs.declared.usage.Wanted.TheVariants as wanted
use Rattle.wb_names_theory.specs.Declarations.{OccurrenceDeclaration, ProductionDeclaration, occurrences}
use Rattle.wb_names_theory.specs.Declarations.{productions, plain_items, occurrence_of}
use Rattle.wb_names_theory.specs.Declares.{base_declarations, item_declarations, plain_declaration, target_declaration}
use Rattle.wb_names_theory.specs.Declares.{labelled}
use Rattle.wb_names_theory.specs.Hold.{AreOwned}
use Rattle.wb_names_theory.specs.NamesOk.{bounds_of}
use Rattle.wb_names_theory.specs.Uses.{uses, target_uses}
use Rattle.wb_names_numbers_theory.specs.Files.{File, equations_on}
use Rattle.wb_names_numbers_theory.specs.Moved.{IsMovedEquation}
use Rattle.wb_names_numbers_theory.specs.Numbering.{Numbering, numbering_of, IsNumber, IsPlace, labels_in}
use Rattle.wb_names_numbers_theory.specs.Resolves.{move_of, IsOccurrence, IsProduction, IsConcrete}
use Rattle.wb_names_numbers_theory.specs.Sources.{sources, IsFrom}
use Rattle.wb_names_numbers_theory.specs.Written.{IsWrittenEquation, IsWrittenTarget, IsWrittenLocalTarget, attribute_equations}
use Rattle.wb_names_numbers_theory.specs.Written.{makes_attribute}
use Rattle.wb_names_numbers_theory.specs.Written.{makes_local}
use Rattle.wb_names_numbers_theory.proofs.Carrying.{name_at}
use Rattle.wb_names_numbers_theory.proofs.DeclaredBy.{production_declared}
use Rattle.wb_names_numbers_theory.proofs.Ground.{Ground, production_seen}
use Rattle.wb_names_numbers_theory.proofs.LabelsFound.{label_found, written_local}
use Rattle.wb_names_numbers_theory.proofs.LabelsOnce.{base_labels}
use Rattle.wb_names_numbers_theory.proofs.NumberLemmas.{one_number}
use Rattle.wb_names_numbers_theory.proofs.OneProduction.{labels_differ}
use Rattle.wb_names_numbers_theory.proofs.OneRow.{LabelsDiffer, nonterminals_differ, one_place}
use Rattle.wb_names_numbers_theory.proofs.OwnDeclared.{IsOwnDeclared, own_declared, kept, flat_map_contains}
use Rattle.wb_names_numbers_theory.proofs.OwnDeclared as own
use Rattle.wb_names_numbers_theory.proofs.OwnNamed.{Known, tree_of, placed, two_of_two, three_of_three}
use Rattle.wb_names_numbers_theory.proofs.RowLemmas.{all_rows, all_zipped, row_of_zip, source_before, source_declared, there_declared}
use Rattle.wb_names_numbers_theory.proofs.Selected.{contains_filter, filter_contains, equations_of_block, block_of_equation}
use Rattle.wb_names_numbers_theory.proofs.SidesFound.{left_found}
use Rattle.wb_names_numbers_theory.proofs.Used.{equation_used, target_used}
use Rattle.wb_names_numbers_theory.proofs.RowsOwned.{block_declares, child_no_local}

abbrev is_label : Declaration → Bool
is_label (d.Label p l is) = true
is_label other = false

abbrev is_occurrence : Declaration → Bool
is_occurrence (d.Occurrence a m) = true
is_occurrence other = false

target_no_occurrence : (p : List ℕ) (t : is_for.Target) → is_occurrence (target_declaration p t) ≡ false
target_no_occurrence p (g.Top a) = refl
target_no_occurrence p (g.Label l a) = refl
target_no_occurrence p (g.Forward a) = refl
target_no_occurrence p (g.Local l m) = refl
target_no_occurrence p g.ForwardsTo = refl

plain_no_label : (x : PlainForm) → is_label (plain_declaration x) ≡ false
plain_no_label (i.Prefer first second) = refl
plain_no_label (i.Nonterminal one) = refl
plain_no_label (i.Start one) = refl
plain_no_label (i.Extensible one) = refl
plain_no_label (i.Closed one) = refl
plain_no_label (i.Synthesized one its) = refl
plain_no_label (i.Inherited one its) = refl
plain_no_label (i.Occurs a m needs) = refl
plain_no_label (i.ForwardOn m needs) = refl

module _ (file : File) (r : ResolvedParts) (known : Known file r) where
  abbrev n : Numbering
  n = numbering_of r

  abbrev a : AttributionParts
  a = r.attributes

  abbrev b : AttributionParts
  b = file.base.attributes

  abbrev ground : Ground file r
  ground = known.ground

  abbrev owns : List Declaration
  owns = item_declarations file.items

  -- the row of an occurrence that items declare
  record OwnRow (name m : List ℕ) : Type 0 where
    row : Occurrence
    listed : Contains a.occurrences row
    of_attribute : IsNumber n.attributes file.owner name row.attribute
    on_nonterminal : IsNumber n.nonterminals file.owner m row.nonterminal
    owner : row.owner ≡ file.owner

  own_row_of : (x : OccurrenceDeclaration) → Contains (occurrences file.items) x → OwnRow x.attribute x.nonterminal
  own_row_of x has =
      let h = row_of_zip (IsOccurrence file n) (sources b.occurrences (occurrences file.items)) a.occurrences ground.resolves.occurrences
      (inr x)
      (there_declared b.occurrences (occurrences file.items) x has) in
      record {
        row = h.row;
        listed = contains_at a.occurrences h.row h.place h.at;
        of_attribute = h.is_row.attribute;
        on_nonterminal = h.is_row.nonterminal;
        owner = h.is_row.owner_is;
      }

  own_occurrence : (name m : List ℕ) → IsOwnDeclared file.items (d.Occurrence name m) → OwnRow name m
  own_occurrence name m (own.plain x has e) = from x has e where
    from : (x : PlainForm) → Contains (plain_items file.items) x → plain_declaration x ≡ d.Occurrence name m → OwnRow name m
    from (i.Occurs c l needs) has e =
        let one : c ≡ name = cc in
        let other : l ≡ m = cc in
        subst (λ z. OwnRow z m) one (subst (λ z. OwnRow c z) other
        (own_row_of (record { attribute = c; nonterminal = l; needs = needs }) (kept occurrence_of (plain_items file.items) _ _ has refl)))
    from (i.Synthesized one its) has e = absurd (false≢true (ap is_occurrence e))
    from (i.Inherited one its) has e = absurd (false≢true (ap is_occurrence e))
    from (i.Prefer first second) has e = absurd (false≢true (ap is_occurrence e))
    from (i.Nonterminal one) has e = absurd (false≢true (ap is_occurrence e))
    from (i.Start one) has e = absurd (false≢true (ap is_occurrence e))
    from (i.Extensible one) has e = absurd (false≢true (ap is_occurrence e))
    from (i.Closed one) has e = absurd (false≢true (ap is_occurrence e))
    from (i.ForwardOn l needs) has e = absurd (false≢true (ap is_occurrence e))
  own_occurrence name m (own.lexical x has e) = absurd (false≢true (ap is_occurrence e))
  own_occurrence name m (own.production x has e) = absurd (false≢true (ap is_occurrence e))
  own_occurrence name m (own.left x has e) = absurd (false≢true (ap is_occurrence e))
  own_occurrence name m (own.child x has c more e) = absurd (false≢true (ap is_occurrence e))
  own_occurrence name m (own.equation y has q more e) = absurd (false≢true (sym (target_no_occurrence y.name q.target) ∙ ap is_occurrence
      e))

  module _ (at_row : ℕ) (row : Production) (is_there : slice_get a.productions at_row ≡ Some row) (labels : NamesDiffer (labels_of row))
    where
      differ : LabelsDiffer (labels_in row) row.owner file.owner
      differ = labels_differ row file.owner labels (production_seen file r ground at_row row is_there)

      -- a local that items declare on the production
      record LocalRow (l : List ℕ) : Type 0 where
        place_of_it : ℕ
        row_of_it : Local
        at : slice_get row.locals place_of_it ≡ Some row_of_it
        owner : row_of_it.owner ≡ file.owner
        named : row_of_it.label ≡ l

      own_local : (l m : List ℕ) → IsOwnDeclared file.items (d.Label row.name l (label.Local m)) → LocalRow l
      own_local l m (own.equation y has q more e) = from q.target refl e where
        from : (to : is_for.Target) → q.target ≡ to → target_declaration y.name to ≡ d.Label row.name l (label.Local m) → LocalRow l
        from (g.Local one other) is e =
            let same : y.name ≡ row.name = cc in
            let called : one ≡ l = cc in
            let h = written_local file r ground known.scanned at_row row is_there q
            (filter_contains (λ (z : written.Equation). makes_local z.target) (equations_on row.name file.items) q
            (equations_of_block row.name file.items y has same q more) (ap makes_local is)) in
            let t : IsWrittenLocalTarget n file.owner (g.Local one other) h.row.label h.row.nonterminal =
            subst (λ z. IsWrittenLocalTarget n file.owner z h.row.label h.row.nonterminal) is h.is_row.target in
            record { place_of_it = h.place; row_of_it = h.row; at = h.at; owner = h.is_row.owner_is; named = t.0 ∙ called }
        from (g.Top c) is e = absurd (false≢true (ap is_label e))
        from (g.Label c k) is e = absurd (false≢true (ap is_label e))
        from (g.Forward c) is e = absurd (false≢true (ap is_label e))
        from g.ForwardsTo is e = absurd (false≢true (ap is_label e))
      own_local l m (own.child x has c more e) = let what : labelled c.kind ≡ label.Local m = cc in absurd (child_no_local c.kind m what)
      own_local l m (own.plain x has e) = absurd (false≢true (sym (plain_no_label x) ∙ ap is_label e))
      own_local l m (own.lexical x has e) = absurd (false≢true (ap is_label e))
      own_local l m (own.production x has e) = absurd (false≢true (ap is_label e))
      own_local l m (own.left x has e) = absurd (false≢true (ap is_label e))

      -- the occurrence or the local that an equation is for
      for_occurrence : (to : Target) (name m : List ℕ) → (h : OwnRow name m) → IsTargetOf row to h.row
          → IsForOwnOccurrence a row file.owner to
      for_occurrence to name m h is = record { occurrence = h.row; listed = h.listed; is_target = is; declared = h.owner }

      for_local : (l : List ℕ) (at : Place) (k : ℕ) → IsPlace (labels_in row) file.owner l at → LocalRow l
          → IsForOwnLocal row file.owner (target.Place at k)
      for_local l at k here h =
          let there : IsPlace (labels_in row) file.owner l (place.Local h.place_of_it) = record {
            other = h.row_of_it.owner;
            is = name_at (λ (y : Local). (y.owner, y.label)) row.locals h.place_of_it h.row_of_it h.at
                ∙ ap (λ (z : List ℕ). Some (h.row_of_it.owner, z)) h.named;
            seen = inr h.owner;
          } in
          let same = one_place n ground.distinct file.owner (labels_in row) row.owner differ l (place.Local h.place_of_it) at there here in
          subst (λ z. IsForOwnLocal row file.owner (target.Place z k)) same
          (ap (option_map (λ (y : Local). y.owner)) h.at ∙ ap Some h.owner)

      -- whose an equation is on a production of the host
      module _ (owned : AreOwned (base_declarations file.base) owns (bounds_of file.base known.format))
          (of_host : Contains (base_declarations file.base) (d.Symbol row.name sort.Production)) where
        own_target : (from : is_for.Target) (to : Target) → Contains owns (target_declaration row.name from)
            → ((it : Usage) → Contains (target_uses row.name from) it → Contains (uses file.items) it)
            → IsWrittenTarget n file.owner (labels_in row) from to
            → IsForOwnLocal row file.owner to ⊎ IsForOwnOccurrence a row file.owner to
        own_target (g.Top c) to declares used t =
            let x = known.hold.meant.attributes row.name c site.Top (used (u.Attribute row.name c site.Top) (two_of_two (u.Name c
            wanted.Synthesized) (u.Attribute row.name c site.Top))) in
            let left = left_found file r ground known.hold.placed at_row row is_there x.nonterminal x.there.0 in
            elim (owned.equations row.name c x.nonterminal site.Top declares of_host x.there) [
              | inl is ↦ let h = own_occurrence c x.nonterminal (own_declared file.items (d.Occurrence c x.nonterminal) is) in
                  inr (for_occurrence to c x.nonterminal h (subst (λ z. IsTargetOf row z h.row) (sym t.2) (
                    one_number n.attributes ground.distinct.attributes file.owner c h.row.attribute t.0 h.of_attribute t.1,
                    one_number n.nonterminals (nonterminals_differ n ground.distinct) file.owner x.nonterminal h.row.nonterminal row.left
                        h.on_nonterminal
                        left,
                  )))
              | inr never ↦ absurd never
            ]
        own_target (g.Forward c) to declares used t =
            let x = known.hold.meant.attributes row.name c site.Forward
            (used (u.Attribute row.name c site.Forward) (two_of_two (u.Name c wanted.Inherited) (u.Attribute row.name c site.Forward))) in
            let left = left_found file r ground known.hold.placed at_row row is_there x.nonterminal x.there.0 in
            elim (owned.equations row.name c x.nonterminal site.Forward declares of_host x.there) [
              | inl is ↦ let h = own_occurrence c x.nonterminal (own_declared file.items (d.Occurrence c x.nonterminal) is) in
                  inr (for_occurrence to c x.nonterminal h (subst (λ z. IsTargetOf row z h.row) (sym t.2) (
                    one_number n.attributes ground.distinct.attributes file.owner c h.row.attribute t.0 h.of_attribute t.1,
                    one_number n.nonterminals (nonterminals_differ n ground.distinct) file.owner x.nonterminal h.row.nonterminal row.left
                        h.on_nonterminal
                        left,
                  )))
              | inr never ↦ absurd never
            ]
        own_target (g.Label l c) to declares used t =
            let x = known.hold.meant.attributes row.name c (site.Label l)
            (used (u.Attribute row.name c (site.Label l)) (three_of_three (u.Name c wanted.Inherited) (u.Label row.name l read.Tree)
            (u.Attribute row.name c (site.Label l)))) in
            elim (owned.equations row.name c x.nonterminal (site.Label l) declares of_host x.there) [
              | inl is ↦ let h = own_occurrence c x.nonterminal (own_declared file.items (d.Occurrence c x.nonterminal) is) in
                  let found = label_found file r ground known.scanned at_row row is_there l x.there.0 x.there.1 in
                  let tree = tree_of file r known x.there.0 x.nonterminal found.to_kind x.there.2 found.means in
                  let here = placed file r known at_row row is_there differ l x.there.0 t.0 found t.2 in
                  let same = one_number n.nonterminals (nonterminals_differ n ground.distinct) file.owner x.nonterminal tree.0
                  h.row.nonterminal tree.2
                  h.on_nonterminal in
                  inr (for_occurrence to c x.nonterminal h (subst (λ z. IsTargetOf row z h.row) (sym t.4) (
                    one_number n.attributes ground.distinct.attributes file.owner c h.row.attribute t.1 h.of_attribute t.3,
                    here.is ∙ (ap Some tree.1 ∙ ap (λ (z : ℕ). Some (child.Value (kind.Tree z))) same),
                  )))
              | inr is ↦
                  inl (subst (IsForOwnLocal row file.owner) (sym t.4) (for_local l t.0 t.1 t.2
                  (own_local l is.0 (own_declared file.items (d.Label row.name l (label.Local is.0)) is.1))))
            ]
        own_target (g.Local l m) to declares used t = absurd t
        own_target g.ForwardsTo to declares used t = absurd t

      -- an equation that the file writes on a production of the host
      written_owned : (p : Production) → Contains b.productions p → row.name ≡ p.name → row.owner ≡ 0 → (o : ℕ) → file.owner ≡ o
          → (q : written.Equation) → Contains (equations_on p.name file.items) q → (v : Equation)
          → IsWrittenEquation n file.owner (labels_in row) q v → IsOwnEquation a row v
      written_owned p inside same zero_is zero is q has v e = inl (zero_is ∙ sym (e.owner_is ∙ is))
      written_owned p inside same zero_is (suc o) is q has v e =
          let owned = known.hold.owned (λ z. not_zero (sym z ∙ is)) in
          let on = block_of_equation p.name file.items q has in
          let called : on.0.name ≡ row.name = on.2 ∙ sym same in
          let declares : Contains owns (target_declaration row.name q.target) =
          subst (λ z. Contains owns (target_declaration z q.target)) called (block_declares file.items on.0 on.1 q on.3) in
          let of_host = subst (λ z. Contains (base_declarations file.base) (d.Symbol z sort.Production)) (sym same) (production_declared
          file.base p inside) in
          inr (subst (λ z. IsForOwnLocal row z v.target ⊎ IsForOwnOccurrence a row z v.target) (sym e.owner_is)
          (own_target owned of_host q.target v.target declares (λ it used. equation_used file.items on.0 on.1 q on.3 it
          (target_used on.0.name q it (subst (λ z. Contains (target_uses z q.target) it) (sym called) used))) e.target)) where
            not_zero : 0 ≡ suc o → ⊥
            not_zero z = absurd (omega (arith, z))

  -- the equations of each production
  owned_equations_of : (x : Production ⊎ ProductionDeclaration) (row : Production)
      → Contains (sources b.productions (productions file.items)) x
      → Contains a.productions row → IsProduction file n x row → All (IsOwnEquation a row) row.equations
  owned_equations_of (inl p) row has listed e =
      let inside = source_before b.productions (productions file.items) p has in
      let (j, at) = place_of a.productions row listed in
      let labels = base_labels file r known.hold.once p row inside e in
      let own_equations = attribute_equations (equations_on p.name file.items) in
      let zero_is : row.owner ≡ 0 = e.owner_is ∙ ground.host.productions p inside in
      all_zipped (IsFrom (IsMovedEquation (move_of file n) (labels_in p) (labels_in row)) (IsWrittenEquation n file.owner (labels_in row)))
      (IsOwnEquation a row) (sources p.equations own_equations) row.equations e.equations
      (λ x v more there t. by_source j row at labels p inside e.name zero_is x v more t) where
        by_source : (j : ℕ) (row : Production) → slice_get a.productions j ≡ Some row → NamesDiffer (labels_of row) → (p : Production)
            → Contains b.productions p → row.name ≡ p.name → row.owner ≡ 0 → (x : Equation ⊎ written.Equation) (v : Equation)
            → Contains (sources p.equations (attribute_equations (equations_on p.name file.items))) x
            → IsFrom (IsMovedEquation (move_of file n) (labels_in p) (labels_in row)) (IsWrittenEquation n file.owner (labels_in row)) x v
            → IsOwnEquation a row v
        by_source j row at labels p inside same zero_is (inl x) v more t =
            inl (zero_is ∙ sym (t.owner ∙ ground.host.equations p inside x
            (source_before p.equations (attribute_equations (equations_on p.name file.items)) x more)))
        by_source j row at labels p inside same zero_is (inr q) v more t =
            written_owned j row at labels p inside same zero_is file.owner refl q
            (contains_filter (λ (z : written.Equation). makes_attribute z.target) (equations_on p.name file.items) q
            (source_declared p.equations (attribute_equations (equations_on p.name file.items)) q more)).0 v t
  owned_equations_of (inr x) row has listed e =
      all_zipped (IsWrittenEquation n file.owner (labels_in row)) (IsOwnEquation a row)
      (attribute_equations (equations_on x.production.name file.items)) row.equations e.equations
      (λ q v more there t. inl (e.owner_is ∙ sym t.owner_is))

  pub owned_equations : All (λ (row : Production). All (IsOwnEquation a row) row.equations) a.productions
  owned_equations = all_rows IsConcrete (IsProduction file n) (λ (row : Production). All (IsOwnEquation a row) row.equations)
      (sources b.productions (productions file.items)) a.productions ground.resolves.productions owned_equations_of
