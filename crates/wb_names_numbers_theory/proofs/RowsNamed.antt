-- What a value has is named, where the names of its file are right.
use Rattle.std.proofs.Common.{◌≡◌, ◌≤◌, ◌∷◌, ◌⊎◌, inl, inr, [], ℕ, List, Option, Some, None, Contains, All, slice_get, ap, length}
use Rattle.std.proofs.Common.{sym, refl, subst, ◌∙◌, arith}
use Rattle.std.specs.Prelude.{flat_map, filter}
use Rattle.std.specs.List.{AllZip}
use Rattle.std.specs.Str.{bytes_eq}
use Rattle.std.proofs.lemmas.List.Elements.{All-nil, All-head}
use Rattle.wb_lemmas.proofs.Elements.{all_contained}
use Rattle.wb_lemmas.proofs.Members.{contains_first, contains_later, place_of}
use Rattle.wb_base.specs.declared.symbol.Kind.{Kind}
use Rattle.wb_base.specs.Identifiers.{IsName}
use Rattle.wb_syntax_resolved.specs.declared.attributes.Attribute.{Attribute}
use Rattle.wb_syntax_resolved.specs.declared.attributes.Direction.TheVariants.{Synthesized, Inherited}
use Rattle.wb_syntax_resolved.specs.declared.attributes.Nonterminal.{Nonterminal}
use Rattle.wb_syntax_resolved.specs.declared.attributes.Occurrence.{Occurrence}
use Rattle.wb_syntax_resolved.specs.declared.attribution.AttributionParts.{AttributionParts}
use Rattle.wb_syntax_resolved.specs.declared.resolved.ResolvedParts.{ResolvedParts}
use Rattle.wb_syntax_resolved.specs.Named.{IsNamedNonterminal, IsNamedAttribute, IsNamedOccurrence}
use Rattle.wb_syntax_resolved.specs.Owners.{Sees, IsOwner}
use Rattle.wb_syntax_resolved.specs.Visible.{SeesNonterminal, SeesAttribute, SeesOccurrence, SeesKind}
use Rattle.wb_syntax.specs.declared.item.PlainForm.{PlainForm}
use Rattle.wb_syntax.specs.declared.item.PlainForm.TheVariants as i
use Rattle.wb_syntax.specs.declared.production.NamedKind.{NamedKind}
use Rattle.wb_syntax.specs.declared.production.NamedKind.TheVariants as k
use Rattle.wb_syntax.specs.Names.{needs_names, plain_names}
use Rattle.wb_names_theory.specs.declared.usage.Usage.{Usage}
use Rattle.wb_names_theory.specs.declared.usage.Usage.TheVariants as u
use Rattle.wb_names_theory.specs.declared.usage.Wanted.TheVariants as w
use Rattle.wb_names_theory.specs.Declarations.{AttributeDeclaration, OccurrenceDeclaration, ForwardDeclaration}
use Rattle.wb_names_theory.specs.Declarations.{nonterminals, attributes, occurrences, forwards, plain_items, occurrence_of, forward_of}
use Rattle.wb_names_theory.specs.Declarations.{attribute_of, nonterminal_of}
use Rattle.wb_names_theory.specs.Uses.{uses, occurs_uses, needs_uses}
use Rattle.wb_names_numbers_theory.specs.Files.{File, forward_needs_of}
use Rattle.wb_names_numbers_theory.specs.Moved.{IsMovedAttributeNumber, IsMovedNumber}
use Rattle.wb_names_numbers_theory.specs.Numbering.{Numbering, numbering_of, IsNumber}
use Rattle.wb_names_numbers_theory.specs.Resolves.{move_of, IsNonterminal, IsAttribute, IsOccurrence}
use Rattle.wb_names_numbers_theory.specs.Rows.{IsOccurrenceRow}
use Rattle.wb_names_numbers_theory.specs.Sources.{sources}
use Rattle.wb_names_numbers_theory.specs.Written.{IsWrittenKind}
use Rattle.wb_names_numbers_theory.proofs.BaseCarried.{base_carried}
use Rattle.wb_names_numbers_theory.proofs.Carrying.{carried_nonterminal, carried_attribute, carried_occurrence, carried_kind, name_at}
use Rattle.wb_names_numbers_theory.proofs.CarryingNamed.{carried_all}
use Rattle.wb_names_numbers_theory.proofs.OwnDeclared.{contains_flat_map, flat_map_contains}
use Rattle.wb_names_numbers_theory.proofs.Found.{sees_nonterminal, sees_attribute, sees_occurrence}
use Rattle.wb_names_numbers_theory.proofs.Ground.{Ground}
use Rattle.wb_names_numbers_theory.proofs.OwnNamed.{Known, goes, comes}
use Rattle.wb_names_numbers_theory.proofs.RowLemmas.{all_zipped, source_before, source_declared}
use Rattle.wb_names_numbers_theory.proofs.Selected.{kept_from, contains_filter, same_bytes}
use Rattle.wb_names_numbers_theory.proofs.Used.{plain_used, plain_item_names}

-- what is known of the file beside its names: whose it is
pub record IsOwners (file : File) : Type 0 where
  pub owner : IsOwner file.extensions file.owner

module _ (file : File) (r : ResolvedParts) (known : Known file r) (owners : IsOwners file) where
  abbrev n : Numbering
  n = numbering_of r

  abbrev a : AttributionParts
  a = r.attributes

  abbrev b : AttributionParts
  b = file.base.attributes

  abbrev ground : Ground file r
  ground = known.ground

  -- owners are there
  pub is_owner : (o : ℕ) → o ≡ file.owner → IsOwner a.extensions o
  is_owner o e = subst (λ z. o ≤ length z) (sym ground.resolves.extensions) (subst (λ z. z ≤ length file.extensions) (sym e) owners.owner)

  pub is_host : (o : ℕ) → o ≡ 0 → IsOwner a.extensions o
  is_host o e = omega (arith, e)

  -- names in flow types: each is used as inherited and as one that occurs
  needs_named : (m : List ℕ) (number : ℕ) → IsNumber n.nonterminals file.owner m number → (needs : List (List ℕ)) (numbers : List ℕ)
      → ((one : List ℕ) → Contains needs one → (it : Usage) → Contains (needs_uses m one) it → Contains (uses file.items) it)
      → AllZip (IsNumber n.attributes file.owner) needs numbers → All (λ i. SeesOccurrence a file.owner Inherited i number) numbers
  needs_named m number is needs numbers used all =
      all_zipped (IsNumber n.attributes file.owner) (λ i. SeesOccurrence a file.owner Inherited i number) needs numbers all
      (λ one j has listed e.
      let name : Contains (uses file.items) (u.Name one w.Inherited) =
      used one has (u.Name one w.Inherited) (contains_first (u.Name one w.Inherited) (u.Needs one m ∷ [])) in
      let occurs : Contains (uses file.items) (u.Needs one m) =
      used one has (u.Needs one m) (contains_later (u.Name one w.Inherited) (u.Needs one m) (u.Needs one m ∷ [])
      (contains_first (u.Needs one m) [])) in
      sees_occurrence file r ground one m Inherited j number e is (comes file r known one (known.hold.meant.names one w.Inherited name))
      (known.hold.meant.needs one m occurs))

  -- the number of a row of nonterminals
  row_number : (k : ℕ) (row : Nonterminal) → slice_get a.nonterminals k ≡ Some row → Sees file.owner row.owner
      → IsNumber n.nonterminals file.owner row.name k
  row_number k row at seen = record {
    other = row.owner;
    is = name_at (λ (x : Nonterminal). (x.owner, x.name)) a.nonterminals k row at;
    seen = seen;
  }

  -- nonterminals
  forward_used : (name one : List ℕ) → Contains (forward_needs_of name file.items) one → (it : Usage) → Contains (needs_uses name one) it
      → Contains (uses file.items) it
  forward_used name one has it more =
      let x = contains_flat_map (λ (x : ForwardDeclaration). x.needs)
      (filter (λ (x : ForwardDeclaration). bytes_eq x.nonterminal name) (forwards file.items)) one has in
      let y = contains_filter (λ (x : ForwardDeclaration). bytes_eq x.nonterminal name) (forwards file.items) x.0 x.1 in
      let z = kept_from forward_of (plain_items file.items) x.0 y.0 in
      from x.0 z.0 z.1 z.2 x.2 (same_bytes x.0.nonterminal name y.1) where
        from : (x : ForwardDeclaration) (form : PlainForm) → Contains (plain_items file.items) form → forward_of form ≡ Some x
            → Contains x.needs one → x.nonterminal ≡ name → Contains (uses file.items) it
        from x (i.ForwardOn m needs) there e inside same =
            let is : record { nonterminal = m; needs = needs } ≡ x = cc in
            let here : Contains needs one = subst (λ (z : ForwardDeclaration). Contains z.needs one) (sym is) inside in
            let called : m ≡ name = ap (λ (z : ForwardDeclaration). z.nonterminal) is ∙ same in
            plain_used file.items (i.ForwardOn m needs) there it (contains_later (u.Name m w.Nonterminal) it (flat_map (needs_uses m) needs)
            (flat_map_contains (needs_uses m) needs one it here (subst (λ z. Contains (needs_uses z one) it) (sym called) more)))
        from x (i.Prefer first second) there e inside same = absurd (cc e)
        from x (i.Nonterminal m) there e inside same = absurd (cc e)
        from x (i.Start m) there e inside same = absurd (cc e)
        from x (i.Extensible m) there e inside same = absurd (cc e)
        from x (i.Closed m) there e inside same = absurd (cc e)
        from x (i.Synthesized m its) there e inside same = absurd (cc e)
        from x (i.Inherited m its) there e inside same = absurd (cc e)
        from x (i.Occurs m l needs) there e inside same = absurd (cc e)

  nonterminal_name : (name : List ℕ) → Contains (nonterminals file.items) name → IsName name
  nonterminal_name name has =
      let z = kept_from nonterminal_of (plain_items file.items) name has in
      from z.0 z.2 (plain_item_names file.items known.names z.0 z.1) where
        from : (form : PlainForm) → nonterminal_of form ≡ Some name → All IsName (plain_names form) → IsName name
        from (i.Nonterminal m) e names = let same : m ≡ name = cc in subst IsName same (All-head IsName m [] names)
        from (i.Prefer first second) e names = absurd (cc e)
        from (i.Start m) e names = absurd (cc e)
        from (i.Extensible m) e names = absurd (cc e)
        from (i.Closed m) e names = absurd (cc e)
        from (i.Synthesized m its) e names = absurd (cc e)
        from (i.Inherited m its) e names = absurd (cc e)
        from (i.Occurs m l needs) e names = absurd (cc e)
        from (i.ForwardOn m needs) e names = absurd (cc e)

  pub named_nonterminal : (number : ℕ) (row : Nonterminal) → slice_get a.nonterminals number ≡ Some row → (x : Nonterminal ⊎ List ℕ)
      → Contains (sources b.nonterminals (nonterminals file.items)) x → IsNonterminal file n x row → IsNamedNonterminal a number row
  named_nonterminal number row at (inl x) has e =
      let inside = source_before b.nonterminals (nonterminals file.items) x has in
      let (j, there) = place_of b.nonterminals x inside in
      let named = ground.base.attributes.named.nonterminals j x there in
      let moved : IsMovedNumber (λ (o : ℕ). o) (numbering_of file.base).nonterminals n.nonterminals j number = record {
        owner = x.owner;
        name = x.name;
        before = name_at (λ (x : Nonterminal). (x.owner, x.name)) b.nonterminals j x there;
        after = name_at (λ (x : Nonterminal). (x.owner, x.name)) a.nonterminals number row at ∙ ap Some (λ h. (e.owner h, e.name h));
      } in
      record {
        owner = is_host row.owner (e.owner ∙ ground.host.nonterminals x inside);
        name = subst IsName (sym e.name) named.name;
        needs = subst (λ o. All (λ i. SeesOccurrence a o Inherited i number) row.forward_needs) (sym e.owner)
            (carried_all (IsMovedAttributeNumber (move_of file n)) (λ i. SeesOccurrence b x.owner Inherited i j)
            (λ i. SeesOccurrence a x.owner Inherited i number)
            (λ y z q s. carried_occurrence (λ (o : ℕ). o) file.base r ground.distinct (base_carried file r ground.resolves) x.owner
            Inherited y j z
            number s q moved) x.forward_needs row.forward_needs e.needs named.needs);
      }
  named_nonterminal number row at (inr name) has e =
      let inside = source_declared b.nonterminals (nonterminals file.items) name has in
      let is = subst (λ z. IsNumber n.nonterminals file.owner z number) e.name_is (row_number number row at (inr e.owner_is)) in
      record {
        owner = is_owner row.owner e.owner_is;
        name = subst IsName (sym e.name_is) (nonterminal_name name inside);
        needs = subst (λ o. All (λ i. SeesOccurrence a o Inherited i number) row.forward_needs) (sym e.owner_is)
            (needs_named name number is (forward_needs_of name file.items) row.forward_needs (forward_used name) e.needs);
      }

  -- attributes
  pub own_kind : (named : NamedKind) (is : Kind) → IsWrittenKind n file.owner named is → SeesKind a file.owner is
  own_kind k.Int is e = subst (SeesKind a file.owner) (sym e) tt
  own_kind k.Bool is e = subst (SeesKind a file.owner) (sym e) tt
  own_kind k.Text is e = subst (SeesKind a file.owner) (sym e) tt
  own_kind (k.Name name) is e = subst (SeesKind a file.owner) (sym e.2) (sees_nonterminal file r ground name e.0 e.1)

  attribute_name : (x : AttributeDeclaration) → Contains (attributes file.items) x → IsName x.name
  attribute_name x has =
      let z = kept_from attribute_of (plain_items file.items) x has in
      from z.0 z.2 (plain_item_names file.items known.names z.0 z.1) where
        from : (form : PlainForm) → attribute_of form ≡ Some x → All IsName (plain_names form) → IsName x.name
        from (i.Synthesized m its) e names =
            let same : record { name = m; direction = Synthesized; kind = its } ≡ x = cc in
            subst (λ (z : AttributeDeclaration). IsName z.name) same (all_contained IsName (plain_names (i.Synthesized m its)) m names
            (contains_first m _))
        from (i.Inherited m its) e names =
            let same : record { name = m; direction = Inherited; kind = its } ≡ x = cc in
            subst (λ (z : AttributeDeclaration). IsName z.name) same (all_contained IsName (plain_names (i.Inherited m its)) m names
            (contains_first m _))
        from (i.Prefer first second) e names = absurd (cc e)
        from (i.Start m) e names = absurd (cc e)
        from (i.Extensible m) e names = absurd (cc e)
        from (i.Closed m) e names = absurd (cc e)
        from (i.Nonterminal m) e names = absurd (cc e)
        from (i.Occurs m l needs) e names = absurd (cc e)
        from (i.ForwardOn m needs) e names = absurd (cc e)

  pub named_attribute : (x : Attribute ⊎ AttributeDeclaration) (row : Attribute) → Contains (sources b.attributes (attributes file.items)) x
      → Contains a.attributes row → IsAttribute file n x row → IsNamedAttribute a row
  named_attribute (inl x) row has listed e =
      let inside = source_before b.attributes (attributes file.items) x has in
      let named = all_contained (IsNamedAttribute b) b.attributes x ground.base.attributes.named.attributes inside in
      record {
        owner = is_host row.owner (e.owner ∙ ground.host.attributes x inside);
        name = subst IsName (sym e.name) named.name;
        is_kind = subst (λ o. SeesKind a o row.kind) (sym e.owner)
            (carried_kind (λ (o : ℕ). o) file.base r ground.distinct (base_carried file r ground.resolves) x.owner x.kind row.kind
            named.is_kind
            e.is_kind);
      }
  named_attribute (inr x) row has listed e =
      let inside = source_declared b.attributes (attributes file.items) x has in
      record {
        owner = is_owner row.owner e.owner_is;
        name = subst IsName (sym e.name) (attribute_name x inside);
        is_kind = subst (λ o. SeesKind a o row.kind) (sym e.owner_is) (own_kind x.kind row.kind e.is_kind);
      }

  -- occurrences
  up_not_down : Synthesized ≡ Inherited → ⊥
  up_not_down e = absurd (cc e)

  nothing_beside : {X Y : Type 0} (R : X → Y → Type 0) (xs : List X) (ys : List Y) → AllZip R xs ys → xs ≡ [] → ys ≡ []
  nothing_beside R [] [] all e = refl
  nothing_beside R [] (y ∷ ys) all e = absurd all
  nothing_beside R (x ∷ xs) ys all e = absurd (cc e)

  own_occurrence : (x : OccurrenceDeclaration) (row : Occurrence) → IsOccurrenceRow n file.owner file.items x row
      → (needs : Option (List (List ℕ)))
      → x.needs ≡ needs
      → ((it : Usage) → Contains (occurs_uses x.attribute x.nonterminal needs) it → Contains (uses file.items) it) → IsNamedOccurrence a row
  own_occurrence x row e None same used =
      let name = used (u.Name x.attribute w.Attribute) (contains_first (u.Name x.attribute w.Attribute) (u.Name x.nonterminal w.Nonterminal
      ∷ [])) in
      let goes = known.hold.meant.names x.attribute w.Attribute name in
      let empty : row.needs ≡ [] = nothing_beside (IsNumber n.attributes file.owner) (needs_names x.needs) row.needs e.needs (ap needs_names
      same) in
      record {
        owner = is_owner row.owner e.owner_is;
        direction = goes.direction;
        attribute = subst (λ o. SeesAttribute a o goes.direction row.attribute) (sym e.owner_is)
            (sees_attribute file r ground x.attribute goes.direction row.attribute e.attribute goes.there);
        nonterminal = subst (λ o. SeesNonterminal a o row.nonterminal) (sym e.owner_is)
            (sees_nonterminal file r ground x.nonterminal row.nonterminal e.nonterminal);
        needs = subst (All (λ i. SeesOccurrence a row.owner Inherited i row.nonterminal)) (sym empty)
            (All-nil (λ i. SeesOccurrence a row.owner Inherited i row.nonterminal));
        inherited = λ q. empty;
      }
  own_occurrence x row e (Some needs) same used =
      let rest = u.Name x.nonterminal w.Nonterminal ∷ flat_map (needs_uses x.nonterminal) needs in
      let name = used (u.Name x.attribute w.Synthesized) (contains_first (u.Name x.attribute w.Synthesized) rest) in
      let up = known.hold.meant.names x.attribute w.Synthesized name in
      let zipped : AllZip (IsNumber n.attributes file.owner) needs row.needs =
      subst (λ z. AllZip (IsNumber n.attributes file.owner) (needs_names z) row.needs) same e.needs in
      record {
        owner = is_owner row.owner e.owner_is;
        direction = Synthesized;
        attribute = subst (λ o. SeesAttribute a o Synthesized row.attribute) (sym e.owner_is)
            (sees_attribute file r ground x.attribute Synthesized row.attribute e.attribute (goes file r known x.attribute up));
        nonterminal = subst (λ o. SeesNonterminal a o row.nonterminal) (sym e.owner_is)
            (sees_nonterminal file r ground x.nonterminal row.nonterminal e.nonterminal);
        needs = subst (λ o. All (λ i. SeesOccurrence a o Inherited i row.nonterminal) row.needs) (sym e.owner_is)
            (needs_named x.nonterminal row.nonterminal e.nonterminal needs row.needs (λ one has it more. used it
            (contains_later (u.Name x.attribute w.Synthesized) it rest (contains_later (u.Name x.nonterminal w.Nonterminal) it
            (flat_map (needs_uses x.nonterminal) needs) (flat_map_contains (needs_uses x.nonterminal) needs one it has more)))) zipped);
        inherited = λ q. absurd (up_not_down q);
      }

  occurrence_used : (x : OccurrenceDeclaration) → Contains (occurrences file.items) x → (it : Usage)
      → Contains (occurs_uses x.attribute x.nonterminal x.needs) it → Contains (uses file.items) it
  occurrence_used x has it more =
      let z = kept_from occurrence_of (plain_items file.items) x has in from z.0 z.1 z.2 where
        from : (form : PlainForm) → Contains (plain_items file.items) form → occurrence_of form ≡ Some x → Contains (uses file.items) it
        from (i.Occurs m l needs) there e =
            let same : record { attribute = m; nonterminal = l; needs = needs } ≡ x = cc in
            plain_used file.items (i.Occurs m l needs) there it
            (subst (λ (z : OccurrenceDeclaration). Contains (occurs_uses z.attribute z.nonterminal z.needs) it) (sym same) more)
        from (i.Prefer first second) there e = absurd (cc e)
        from (i.Start m) there e = absurd (cc e)
        from (i.Extensible m) there e = absurd (cc e)
        from (i.Closed m) there e = absurd (cc e)
        from (i.Nonterminal m) there e = absurd (cc e)
        from (i.Synthesized m its) there e = absurd (cc e)
        from (i.Inherited m its) there e = absurd (cc e)
        from (i.ForwardOn m needs) there e = absurd (cc e)

  pub named_occurrence : (x : Occurrence ⊎ OccurrenceDeclaration) (row : Occurrence)
      → Contains (sources b.occurrences (occurrences file.items)) x
      → Contains a.occurrences row → IsOccurrence file n x row → IsNamedOccurrence a row
  named_occurrence (inl x) row has listed e =
      let inside = source_before b.occurrences (occurrences file.items) x has in
      let named = all_contained (IsNamedOccurrence b) b.occurrences x ground.base.attributes.named.occurrences inside in
      let carried = base_carried file r ground.resolves in
      record {
        owner = is_host row.owner (e.owner ∙ ground.host.occurrences x inside);
        direction = named.direction;
        attribute = subst (λ o. SeesAttribute a o named.direction row.attribute) (sym e.owner)
            (carried_attribute (λ (o : ℕ). o) file.base r ground.distinct carried x.owner named.direction x.attribute row.attribute
            named.attribute
            e.attribute);
        nonterminal = subst (λ o. SeesNonterminal a o row.nonterminal) (sym e.owner)
            (carried_nonterminal (λ (o : ℕ). o) file.base r ground.distinct carried x.owner x.nonterminal row.nonterminal named.nonterminal
            e.nonterminal);
        needs = subst (λ o. All (λ i. SeesOccurrence a o Inherited i row.nonterminal) row.needs) (sym e.owner)
            (carried_all (IsMovedAttributeNumber (move_of file n)) (λ i. SeesOccurrence b x.owner Inherited i x.nonterminal)
            (λ i. SeesOccurrence a x.owner Inherited i row.nonterminal)
            (λ y z q s. carried_occurrence (λ (o : ℕ). o) file.base r ground.distinct carried x.owner Inherited y x.nonterminal z
            row.nonterminal s q
            e.nonterminal) x.needs row.needs e.needs named.needs);
        inherited = λ q. nothing_beside (IsMovedAttributeNumber (move_of file n)) x.needs row.needs e.needs (named.inherited q);
      }
  named_occurrence (inr x) row has listed e =
      let inside = source_declared b.occurrences (occurrences file.items) x has in
      own_occurrence x row e x.needs refl (occurrence_used x inside)
