-- Where each owner sees an attribution, nothing is there twice for owners of whom one sees the other.
use Rattle.std.proofs.Common.{◌≡◌, ◌∙◌, ◌≤◌, ℕ, List, Option, Some, None, Contains, map, option_map, slice_get, length, refl}
use Rattle.std.proofs.Common.{sym, ap, subst, inl, inr}
use Rattle.std.proofs.lemmas.Option.{slice_get-map, same_Some}
use Rattle.wb_lemmas.proofs.Elements.{all_at, all_from_places}
use Rattle.wb_lemmas.proofs.Members.{contains_at, place_of}
use Rattle.wb_lemmas.proofs.Places.{at_once, at_append}
use Rattle.wb_base.specs.Different.{Differ}
use Rattle.wb_syntax_resolved.specs.declared.attributes.Attribute.{Attribute}
use Rattle.wb_syntax_resolved.specs.declared.attributes.Direction.{Direction}
use Rattle.wb_syntax_resolved.specs.declared.attributes.Nonterminal.{Nonterminal}
use Rattle.wb_syntax_resolved.specs.declared.attributes.Occurrence.{Occurrence}
use Rattle.wb_syntax_resolved.specs.declared.attribution.AttributionParts.{AttributionParts}
use Rattle.wb_syntax_resolved.specs.declared.equation.Equation.{Equation}
use Rattle.wb_syntax_resolved.specs.declared.equation.Place.TheVariants as place
use Rattle.wb_syntax_resolved.specs.declared.equation.Target.{Target}
use Rattle.wb_syntax_resolved.specs.declared.equation.Target.TheVariants as target
use Rattle.wb_syntax_resolved.specs.declared.production.Local.{Local}
use Rattle.wb_syntax_resolved.specs.declared.production.Production.{Production}
use Rattle.wb_syntax_resolved.specs.Named.{IsNamedTarget}
use Rattle.wb_syntax_resolved.specs.Once.{Entry, NamesDiffer, symbol_names, attribute_names, labels_of, IsOnceIn, IsOnce, OccursOnce}
use Rattle.wb_syntax_resolved.specs.Owned.{IsForOwnLocal, IsForOwnOccurrence}
use Rattle.wb_syntax_resolved.specs.Owners.{Sees, IsOwner}
use Rattle.wb_syntax_resolved.specs.Visible.{SeesOccurrence, owner_of_local}
use Rattle.wb_compose_theory_attributes.specs.Rows.{new_occurrence, new_equation}
use Rattle.wb_compose_theory_attributes.specs.Unions.{IsWithin}
use Rattle.wb_compose_theory_attributes.proofs.EntryLemmas.{row_of, one_part, two_parts}
use Rattle.wb_compose_theory_attributes.proofs.SeenLemmas.{order_once, mapped}
use Rattle.wb_compose_theory_attributes.proofs.TargetLemmas.{target_once}
use Rattle.wb_compose_theory_attributes.proofs.UnionNamedLemmas.{occurrence_owner, named_occurrence, own_occurrence, production_owner}
use Rattle.wb_compose_theory_attributes.proofs.UnionNamedLemmas.{written}
use Rattle.wb_compose_theory_attributes.proofs.UnionNamedLemmas.{local_may, equation_may, named_equation, own_equation}
use Rattle.wb_compose_theory_attributes.proofs.ViewNameLemmas.{nonterminal_entry, attribute_entry, production_entry, local_entry}
use Rattle.wb_compose_theory_attributes.proofs.ViewNameLemmas.{child_entry}
use Rattle.wb_compose_theory_attributes.proofs.ViewNameLemmas.{nonterminals_back, attributes_back, productions_back, children_back}
use Rattle.wb_compose_theory_attributes.proofs.ViewNameLemmas.{locals_back}
use Rattle.wb_compose_theory_attributes.proofs.ViewLemmas.{View, production_back}

module _ (a : AttributionParts) (within : IsWithin a) (views : (k : ℕ) → k ≤ length a.extensions → View a k) where
  nonterminal_within : (i owner : ℕ) (name : List ℕ) → slice_get (map nonterminal_entry a.nonterminals) i ≡ Some (owner, name)
      → IsOwner a.extensions owner
  nonterminal_within i owner name at =
      let (r, there, is) = row_of nonterminal_entry a.nonterminals i owner name at in
      subst (IsOwner a.extensions) (ap (λ (z : Entry). z.0) is)
      (all_at (λ (z : Nonterminal). IsOwner a.extensions z.owner) a.nonterminals i r within.nonterminals there)

  production_within : (i owner : ℕ) (name : List ℕ) → slice_get (map production_entry a.productions) i ≡ Some (owner, name)
      → IsOwner a.extensions owner
  production_within i owner name at =
      let (r, there, is) = row_of production_entry a.productions i owner name at in
      subst (IsOwner a.extensions) (ap (λ (z : Entry). z.0) is)
      (all_at (λ (z : Production). IsOwner a.extensions z.owner) a.productions i r within.productions there)

  symbol_within : (i owner : ℕ) (name : List ℕ) → slice_get (symbol_names a) i ≡ Some (owner, name) → IsOwner a.extensions owner
  symbol_within i owner name at =
      elim (at_append (map nonterminal_entry a.nonterminals) (map production_entry a.productions) (owner, name) i at) [
        | inl here ↦ nonterminal_within i owner name here
        | inr (j, is, here) ↦ production_within j owner name here
      ]

  symbols_once : NamesDiffer (symbol_names a)
  symbols_once i j owner other name at at' sees =
      let v = views owner (symbol_within i owner name at) in
      two_parts a owner v (map nonterminal_entry a.nonterminals) (map production_entry a.productions)
      (map nonterminal_entry v.s.nonterminals) (map production_entry v.s.productions) v.t.nonterminal v.t.production
      (nonterminals_back a owner v) (productions_back a owner v) v.is.once.symbols i j owner other name at at' (inr refl) sees sees

  attributes_once : NamesDiffer (attribute_names a)
  attributes_once i j owner other name at at' sees =
      let (r, there, is) = row_of attribute_entry a.attributes i owner name at in
      let bound = subst (IsOwner a.extensions) (ap (λ (z : Entry). z.0) is)
      (all_at (λ (z : Attribute). IsOwner a.extensions z.owner) a.attributes i r within.attributes there) in
      let v = views owner bound in
      one_part a owner v (map attribute_entry a.attributes) (map attribute_entry v.s.attributes) v.t.attribute (attributes_back a owner v)
      v.is.once.attributes i j owner other name at at' (inr refl) sees sees

  -- the owner of an occurrence sees that of another of the same attribute on the same nonterminal
  declarer_sees : (r s : Occurrence) → Contains a.occurrences r → Contains a.occurrences s → r.attribute ≡ s.attribute
      → r.nonterminal ≡ s.nonterminal → Sees r.owner s.owner
  declarer_sees r s has has' of on =
      let named = named_occurrence a within views r has in
      elim (own_occurrence a within views s has') [
        | inl own ↦
            let (row, at, owner) = mapped (λ (z : Attribute). z.owner) (slice_get a.attributes s.attribute) s.owner own in
            let equal = at_once a.attributes r.attribute named.attribute.attribute row named.attribute.is
            (subst (λ z. slice_get a.attributes z ≡ Some row) (sym of) at) in
            subst (Sees r.owner) (ap (λ (z : Attribute). z.owner) equal ∙ owner) named.attribute.seen
        | inr own ↦
            let (row, at, owner) = mapped (λ (z : Nonterminal). z.owner) (slice_get a.nonterminals s.nonterminal) s.owner own in
            let equal = at_once a.nonterminals r.nonterminal named.nonterminal.nonterminal row named.nonterminal.is
            (subst (λ z. slice_get a.nonterminals z ≡ Some row) (sym on) at) in
            subst (Sees r.owner) (ap (λ (z : Nonterminal). z.owner) equal ∙ owner) named.nonterminal.seen
      ]

  pub one_occurrence : (r s : Occurrence) → Contains a.occurrences r → Contains a.occurrences s → r.attribute ≡ s.attribute
      → r.nonterminal ≡ s.nonterminal → r ≡ s
  one_occurrence r s has has' of on =
      let k = r.owner in
      let v = views k (occurrence_owner a within views r has) in
      let (first, listed, r_is) = v.seen.occurrences_from r has (inr refl) in
      let (second, listed', s_is) = v.seen.occurrences_from s has' (declarer_sees r s has has' of on) in
      let once = order_once v.t v.seen.order in
      let attributes = sym (ap (λ (z : Occurrence). z.attribute) r_is) ∙ (of ∙ ap (λ (z : Occurrence). z.attribute) s_is) in
      let nonterminals = sym (ap (λ (z : Occurrence). z.nonterminal) r_is) ∙ (on ∙ ap (λ (z : Occurrence). z.nonterminal) s_is) in
      let (i, at) = place_of v.s.occurrences first listed in
      let (j, at') = place_of v.s.occurrences second listed' in
      let places = v.is.once.occurrences i j first second at at' (once.attribute first.attribute second.attribute attributes)
      (once.nonterminal first.nonterminal second.nonterminal nonterminals) in
      let equal = at_once v.s.occurrences j first second (subst (λ z. slice_get v.s.occurrences z ≡ Some first) places at) at' in
      r_is ∙ (ap (new_occurrence v.t k) equal ∙ sym s_is)

  occurs_once : OccursOnce a.occurrences
  occurs_once i j r s at at' of on =
      let equal = one_occurrence r s (contains_at a.occurrences r i at) (contains_at a.occurrences s j at') of on in
      within.once s i j (at ∙ ap Some equal) at'

  module _ (q : ℕ) (there : Production) (at_q : slice_get a.productions q ≡ Some there) where
    label_sees : (i owner : ℕ) (name : List ℕ) → slice_get (labels_of there) i ≡ Some (owner, name)
        → IsOwner a.extensions owner × Sees owner there.owner
    label_sees i owner name at =
        elim (at_append (map (child_entry there.owner) there.children) (map local_entry there.locals) (owner, name) i at) [
          | inl here ↦
              let (c, has, is) = row_of (child_entry there.owner) there.children i owner name here in
              let owner_is : there.owner ≡ owner = ap (λ (z : Entry). z.0) is in
              (subst (IsOwner a.extensions) owner_is (production_owner a within views q there at_q), inr owner_is)
          | inr (j, is, here) ↦
              let (l, has, same) = row_of local_entry there.locals j owner name here in
              let owner_is : l.owner ≡ owner = ap (λ (z : Entry). z.0) same in
              let may = local_may a within views q there at_q j l has in
              (subst (IsOwner a.extensions) owner_is may.is_owner, subst (λ z. Sees z there.owner) owner_is may.sees)
        ]

    labels_once : NamesDiffer (labels_of there)
    labels_once i j owner other name at at' sees =
        let (bound, there_seen) = label_sees i owner name at in
        let v = views owner bound in
        let (p, row, has, is, same) = production_back a owner v q there at_q there_seen in
        let once = all_at IsOnceIn v.s.productions p row v.is.once.productions has in
        two_parts a owner v (map (child_entry there.owner) there.children) (map local_entry there.locals)
        (map (child_entry row.owner) row.children) (map local_entry row.locals) (λ z. z) (v.t.local_in p)
        (children_back a owner v p row there has same) (locals_back a owner v p row there has same) once.labels i j owner other name at at'
        (inr refl) sees sees

    -- an occurrence that is seen, and the one that an equation is for
    occurrence_seen : (owner : ℕ) (d : Direction) (x m : ℕ) (o : Occurrence) → SeesOccurrence a owner d x m → Contains a.occurrences o
        → o.attribute ≡ x → o.nonterminal ≡ m → Sees owner o.owner
    occurrence_seen owner d x m o sees has of on =
        let equal = one_occurrence sees.occurrence o sees.listed has (sees.of_attribute ∙ sym of) (sees.on_nonterminal ∙ sym on) in
        subst (Sees owner) (ap (λ (z : Occurrence). z.owner) equal) sees.seen

    own_occurrence_seen : (owner other : ℕ) (to : Target) → IsNamedTarget a there owner to → IsForOwnOccurrence a there other to
        → Sees owner other
    own_occurrence_seen owner other (target.Top x) named own =
        let (of, on) = own.is_target in
        subst (Sees owner) own.declared (occurrence_seen owner _ x there.left own.occurrence named own.listed of on)
    own_occurrence_seen owner other (target.Place at x) (m, place_seen, named) own =
        let (of, on) = own.is_target in
        let here = place_seen.is in
        let equal : own.occurrence.nonterminal ≡ m = cc (on, here) in
        subst (Sees owner) own.declared (occurrence_seen owner _ x m own.occurrence named own.listed of equal)
    own_occurrence_seen owner other (target.Forward x) (forwards, named) own =
        let (of, on) = own.is_target in
        subst (Sees owner) own.declared (occurrence_seen owner _ x there.left own.occurrence named own.listed of on)

    local_seen_in : (owner other : ℕ) (o : Option Local) → option_map (λ (l : Local). l.owner) o ≡ Some other
        → Sees owner (owner_of_local there o) → Sees owner other
    local_seen_in owner other None own sees = absurd (cc own)
    local_seen_in owner other (Some l) own sees = subst (Sees owner) (same_Some l.owner other own) sees

    own_local_seen : (owner other : ℕ) (to : Target) → IsNamedTarget a there owner to → IsForOwnLocal there other to → Sees owner other
    own_local_seen owner other (target.Top x) named own = absurd own
    own_local_seen owner other (target.Place (place.Child i) x) named own = absurd own
    own_local_seen owner other (target.Place (place.Local y) x) (m, place_seen, named) own =
        local_seen_in owner other (slice_get there.locals y) own place_seen.seen
    own_local_seen owner other (target.Forward x) named own = absurd own

    -- the owner of an equation sees that of another with the same target
    writer_sees : (e f : Equation) → Contains there.equations e → Contains there.equations f → e.target ≡ f.target → Sees e.owner f.owner
    writer_sees e f has has' same =
        let named = named_equation a within views q there at_q e has in
        let target_named = subst (IsNamedTarget a there e.owner) same named.target in
        elim (own_equation a within views q there at_q f has') [
          | inl own ↦ subst (Sees e.owner) own named.there
          | inr (inl own) ↦ own_local_seen e.owner f.owner f.target target_named own
          | inr (inr own) ↦ own_occurrence_seen e.owner f.owner f.target target_named own
        ]

    one_equation : (e f : Equation) → Contains there.equations e → Contains there.equations f → e.target ≡ f.target → e ≡ f
    one_equation e f has has' same =
        let k = e.owner in
        let may = equation_may a within views q there at_q e has in
        let v = views k may.is_owner in
        let (p, row, row_at, is, seen) = production_back a k v q there at_q may.sees in
        let (first, listed, e_is) = seen.equations_from e has (inr refl) in
        let (second, listed', f_is) = seen.equations_from f has' (writer_sees e f has has' same) in
        let targets = sym (ap (λ (z : Equation). z.target) e_is) ∙ (same ∙ ap (λ (z : Equation). z.target) f_is) in
        let once = target_once v.t (order_once v.t v.seen.order) p first.target second.target targets in
        let (i, at) = place_of row.equations first listed in
        let (j, at') = place_of row.equations second listed' in
        let in_row = all_at IsOnceIn v.s.productions p row v.is.once.productions row_at in
        let to_at = slice_get-map (λ (z : Equation). z.target) row.equations i ∙ ap (option_map (λ (z : Equation). z.target)) at in
        let to_at' = slice_get-map (λ (z : Equation). z.target) row.equations j ∙ ap (option_map (λ (z : Equation). z.target)) at' in
        let places = in_row.targets second.target i j (to_at ∙ ap Some once) to_at' in
        let equal = at_once row.equations j first second (subst (λ z. slice_get row.equations z ≡ Some first) places at) at' in
        e_is ∙ (ap (new_equation v.t p k) equal ∙ sym f_is)

    targets_once : Differ (map (λ (e : Equation). e.target) there.equations)
    targets_once to i j at at' =
        let (e, has, is) = mapped (λ (z : Equation). z.target) (slice_get there.equations i) to
        (sym (slice_get-map (λ (z : Equation). z.target) there.equations i) ∙ at) in
        let (f, has', is') = mapped (λ (z : Equation). z.target) (slice_get there.equations j) to
        (sym (slice_get-map (λ (z : Equation). z.target) there.equations j) ∙ at') in
        let equal = one_equation e f (contains_at there.equations e i has) (contains_at there.equations f j has') (is ∙ sym is') in
        (written a within views q there at_q).once f i j (has ∙ ap Some equal) has'

  pub is_once : Differ a.extensions → IsOnce a
  is_once differ = record {
    extensions = differ;
    symbols = symbols_once;
    attributes = attributes_once;
    occurrences = occurs_once;
    productions = all_from_places IsOnceIn a.productions (λ q there at. record {
      labels = labels_once q there at;
      targets = targets_once q there at;
    });
  }
