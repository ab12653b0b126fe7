-- Where each owner sees an attribution, each name is declared where it is seen, and owners keep to what they may.
use Rattle.std.proofs.Common.{◌≡◌, ◌∙◌, ◌≤◌, ℕ, Option, Some, None, Contains, All, option_map, slice_get, length, refl, sym, ap, subst}
use Rattle.std.proofs.Common.{inl, inr}
use Rattle.wb_lemmas.proofs.Elements.{all_at, all_contained, all_from_places, all_from_contained}
use Rattle.wb_base.specs.declared.symbol.Kind.TheVariants as kind
use Rattle.wb_base.specs.Identifiers.{IsName}
use Rattle.wb_syntax_resolved.specs.declared.attributes.Attribute.{Attribute}
use Rattle.wb_syntax_resolved.specs.declared.attributes.Nonterminal.{Nonterminal}
use Rattle.wb_syntax_resolved.specs.declared.attributes.Occurrence.{Occurrence}
use Rattle.wb_syntax_resolved.specs.declared.attribution.AttributionParts.{AttributionParts}
use Rattle.wb_syntax_resolved.specs.declared.equation.Equation.{Equation}
use Rattle.wb_syntax_resolved.specs.declared.equation.Place.TheVariants as place
use Rattle.wb_syntax_resolved.specs.declared.equation.Target.{Target}
use Rattle.wb_syntax_resolved.specs.declared.equation.Target.TheVariants as target
use Rattle.wb_syntax_resolved.specs.declared.production.ChildKind.TheVariants as child
use Rattle.wb_syntax_resolved.specs.declared.production.Local.{Local}
use Rattle.wb_syntax_resolved.specs.declared.production.Production.{Production}
use Rattle.wb_syntax_resolved.specs.Named.{IsNamed, IsNamedEquation, IsNamedLocal, IsNamedProduction, IsNamedNonterminal, IsNamedAttribute}
use Rattle.wb_syntax_resolved.specs.Named.{IsNamedOccurrence}
use Rattle.wb_syntax_resolved.specs.Owned.{IsOwned, IsOwnOccurrence, IsClosed, IsOpenTo, IsTargetOf, IsForOwnLocal, IsOwnEquation}
use Rattle.wb_syntax_resolved.specs.Owners.{IsOwner}
use Rattle.wb_syntax_resolved.specs.Visible.{SeesNonterminal}
use Rattle.wb_compose_theory_attributes.specs.Numbers.{NumberMap}
use Rattle.wb_compose_theory_attributes.specs.Rows.{new_owner, new_nonterminal, new_occurrence, new_target, new_equation}
use Rattle.wb_compose_theory_attributes.specs.Seen.{IsSeenProduction}
use Rattle.wb_compose_theory_attributes.specs.Unions.{MayStandOn, IsWrittenWithin, IsWithin}
use Rattle.wb_compose_theory_attributes.proofs.NewNamedLemmas.{nonterminal_new, attribute_new, occurrence_new, equation_new, local_new}
use Rattle.wb_compose_theory_attributes.proofs.NewNamedLemmas.{children_new}
use Rattle.wb_compose_theory_attributes.proofs.NewNamedLemmas.{forward_new}
use Rattle.wb_compose_theory_attributes.proofs.SeenLemmas.{nonterminal_at, attribute_at, sees_nonterminal, mapped, kind_new}
use Rattle.wb_compose_theory_attributes.proofs.ViewLemmas.{View, nonterminal_back, attribute_back, production_back, local_back}

-- what is closed stays so
closed_new : (t : NumberMap) (k : ℕ) (o : Option Nonterminal)
    → option_map (λ (z : Nonterminal). z.closed) (option_map (new_nonterminal t k) o) ≡ option_map (λ (z : Nonterminal). z.closed) o
closed_new t k None = refl
closed_new t k (Some r) = refl

-- in a view
module _ (a : AttributionParts) (k : ℕ) (v : View a k) where
  pub row_named : (p : ℕ) (row : Production) → slice_get v.s.productions p ≡ Some row → IsNamedProduction v.s row
  row_named p row has = all_at (IsNamedProduction v.s) v.s.productions p row v.is.named.productions has

  own_occurrence_new : (r : Occurrence) → IsOwnOccurrence v.s r → IsOwnOccurrence a (new_occurrence v.t k r)
  own_occurrence_new r (inl own) =
      let (row, at, owner) = mapped (λ (z : Attribute). z.owner) (slice_get v.s.attributes r.attribute) r.owner own in
      inl (ap (option_map (λ (z : Attribute). z.owner)) (attribute_at v.s a k v.t v.seen r.attribute row at)
      ∙ ap (λ z. Some (new_owner k z)) owner)
  own_occurrence_new r (inr own) =
      let (row, at, owner) = mapped (λ (z : Nonterminal). z.owner) (slice_get v.s.nonterminals r.nonterminal) r.owner own in
      inr (ap (option_map (λ (z : Nonterminal). z.owner)) (nonterminal_at v.s a k v.t v.seen r.nonterminal row at)
      ∙ ap (λ z. Some (new_owner k z)) owner)

  open_to_new : (r : Occurrence) → IsOpenTo v.s r → IsOpenTo a (new_occurrence v.t k r)
  open_to_new r free shut =
      let here : IsClosed v.s r.nonterminal = sym (closed_new v.t k (slice_get v.s.nonterminals r.nonterminal))
      ∙ (sym (ap (option_map (λ (z : Nonterminal). z.closed)) (v.seen.nonterminals r.nonterminal)) ∙ shut) in
      let (row, at, owner) = mapped (λ (z : Nonterminal). z.owner) (slice_get v.s.nonterminals r.nonterminal) r.owner (free here) in
      ap (option_map (λ (z : Nonterminal). z.owner)) (nonterminal_at v.s a k v.t v.seen r.nonterminal row at)
      ∙ ap (λ z. Some (new_owner k z)) owner

  module _ (p : ℕ) (row there : Production) (same : IsSeenProduction v.t k p row there) where
    own_local_new : (owner : ℕ) (to : Target) → IsForOwnLocal row owner to → IsForOwnLocal there (new_owner k owner) (new_target v.t p to)
    own_local_new owner (target.Top x) own = absurd own
    own_local_new owner (target.Place (place.Child i) x) own = absurd own
    own_local_new owner (target.Place (place.Local y) x) own =
        let (l, at, is) = mapped (λ (z : Local). z.owner) (slice_get row.locals y) owner own in
        ap (option_map (λ (z : Local). z.owner)) (same.locals y l at) ∙ ap (λ z. Some (new_owner k z)) is
    own_local_new owner (target.Forward x) own = absurd own

    is_target_new : (to : Target) (r : Occurrence) → IsTargetOf row to r → IsTargetOf there (new_target v.t p to) (new_occurrence v.t k r)
    is_target_new (target.Top x) r (of, on) = (ap v.t.attribute of, ap v.t.nonterminal on ∙ sym same.left)
    is_target_new (target.Place at x) r (of, on) =
        (ap v.t.attribute of, kind_new v.t k p row there same at (child.Value (kind.Tree r.nonterminal)) on)
    is_target_new (target.Forward x) r (of, on) = (ap v.t.attribute of, ap v.t.nonterminal on ∙ sym same.left)

    own_equation_new : (e : Equation) → IsOwnEquation v.s row e → IsOwnEquation a there (new_equation v.t p k e)
    own_equation_new e (inl own) = inl (same.owner ∙ ap (new_owner k) own)
    own_equation_new e (inr (inl own)) = inr (inl (own_local_new e.owner e.target own))
    own_equation_new e (inr (inr own)) = inr (inr (record {
      occurrence = new_occurrence v.t k own.occurrence;
      listed = v.seen.occurrences own.occurrence own.listed;
      is_target = is_target_new e.target own.occurrence own.is_target;
      declared = ap (new_owner k) own.declared;
    }))

module _ (a : AttributionParts) (within : IsWithin a) (views : (k : ℕ) → k ≤ length a.extensions → View a k) where
  pub named_nonterminal : (number : ℕ) (r : Nonterminal) → slice_get a.nonterminals number ≡ Some r → IsNamedNonterminal a number r
  named_nonterminal number r at =
      let bound = all_at (λ (z : Nonterminal). IsOwner a.extensions z.owner) a.nonterminals number r within.nonterminals at in
      let v = views r.owner bound in
      let (m, from, has, is, same) = nonterminal_back a r.owner v number r at (inr refl) in
      let good = nonterminal_new v.s a r.owner v.t v.seen bound m from (v.is.named.nonterminals m from has) in
      subst (λ z. IsNamedNonterminal a z r) (sym is) (subst (IsNamedNonterminal a (v.t.nonterminal m)) same good)

  named_attribute : (number : ℕ) (r : Attribute) → slice_get a.attributes number ≡ Some r → IsNamedAttribute a r
  named_attribute number r at =
      let bound = all_at (λ (z : Attribute). IsOwner a.extensions z.owner) a.attributes number r within.attributes at in
      let v = views r.owner bound in
      let (x, from, has, is, same) = attribute_back a r.owner v number r at (inr refl) in
      let good = attribute_new v.s a r.owner v.t v.seen bound from (all_at
      (IsNamedAttribute v.s) v.s.attributes x from v.is.named.attributes has) in
      subst (IsNamedAttribute a) same good

  pub occurrence_owner : (r : Occurrence) → Contains a.occurrences r → IsOwner a.extensions r.owner
  occurrence_owner r has = all_contained (λ (z : Occurrence). IsOwner a.extensions z.owner) a.occurrences r within.occurrences has

  pub named_occurrence : (r : Occurrence) → Contains a.occurrences r → IsNamedOccurrence a r
  named_occurrence r has =
      let bound = occurrence_owner r has in
      let v = views r.owner bound in
      let (from, there, is) = v.seen.occurrences_from r has (inr refl) in
      let good = all_contained (IsNamedOccurrence v.s) v.s.occurrences from v.is.named.occurrences there in
      subst (IsNamedOccurrence a) (sym is) (occurrence_new v.s a r.owner v.t v.seen bound from good)

  pub own_occurrence : (r : Occurrence) → Contains a.occurrences r → IsOwnOccurrence a r
  own_occurrence r has =
      let v = views r.owner (occurrence_owner r has) in
      let (from, there, is) = v.seen.occurrences_from r has (inr refl) in
      let own = all_contained (IsOwnOccurrence v.s) v.s.occurrences from v.is.owned.occurrences there in
      subst (IsOwnOccurrence a) (sym is) (own_occurrence_new a r.owner v from own)

  pub open_to : (r : Occurrence) → Contains a.occurrences r → IsOpenTo a r
  open_to r has =
      let v = views r.owner (occurrence_owner r has) in
      let (from, there, is) = v.seen.occurrences_from r has (inr refl) in
      let free = all_contained (IsOpenTo v.s) v.s.occurrences from v.is.owned.open_to there in
      subst (IsOpenTo a) (sym is) (open_to_new a r.owner v from free)

  module _ (q : ℕ) (there : Production) (at : slice_get a.productions q ≡ Some there) where
    pub written : IsWrittenWithin a there
    written = all_at (IsWrittenWithin a) a.productions q there within.written at

    pub production_owner : IsOwner a.extensions there.owner
    production_owner = all_at (λ (z : Production). IsOwner a.extensions z.owner) a.productions q there within.productions at

    pub local_may : (y : ℕ) (l : Local) → slice_get there.locals y ≡ Some l → MayStandOn a there l.owner
    local_may y l has = all_at (λ (z : Local). MayStandOn a there z.owner) there.locals y l written.locals has

    pub equation_may : (e : Equation) → Contains there.equations e → MayStandOn a there e.owner
    equation_may e has = all_contained (λ (z : Equation). MayStandOn a there z.owner) there.equations e written.equations has

    named_local : (y : ℕ) (l : Local) → slice_get there.locals y ≡ Some l → IsNamedLocal a there l
    named_local y l has =
        let may = local_may y l has in
        let v = views l.owner may.is_owner in
        let (p, row, row_at, is, same) = production_back a l.owner v q there at may.sees in
        let (x, from, from_at, y_is, equal) = local_back a l.owner v p row there same y l has (inr refl) in
        let good = all_at (IsNamedLocal v.s row) row.locals x from (row_named a l.owner v p row row_at).locals from_at in
        subst (IsNamedLocal a there) equal (local_new v.s a l.owner v.t v.seen may.is_owner p row there same from good)

    pub named_equation : (e : Equation) → Contains there.equations e → IsNamedEquation a there e
    named_equation e has =
        let may = equation_may e has in
        let v = views e.owner may.is_owner in
        let (p, row, row_at, is, same) = production_back a e.owner v q there at may.sees in
        let (from, listed, equal) = same.equations_from e has (inr refl) in
        let good = all_contained (IsNamedEquation v.s row) row.equations from (row_named a e.owner v p row row_at).equations listed in
        subst (IsNamedEquation a there) (sym equal) (equation_new v.s a e.owner v.t v.seen may.is_owner p row there same from good)

    pub own_equation : (e : Equation) → Contains there.equations e → IsOwnEquation a there e
    own_equation e has =
        let may = equation_may e has in
        let v = views e.owner may.is_owner in
        let (p, row, row_at, is, same) = production_back a e.owner v q there at may.sees in
        let (from, listed, equal) = same.equations_from e has (inr refl) in
        let all_own = all_at (λ (z : Production). All (IsOwnEquation v.s z) z.equations) v.s.productions p row v.is.owned.equations
        row_at in
        let own = all_contained (IsOwnEquation v.s row) row.equations from all_own listed in
        subst (IsOwnEquation a there) (sym equal) (own_equation_new a e.owner v p row there same from own)

    named_production : IsNamedProduction a there
    named_production =
        let k = there.owner in
        let v = views k production_owner in
        let (p, row, row_at, is, same) = production_back a k v q there at (inr refl) in
        let good = row_named a k v p row row_at in
        let left = sees_nonterminal v.s a k v.t v.seen row.owner row.left good.left in
        record {
          owner = production_owner;
          name = subst IsName (sym same.name) good.name;
          left = subst (λ z. SeesNonterminal a z there.left) (sym same.owner)
              (subst (SeesNonterminal a (new_owner k row.owner)) (sym same.left) left);
          children = children_new v.s a k v.t v.seen production_owner p row there same good.children;
          locals = all_from_places (IsNamedLocal a there) there.locals named_local;
          forward = forward_new v.s a k v.t v.seen production_owner p row there same good.forward;
          equations = all_from_contained (IsNamedEquation a there) there.equations named_equation;
        }

  pub is_named : All IsName a.extensions → IsNamed a
  is_named names = record {
    extensions = names;
    nonterminals = named_nonterminal;
    attributes = all_from_places (IsNamedAttribute a) a.attributes named_attribute;
    occurrences = all_from_contained (IsNamedOccurrence a) a.occurrences named_occurrence;
    productions = all_from_places (IsNamedProduction a) a.productions named_production;
  }

  pub is_owned : IsOwned a
  is_owned = record {
    occurrences = all_from_contained (IsOwnOccurrence a) a.occurrences own_occurrence;
    open_to = all_from_contained (IsOpenTo a) a.occurrences open_to;
    equations = all_from_places (λ (z : Production). All (IsOwnEquation a z) z.equations) a.productions
        (λ q there at. all_from_contained (IsOwnEquation a there) there.equations (own_equation q there at));
  }
