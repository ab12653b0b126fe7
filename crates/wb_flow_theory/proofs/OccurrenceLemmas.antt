-- What is seen occurs, and what flow types have.
use Rattle.std.proofs.Common.{◌≡◌, ◌∙◌, [], ℕ, List, Some, refl, sym, ap, subst, option_map, Contains, slice_get}
use Rattle.wb_lemmas.proofs.Elements.{all_contained}
use Rattle.wb_lemmas.proofs.Members.{place_of, nothing_in}
use Rattle.wb_lemmas.proofs.Places.{at_once}
use Rattle.wb_syntax_resolved.specs.declared.attributes.Attribute.{Attribute}
use Rattle.wb_syntax_resolved.specs.declared.attributes.Direction.{Direction}
use Rattle.wb_syntax_resolved.specs.declared.attributes.Direction.TheVariants.{Synthesized, Inherited}
use Rattle.wb_syntax_resolved.specs.declared.attribution.AttributionParts.{AttributionParts}
use Rattle.wb_syntax_resolved.specs.Attribution.{IsAttribution}
use Rattle.wb_syntax_resolved.specs.Named.{IsNamedOccurrence}
use Rattle.wb_syntax_resolved.specs.Visible.{SeesAttribute, SeesOccurrence}
use Rattle.wb_flow_theory.specs.Occurrences.{Goes, HasFlowType, Occurs, Needs, ForwardNeeds}

module _ (a : AttributionParts) where
  -- an attribute that is seen goes its way
  pub goes_seen : (owner : ℕ) (direction : Direction) (x : ℕ) → SeesAttribute a owner direction x → Goes a direction x
  goes_seen owner direction x seen =
      ap (option_map (λ (r : Attribute). r.direction)) seen.is ∙ ap Some seen.goes

  -- an occurrence that is seen is there
  pub occurs_seen : (owner : ℕ) (direction : Direction) (x m : ℕ) → SeesOccurrence a owner direction x m → Occurs a direction x m
  occurs_seen owner direction x m seen = record {
    goes = goes_seen owner direction x seen.attribute;
    on = (
      seen.occurrence.needs,
      record {
        occurrence = seen.occurrence;
        listed = seen.listed;
        of_attribute = seen.of_attribute;
        on_nonterminal = seen.on_nonterminal;
        needs_are = refl;
      },
    );
  }

  module _ (is : IsAttribution a) where
    -- no two flow types are of one attribute on one nonterminal
    pub one_flow_type : (x m : ℕ) (first second : List ℕ) → HasFlowType a x m first → HasFlowType a x m second → first ≡ second
    one_flow_type x m first second p q =
        let (i, at) = place_of a.occurrences p.occurrence p.listed in
        let (j, there) = place_of a.occurrences q.occurrence q.listed in
        let same = is.once.occurrences i j p.occurrence q.occurrence at there (p.of_attribute ∙ sym q.of_attribute)
        (p.on_nonterminal ∙ sym q.on_nonterminal) in
        let equal = at_once a.occurrences j p.occurrence q.occurrence (subst (λ k. slice_get a.occurrences k ≡ Some p.occurrence) same at) there in
        sym p.needs_are ∙ ap (λ o. o.needs) equal ∙ q.needs_are

    -- an attribute that isn't synthesized needs nothing
    by_direction : (o : Direction) (needs : List ℕ) (i : ℕ) → (o ≡ Inherited → needs ≡ []) → Contains needs i → o ≡ Synthesized
    by_direction Synthesized needs i inherited has = refl
    by_direction Inherited needs i inherited has = absurd (nothing_in i (subst (λ z. Contains z i) (inherited refl) has))

    -- whatever is in a flow type is inherited, and the flow type is a synthesized attribute's
    pub flow_type_inherited : (x m i : ℕ) → Needs a x m i → Occurs a Synthesized x m × Occurs a Inherited i m
    flow_type_inherited x m i (needs, flow, has) =
        let o = flow.occurrence in
        let named = all_contained (IsNamedOccurrence a) a.occurrences o is.named.occurrences flow.listed in
        let inside = subst (λ z. Contains z i) (sym flow.needs_are) has in
        let goes = by_direction named.direction o.needs i named.inherited inside in
        let seen = all_contained (λ k. SeesOccurrence a o.owner Inherited k o.nonterminal) o.needs i named.needs inside in (
          record {
            goes = subst (λ k. Goes a Synthesized k) flow.of_attribute
                (subst (λ d. Goes a d o.attribute) goes (goes_seen o.owner named.direction o.attribute named.attribute));
            on = (needs, flow);
          },
          subst (Occurs a Inherited i) flow.on_nonterminal (occurs_seen o.owner Inherited i o.nonterminal seen),
        )

    -- whatever is in the flow type of a forward is inherited
    pub forward_inherited : (m i : ℕ) → ForwardNeeds a m i → Occurs a Inherited i m
    forward_inherited m i (r, there, has) =
        let named = is.named.nonterminals m r there in
        occurs_seen r.owner Inherited i m
        (all_contained (λ k. SeesOccurrence a r.owner Inherited k m) r.forward_needs i named.needs has)
