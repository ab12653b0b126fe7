-- What is asked of rows is asked alike in other numbers: printed names, where attributes occur, and what they need.
use Rattle.std.proofs.Common.{◌≡◌, ◌∙◌, ◌∷◌, ◌++◌, [], ℕ, zero, suc, List, Option, Some, None, map, option_map, slice_get, codes}
use Rattle.std.proofs.Common.{refl, sym, ap, subst}
use Rattle.std.specs.Prelude.{slice_index_or}
use Rattle.wb_flow_theory.specs.Occurrences.{Goes, HasFlowType, Needs, Occurs}
use Rattle.wb_syntax_resolved.specs.declared.attributes.Attribute.{Attribute}
use Rattle.wb_syntax_resolved.specs.declared.attributes.Direction.{Direction}
use Rattle.wb_syntax_resolved.specs.declared.attribution.AttributionParts.{AttributionParts}
use Rattle.wb_syntax_resolved.specs.Owners.{printed_name}
use Rattle.wb_compose_theory_attributes.proofs.VertexLemmas.{map_contains}
use Rattle.wb_compose_theory_attributes.specs.Numbers.{NumberMap}
use Rattle.wb_compose_theory_attribute_order.specs.Attributions.{IsSameAttribution, renamed_attribute, renamed_occurrence}
use Rattle.wb_compose_theory_attribute_order.specs.Laws.{MayBeAskedAlike}
use Rattle.wb_compose_theory_attribute_order.specs.Renumberings.{Renumbering, owner_by}

-- what leads there and back leads to the same
pub both_ways : {X Y : Type 0} (f : X → Y) (o : Option X) (other : Option Y) → ((x : X) → o ≡ Some x → other ≡ Some (f x))
    → ((y : Y) → other ≡ Some y → (x : X) × (o ≡ Some x)) → other ≡ option_map f o
both_ways f None None there back = refl
both_ways f None (Some y) there back = let (x, at) = back y refl in absurd (cc at)
both_ways f (Some x) other there back = there x refl

-- a name, or the empty one
abbrev or_empty : Option (List ℕ) → List ℕ
or_empty None = []
or_empty (Some name) = name

index_is : (names : List (List ℕ)) (k : ℕ) → slice_index_or names k [] ≡ or_empty (slice_get names k)
index_is [] k = refl
index_is (name ∷ names) zero = refl
index_is (name ∷ names) (suc k) = index_is names k

unchanged : {X : Type 0} (o : Option X) → option_map (λ (x : X). x) o ≡ o
unchanged None = refl
unchanged (Some x) = refl

-- the other way round
pub same_back : {r s : Renumbering} {a b : AttributionParts} → IsSameAttribution r s a b → IsSameAttribution s r b a
same_back same = record { there = same.back; back = same.there; undone = same.redone; redone = same.undone }

module _ {r s : Renumbering} {a b : AttributionParts} (same : IsSameAttribution r s a b) where
  abbrev t : NumberMap
  t = r.numbers

  extension_same : (k : ℕ) → slice_get b.extensions (r.extension k) ≡ slice_get a.extensions k
  extension_same k =
      both_ways (λ (name : List ℕ). name) (slice_get a.extensions k) (slice_get b.extensions (r.extension k)) (same.there.extensions k)
      (λ name at. (
        name,
        subst (λ z. slice_get a.extensions z ≡ Some name) (same.undone.extension k)
            (same.back.extensions (r.extension k) name at),
      ))
      ∙ unchanged (slice_get a.extensions k)

  pub name_same : (owner : ℕ) (name : List ℕ) → printed_name b.extensions (owner_by r.extension owner) name
      ≡ printed_name a.extensions owner name
  name_same zero name = refl
  name_same (suc k) name =
      ap (λ z. z ++ codes ":" ++ name)
      (index_is b.extensions (r.extension k) ∙ (ap or_empty (extension_same k) ∙ sym (index_is a.extensions k)))

  attribute_row : (y : ℕ) → slice_get b.attributes (t.attribute y) ≡ option_map (renamed_attribute r) (slice_get a.attributes y)
  attribute_row y =
      both_ways (renamed_attribute r) (slice_get a.attributes y) (slice_get b.attributes (t.attribute y)) (same.there.attributes y)
      (λ row at. (
        renamed_attribute s row,
        subst (λ z. slice_get a.attributes z ≡ Some (renamed_attribute s row))
            (same.undone.numbers.attribute y) (same.back.attributes (t.attribute y) row at),
      ))

  abbrev name_in : AttributionParts → Attribute → List ℕ
  name_in c x = printed_name c.extensions x.owner x.name

  named_in : (o : Option Attribute) → option_map (name_in b) (option_map (renamed_attribute r) o) ≡ option_map (name_in a) o
  named_in None = refl
  named_in (Some x) = ap Some (name_same x.owner x.name)

  named : (y : ℕ) → option_map (name_in b) (slice_get b.attributes (t.attribute y)) ≡ option_map (name_in a) (slice_get a.attributes y)
  named y = ap (option_map (name_in b)) (attribute_row y) ∙ named_in (slice_get a.attributes y)

  direction_in : (o : Option Attribute) → option_map (λ (x : Attribute). x.direction) (option_map (renamed_attribute r) o)
      ≡ option_map (λ (x : Attribute). x.direction) o
  direction_in None = refl
  direction_in (Some x) = refl

  goes_there : (d : Direction) (y : ℕ) → Goes a d y → Goes b d (t.attribute y)
  goes_there d y goes =
      ap (option_map (λ (x : Attribute). x.direction)) (attribute_row y) ∙ (direction_in (slice_get a.attributes y) ∙ goes)

  flow_there : (y m : ℕ) (needs : List ℕ) → HasFlowType a y m needs
      → HasFlowType b (t.attribute y) (t.nonterminal m) (map t.attribute needs)
  flow_there y m needs flow = record {
    occurrence = renamed_occurrence r flow.occurrence;
    listed = same.there.occurrences flow.occurrence flow.listed;
    of_attribute = ap t.attribute flow.of_attribute;
    on_nonterminal = ap t.nonterminal flow.on_nonterminal;
    needs_are = ap (map t.attribute) flow.needs_are;
  }

  occurs_there : (d : Direction) (y m : ℕ) → Occurs a d y m → Occurs b d (t.attribute y) (t.nonterminal m)
  occurs_there d y m o = record {
    goes = goes_there d y o.goes;
    on = let (needs, flow) = o.on in (map t.attribute needs, flow_there y m needs flow);
  }

  needs_there : (y m i : ℕ) → Needs a y m i → Needs b (t.attribute y) (t.nonterminal m) (t.attribute i)
  needs_there y m i (needs, flow, has) = (map t.attribute needs, flow_there y m needs flow, map_contains t.attribute needs i has)

module _ {r s : Renumbering} {a b : AttributionParts} (same : IsSameAttribution r s a b) where
  occurs_back : (d : Direction) (y m : ℕ) → Occurs b d (r.numbers.attribute y) (r.numbers.nonterminal m) → Occurs a d y m
  occurs_back d y m o =
      subst (λ z. Occurs a d z m) (same.undone.numbers.attribute y)
      (subst (Occurs a d (s.numbers.attribute (r.numbers.attribute y))) (same.undone.numbers.nonterminal m)
      (occurs_there (same_back same) d (r.numbers.attribute y) (r.numbers.nonterminal m) o))

  needs_back : (y m i : ℕ) → Needs b (r.numbers.attribute y) (r.numbers.nonterminal m) (r.numbers.attribute i) → Needs a y m i
  needs_back y m i needs =
      subst (λ z. Needs a z m i) (same.undone.numbers.attribute y)
      (subst (λ z. Needs a (s.numbers.attribute (r.numbers.attribute y)) z i) (same.undone.numbers.nonterminal m)
      (subst (Needs a (s.numbers.attribute (r.numbers.attribute y)) (s.numbers.nonterminal (r.numbers.nonterminal m))) (same.undone.numbers.attribute i)
      (needs_there (same_back same) (r.numbers.attribute y) (r.numbers.nonterminal m) (r.numbers.attribute i) needs)))

  pub asked_alike : MayBeAskedAlike r.numbers a b
  asked_alike = record {
    named = named same;
    occurs = λ d y m. (occurs_there same d y m, occurs_back d y m);
    needs = λ y m i. (needs_there same y m i, needs_back y m i);
  }
