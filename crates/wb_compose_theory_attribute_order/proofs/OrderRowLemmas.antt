-- Each nonterminal, attribute and occurrence of a union is in that of the other order, in new numbers.
use Rattle.std.proofs.Common.{◌≡◌, ◌∙◌, ◌∷◌, [], ℕ, List, Some, Contains, slice_get, refl, sym, ap, subst, inr}
use Rattle.wb_lemmas.proofs.Elements.{all_at, all_contained}
use Rattle.wb_lemmas.proofs.Places.{at_once}
use Rattle.wb_compose_theory_attribute_order.specs.Attributions.{renamed_attribute, renamed_nonterminal, renamed_occurrence}
use Rattle.wb_compose_theory_attribute_order.specs.Renumberings.{Renumbering}
use Rattle.wb_compose_theory_order.specs.Orders.{IsReordering}
use Rattle.wb_syntax_resolved.specs.declared.attributes.Attribute.{Attribute}
use Rattle.wb_syntax_resolved.specs.declared.attributes.Nonterminal.{Nonterminal}
use Rattle.wb_syntax_resolved.specs.declared.attributes.Occurrence.{Occurrence}
use Rattle.wb_syntax_resolved.specs.declared.attribution.AttributionParts.{AttributionParts}
use Rattle.wb_syntax_resolved.specs.Owners.{IsOwner}
use Rattle.wb_compose_theory_attributes.proofs.SeenLemmas.{attribute_at, nonterminal_at}
use Rattle.wb_compose_theory_attributes.specs.Numbers.{NumberMap}
use Rattle.wb_compose_theory_attributes.specs.Rows.{new_attribute, new_nonterminal, new_occurrence}
use Rattle.wb_compose_theory_attributes.specs.Seen.{IsSeen}
use Rattle.wb_compose_theory_attributes.specs.Unions.{IsWithin}
use Rattle.wb_compose_theory_lists.specs.Additions.{Addition, IsOwn, Rows}
use Rattle.wb_compose_theory_lists.specs.Numbers.{numbers_of}
use Rattle.wb_compose_theory_lists.specs.United.{united_attribution}
use Rattle.wb_compose_theory_lists.proofs.TwiceLemmas.{attribute_twice, nonterminal_twice, occurrence_twice}
use Rattle.wb_compose_theory_lists.proofs.UnionLemmas.{is_seen}
use Rattle.wb_compose_theory_attribute_order.specs.Orders.{reordered_rows}
use Rattle.wb_compose_theory_attribute_order.proofs.MovedLemmas.{IsIn}
use Rattle.wb_compose_theory_attribute_order.proofs.SharedLemmas.{in_both, no_owners, owner_there, twice, view_here, view_there}

-- all that each extension adds is its own
abbrev pub AreOwn : List Addition → Type 0
AreOwn all = (l : ℕ) (y : Addition) → slice_get all l ≡ Some y → IsOwn y

module _ (host : Rows) {all others : List Addition} {to from : ℕ → ℕ} (re : IsReordering to from all others)
    (own : AreOwn all) (other_own : AreOwn others) where
  abbrev r : Renumbering
  r = reordered_rows host all others to

  abbrev a : AttributionParts
  a = united_attribution host all

  abbrev b : AttributionParts
  b = united_attribution host others

  -- what an owner sees of both
  module _ {owner other k l : ℕ} {x : Addition} (is_in : IsIn all others to owner other k l x) where
    abbrev s : AttributionParts
    s = united_attribution host (x ∷ [])

    abbrev here : NumberMap
    here = numbers_of host all k x

    abbrev there : NumberMap
    there = numbers_of host others l x

    pub seen_here : IsSeen s a owner here
    seen_here = is_seen host all own owner k x (view_here is_in)

    pub seen_there : IsSeen s b other there
    seen_there = is_seen host others other_own other l x (view_there is_in)

    nonterminal_new : (row : Nonterminal) → renamed_nonterminal r (new_nonterminal here owner row) ≡ new_nonterminal there other row
    nonterminal_new row =
        let rows = nonterminal_twice here r.numbers there (twice host re is_in) owner 0 0 (no_owners owner) row in
        let owners = owner_there is_in row.owner in
        λ i. record (rows i) { owner = owners i }

    attribute_new : (row : Attribute) → renamed_attribute r (new_attribute here owner row) ≡ new_attribute there other row
    attribute_new row =
        let rows = attribute_twice here r.numbers there (twice host re is_in) owner 0 0 (no_owners owner) row in
        let owners = owner_there is_in row.owner in
        λ i. record (rows i) { owner = owners i }

    occurrence_new : (row : Occurrence) → renamed_occurrence r (new_occurrence here owner row) ≡ new_occurrence there other row
    occurrence_new row =
        let rows = occurrence_twice here r.numbers there (twice host re is_in) owner 0 0 (no_owners owner) row in
        let owners = owner_there is_in row.owner in
        λ i. record (rows i) { owner = owners i }

    nonterminal_in : (m : ℕ) (row : Nonterminal) → slice_get a.nonterminals m ≡ Some row → owner ≡ row.owner
        → slice_get b.nonterminals (r.numbers.nonterminal m) ≡ Some (renamed_nonterminal r row)
    nonterminal_in m row at mine =
        let (n, from, from_at, m_is) = seen_here.nonterminals_from m row at (inr (sym mine)) in
        let row_is = at_once a.nonterminals (here.nonterminal n) (new_nonterminal here owner from) row
        (nonterminal_at s a owner here seen_here n from from_at) (subst (λ z. slice_get a.nonterminals z ≡ Some row) m_is at) in
        ap (slice_get b.nonterminals) (ap r.numbers.nonterminal m_is ∙ (twice host re is_in).nonterminal n)
        ∙ (nonterminal_at s b other there seen_there n from from_at
        ∙ ap Some (sym (nonterminal_new from) ∙ ap (renamed_nonterminal r) row_is))

    attribute_in : (y : ℕ) (row : Attribute) → slice_get a.attributes y ≡ Some row → owner ≡ row.owner
        → slice_get b.attributes (r.numbers.attribute y) ≡ Some (renamed_attribute r row)
    attribute_in y row at mine =
        let (n, from, from_at, y_is) = seen_here.attributes_from y row at (inr (sym mine)) in
        let row_is = at_once a.attributes (here.attribute n) (new_attribute here owner from) row
        (attribute_at s a owner here seen_here n from from_at) (subst (λ z. slice_get a.attributes z ≡ Some row) y_is at) in
        ap (slice_get b.attributes) (ap r.numbers.attribute y_is ∙ (twice host re is_in).attribute n)
        ∙ (attribute_at s b other there seen_there n from from_at
        ∙ ap Some (sym (attribute_new from) ∙ ap (renamed_attribute r) row_is))

    occurrence_in : (row : Occurrence) → Contains a.occurrences row → owner ≡ row.owner → Contains b.occurrences (renamed_occurrence r row)
    occurrence_in row has mine =
        let (from, from_has, row_is) = seen_here.occurrences_from row has (inr (sym mine)) in
        subst (Contains b.occurrences) (sym (occurrence_new from) ∙ ap (renamed_occurrence r) (sym row_is))
        (seen_there.occurrences from from_has)

  module _ (within : IsWithin a) where
    pub nonterminals_there : (m : ℕ) (row : Nonterminal) → slice_get a.nonterminals m ≡ Some row
        → slice_get b.nonterminals (r.numbers.nonterminal m) ≡ Some (renamed_nonterminal r row)
    nonterminals_there m row at =
        let bounded = all_at (λ (z : Nonterminal). IsOwner a.extensions z.owner) a.nonterminals m row within.nonterminals at in
        nonterminal_in (in_both re row.owner bounded).is_in m row at refl

    pub attributes_there : (y : ℕ) (row : Attribute) → slice_get a.attributes y ≡ Some row
        → slice_get b.attributes (r.numbers.attribute y) ≡ Some (renamed_attribute r row)
    attributes_there y row at =
        let bounded = all_at (λ (z : Attribute). IsOwner a.extensions z.owner) a.attributes y row within.attributes at in
        attribute_in (in_both re row.owner bounded).is_in y row at refl

    pub occurrences_there : (row : Occurrence) → Contains a.occurrences row → Contains b.occurrences (renamed_occurrence r row)
    occurrences_there row has =
        let bounded = all_contained (λ (z : Occurrence). IsOwner a.extensions z.owner) a.occurrences row within.occurrences has in
        occurrence_in (in_both re row.owner bounded).is_in row has refl
