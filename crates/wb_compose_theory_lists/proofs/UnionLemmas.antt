-- The lists in the union's numbers are the union of the host and of the host with each extension.
use Rattle.std.proofs.Common.{◌≡◌, ◌∙◌, ◌∷◌, [], ℕ, suc, List, Some, Contains, map, slice_get, refl, sym, ap, subst}
use Rattle.std.proofs.lemmas.Option.{slice_get-map}
use Rattle.wb_lemmas.proofs.Elements.{all_at, all_contained}
use Rattle.wb_syntax_resolved.specs.declared.attributes.Occurrence.{Occurrence}
use Rattle.wb_syntax_resolved.specs.Owners.{Sees}
use Rattle.wb_compose_theory_attributes.specs.Numbers.{NumberMap}
use Rattle.wb_compose_theory_attributes.specs.Rows.{new_occurrence}
use Rattle.wb_compose_theory_attributes.specs.Seen.{IsSeen}
use Rattle.wb_compose_theory_attributes.specs.Unions.{Rooted, IsPart, IsUnionOf}
use Rattle.wb_compose_theory_attributes.proofs.SeenLemmas.{mapped}
use Rattle.wb_compose_theory_lists.specs.Additions.{Rows, Addition, nothing, IsOwn, IsAddition}
use Rattle.wb_compose_theory_lists.specs.Laws.{rooted, each_alone, AreAdded, IsUnited}
use Rattle.wb_compose_theory_lists.specs.Numbers.{numbers_of}
use Rattle.wb_compose_theory_lists.specs.United.{host_numbers, united_occurrences, united_attribution}
use Rattle.wb_compose_theory_lists.proofs.ContainLemmas.{contains_seen, contains_from}
use Rattle.wb_compose_theory_lists.proofs.EachLemmas.{IsView, of_host, of_own, member_of}
use Rattle.wb_compose_theory_lists.proofs.GroupedLemmas.{is_numbered}
use Rattle.wb_compose_theory_lists.proofs.NumberLemmas.{h, u, v, twice_host, twice_own, keeps_order}
use Rattle.wb_compose_theory_lists.proofs.RowLemmas.{owned_new, nonterminals_seen, nonterminals_from, attributes_seen, attributes_from}
use Rattle.wb_compose_theory_lists.proofs.SourceLemmas.{productions_seen, productions_from}
use Rattle.wb_compose_theory_lists.proofs.TwiceLemmas.{host_owners, own_owners, occurrence_twice}
use Rattle.wb_compose_theory_lists.proofs.WithinLemmas.{is_within}

module _ (host : Rows) (all : List Addition) (own : (l : ℕ) (y : Addition) → slice_get all l ≡ Some y → IsOwn y) (o k : ℕ) (x : Addition)
    (view : IsView all o k x) where
  abbrev moved : NumberMap
  moved = numbers_of host all k x

  host_two : (r : Occurrence) → new_occurrence moved o (new_occurrence (host_numbers host (x ∷ [])) 0 r)
      ≡ new_occurrence (host_numbers host all) 0 r
  host_two = occurrence_twice (u host all k x (member_of view)) moved (h host all k x (member_of view))
      (twice_host host all k x (member_of view)) 0 o 0 (host_owners o)

  own_two : o ≡ suc k → (r : Occurrence) → new_occurrence moved o (new_occurrence (numbers_of host (x ∷ []) 0 x) 1 r)
      ≡ new_occurrence moved (suc k) r
  own_two same r =
      ap (λ z. new_occurrence moved z (new_occurrence (numbers_of host (x ∷ []) 0 x) 1 r)) same
      ∙ occurrence_twice (v host all k x (member_of view)) moved moved (twice_own host all k x (member_of view)) 1 (suc k) (suc k)
      (own_owners k) r

  owned : (l : ℕ) (y : Addition) → slice_get all l ≡ Some y → (r : Occurrence) → Contains y.rows.occurrences r
      → (new_occurrence (numbers_of host all l y) (suc l) r).owner ≡ suc l
  owned l y at r has = owned_new l r.owner (all_contained (λ (z : Occurrence). z.owner ≡ 1) y.rows.occurrences r
      (own l y at).occurrences has)

  occurrences_seen : (r : Occurrence) → Contains (united_occurrences host (x ∷ [])) r
      → Contains (united_occurrences host all) (new_occurrence moved o r)
  occurrences_seen =
      contains_seen all o k x view (λ (r : Occurrence). r.owner) host.occurrences (λ (y : Addition). y.rows.occurrences) refl
      (new_occurrence (host_numbers host (x ∷ [])) 0) (new_occurrence (host_numbers host all) 0) (new_occurrence moved o)
      (new_occurrence (numbers_of host (x ∷ []) 0 x) 1) (λ l y. new_occurrence (numbers_of host all l y) (suc l)) host_two own_two owned

  occurrences_from : (r : Occurrence) → Contains (united_occurrences host all) r → Sees o r.owner
      → (from : Occurrence) × Contains (united_occurrences host (x ∷ [])) from × (r ≡ new_occurrence moved o from)
  occurrences_from =
      contains_from all o k x view (λ (r : Occurrence). r.owner) host.occurrences (λ (y : Addition). y.rows.occurrences) refl
      (new_occurrence (host_numbers host (x ∷ [])) 0) (new_occurrence (host_numbers host all) 0) (new_occurrence moved o)
      (new_occurrence (numbers_of host (x ∷ []) 0 x) 1) (λ l y. new_occurrence (numbers_of host all l y) (suc l)) host_two own_two owned

  pub is_seen : IsSeen (united_attribution host (x ∷ [])) (united_attribution host all) o moved
  is_seen = record {
    order = keeps_order host all k x (member_of view);
    nonterminals = nonterminals_seen host all own o k x view;
    nonterminals_from = nonterminals_from host all own o k x view;
    attributes = attributes_seen host all own o k x view;
    attributes_from = attributes_from host all own o k x view;
    occurrences = occurrences_seen;
    occurrences_from = occurrences_from;
    productions = productions_seen host all own o k x view;
    productions_from = productions_from host all own o k x view;
  }

  pub start_is : (start : ℕ) → moved.nonterminal ((host_numbers host (x ∷ [])).nonterminal start) ≡
      (host_numbers host all).nonterminal start
  start_is start = (twice_host host all k x (member_of view)).nonterminal start

module _ (host : Rows) (start : ℕ) (all : List Addition) (added : AreAdded host all) where
  addition_at : (l : ℕ) (y : Addition) → slice_get all l ≡ Some y → IsAddition y
  addition_at l y at = all_at IsAddition all l y added.each at

  own : (l : ℕ) (y : Addition) → slice_get all l ≡ Some y → IsOwn y
  own l y at = (addition_at l y at).own

  host_part : IsPart (rooted host start []) (rooted host start all) 0
  host_part = record {
    numbers = numbers_of host all 0 nothing;
    seen = host_seen;
    start = start_is host all own 0 0 nothing (of_host refl refl) start;
  } where
    host_seen : IsSeen (united_attribution host []) (united_attribution host all) 0 (numbers_of host all 0 nothing)
    host_seen =
        let seen = is_seen host all own 0 0 nothing (of_host refl refl) in
        record {
          order = seen.order;
          nonterminals = seen.nonterminals;
          nonterminals_from = seen.nonterminals_from;
          attributes = seen.attributes;
          attributes_from = seen.attributes_from;
          occurrences = seen.occurrences;
          occurrences_from = seen.occurrences_from;
          productions = seen.productions;
          productions_from = seen.productions_from;
        }

  own_part : (k : ℕ) (x : Addition) → slice_get all k ≡ Some x → IsPart (rooted host start (x ∷ [])) (rooted host start all) (suc k)
  own_part k x at = record {
    numbers = numbers_of host all k x;
    seen = is_seen host all own (suc k) k x (of_own refl at);
    start = start_is host all own (suc k) k x (of_own refl at) start;
  }

  extension_part : (k : ℕ) (e : Rooted) → slice_get (each_alone host start all) k ≡ Some e → IsPart e (rooted host start all) (suc k)
  extension_part k e at =
      let (x, there, same) = mapped (λ (y : Addition). rooted host start (y ∷ [])) (slice_get all k) e
      (sym (slice_get-map (λ (y : Addition). rooted host start (y ∷ [])) all k) ∙ at) in
      subst (λ z. IsPart z (rooted host start all) (suc k)) same (own_part k x there)

  names_are : (xs : List Addition) → map (λ (e : Rooted). e.attributes.extensions) (each_alone host start xs)
      ≡ map (λ (name : List ℕ). name ∷ []) (map (λ (x : Addition). x.name) xs)
  names_are [] = refl
  names_are (x ∷ xs) = ap (λ z. (x.name ∷ []) ∷ z) (names_are xs)

  pub is_union : IsUnionOf (rooted host start []) (each_alone host start all) (rooted host start all)
  is_union = record {
    names = names_are all;
    differ = added.differ;
    of_host = host_part;
    of_extension = extension_part;
    within = is_within host all own (λ l y at. (addition_at l y at).written) added.host_once (λ l y at. (addition_at l y at).once)
        (λ l y at. (addition_at l y at).aspects_once);
    numbered = is_numbered host all own added.host_roles (λ l y at. (addition_at l y at).roles);
  }

pub is_united : (host : Rows) (start : ℕ) (all : List Addition) → IsUnited host start all
is_united host start all added = is_union host start all added
