-- Which productions the lists of a union have, and where: the host's and an extension's own.
use Rattle.std.proofs.Common.{◌≡◌, ◌∙◌, ◌<◌, ◌≤◌, ◌+◌, ◌++◌, ◌∷◌, [], ℕ, suc, List, Some, None, length, map, option_map}
use Rattle.std.proofs.Common.{slice_get, refl, sym, ap, subst, inl, inr, arith}
use Rattle.std.proofs.lemmas.List.{append-nil, length-append, map-append}
use Rattle.std.proofs.lemmas.Option.{slice_get-map, slice_get_within}
use Rattle.wb_lemmas.proofs.Places.{at_append, append_after, append_keeps, nothing_at}
use Rattle.wb_syntax_resolved.specs.declared.production.Production.{Production}
use Rattle.wb_syntax_resolved.specs.Owners.{Sees}
use Rattle.wb_compose_theory_grammar.proofs.PlaceLemmas.{lift_below, lift_past}
use Rattle.wb_compose_theory_attributes.specs.Numbers.{NumberMap}
use Rattle.wb_compose_theory_attributes.specs.Seen.{IsSeenProduction}
use Rattle.wb_compose_theory_attributes.proofs.SeenLemmas.{mapped}
use Rattle.wb_compose_theory_lists.specs.Additions.{Rows, Addition, nothing, IsOwn}
use Rattle.wb_compose_theory_lists.specs.Joined.{numbered}
use Rattle.wb_compose_theory_lists.specs.Numbers.{number_with, number_without, before_abstract, numbers_of}
use Rattle.wb_compose_theory_lists.specs.United.{host_production, own_production, united_productions}
use Rattle.wb_compose_theory_lists.proofs.EachLemmas.{IsView, of_host, of_own, numbered_first, grouped_placed, grouped_from}
use Rattle.wb_compose_theory_lists.proofs.JoinedLemmas.{numbered_at, numbered_length}
use Rattle.wb_compose_theory_lists.proofs.NumberLemmas.{without_own, without_past}
use Rattle.wb_compose_theory_lists.proofs.ProductionLemmas.{own_seen, host_seen}
use Rattle.wb_compose_theory_lists.proofs.MadeLemmas.{lead_are, follow_are}

-- a production of the host, or an extension's own, with its number there
pub data Source : Type 0 where
  from_host : ℕ → Production → Source
  from_own : ℕ → Production → Source

numbered_map : {X Y Z : Type 0} (f : ℕ → X → Y) (g : Y → Z) (number : ℕ) (xs : List X)
    → map g (numbered f number xs) ≡ numbered (λ i x. g (f i x)) number xs
numbered_map f g number [] = refl
numbered_map f g number (x ∷ xs) = ap (λ z. g (f number x) ∷ z) (numbered_map f g (suc number) xs)

module _ (host : Rows) (all : List Addition) (own : (l : ℕ) (y : Addition) → slice_get all l ≡ Some y → IsOwn y) (o k : ℕ) (x : Addition)
    (view : IsView all o k x) where
  abbrev moved : NumberMap
  moved = numbers_of host all k x

  abbrev lead : ℕ
  lead = length host.productions

  abbrev follow : ℕ
  follow = length host.abstract_productions

  abbrev mine : ℕ
  mine = length x.rows.productions

  -- the productions where the owner is alone with the host, and there
  abbrev pub row_of : Source → Production
  row_of (from_host m r) = host_production host (x ∷ []) m r
  row_of (from_own p r) = own_production host (x ∷ []) 0 x p r

  abbrev pub there_of : Source → Production
  there_of (from_host m r) = host_production host all m r
  there_of (from_own p r) = own_production host all k x p r

  abbrev first : List Source
  first = numbered from_host 0 host.productions

  abbrev second : List Source
  second = numbered from_own lead x.rows.productions

  abbrev third : List Source
  third = numbered from_host lead host.abstract_productions

  abbrev fourth : List Source
  fourth = numbered from_own (before_abstract host x) x.rows.abstract_productions

  abbrev pub sources : List Source
  sources = first ++ second ++ third ++ fourth

  rows_are : map row_of sources ≡ united_productions host (x ∷ [])
  rows_are =
      map-append row_of (first ++ second ++ third) fourth
      ∙ (ap (λ z. z ++ map row_of fourth) (map-append row_of (first ++ second) third)
      ∙ (ap (λ z. z ++ map row_of third ++ map row_of fourth) (map-append row_of first second)
      ∙ (ap (λ z. z ++ map row_of second ++ map row_of third ++ map row_of fourth) (numbered_map from_host row_of 0 host.productions)
      ∙ (ap (λ z. numbered (host_production host (x ∷ [])) 0 host.productions ++ z ++ map row_of third ++ map row_of fourth)
      (numbered_map from_own row_of lead x.rows.productions
      ∙ sym (append-nil (numbered (own_production host (x ∷ []) 0 x) lead x.rows.productions)))
      ∙ (ap (λ z. numbered (host_production host (x ∷ [])) 0 host.productions
      ++ (numbered (own_production host (x ∷ []) 0 x) lead x.rows.productions ++ []) ++ z ++ map row_of fourth)
      (numbered_map from_host row_of lead host.abstract_productions)
      ∙ ap (λ z. numbered (host_production host (x ∷ [])) 0 host.productions
      ++ (numbered (own_production host (x ∷ []) 0 x) lead x.rows.productions ++ [])
      ++ numbered (host_production host (x ∷ [])) lead host.abstract_productions ++ z)
      (numbered_map from_own row_of (before_abstract host x) x.rows.abstract_productions
      ∙ sym (append-nil (numbered (own_production host (x ∷ []) 0 x) (before_abstract host x) x.rows.abstract_productions))))))))

  abbrev lead_rows : ℕ → Addition → List Production
  lead_rows l y = numbered (own_production host all l y) lead y.rows.productions

  abbrev follow_rows : ℕ → Addition → List Production
  follow_rows l y = numbered (own_production host all l y) (before_abstract host y) y.rows.abstract_productions

  abbrev leading : List Production
  leading = numbered (host_production host all) 0 host.productions

  abbrev following : List Production
  following = numbered (host_production host all) lead host.abstract_productions

  there_are : map there_of sources ≡ leading ++ lead_rows k x ++ following ++ follow_rows k x
  there_are =
      map-append there_of (first ++ second ++ third) fourth
      ∙ (ap (λ z. z ++ map there_of fourth) (map-append there_of (first ++ second) third)
      ∙ (ap (λ z. z ++ map there_of third ++ map there_of fourth) (map-append there_of first second)
      ∙ (ap (λ z. z ++ map there_of second ++ map there_of third ++ map there_of fourth)
      (numbered_map from_host there_of 0 host.productions)
      ∙ (ap (λ z. leading ++ z ++ map there_of third ++ map there_of fourth) (numbered_map from_own there_of lead x.rows.productions)
      ∙ (ap (λ z. leading ++ lead_rows k x ++ z ++ map there_of fourth) (numbered_map from_host there_of lead host.abstract_productions)
      ∙ ap (λ z. leading ++ lead_rows k x ++ following ++ z)
      (numbered_map from_own there_of (before_abstract host x) x.rows.abstract_productions))))))

  -- the production at a number, and that at the new number
  pub row_at : (i : ℕ) → slice_get (united_productions host (x ∷ [])) i ≡ option_map row_of (slice_get sources i)
  row_at i = ap (λ z. slice_get z i) (sym rows_are) ∙ slice_get-map row_of sources i

  pub there_at : (i : ℕ) → slice_get (united_productions host all) (moved.production i) ≡ option_map there_of (slice_get sources i)
  there_at i =
      grouped_placed host all lead_rows follow_rows (λ (r : Production). r.owner) (λ (y : Addition). length y.rows.productions)
      (λ (y : Addition). length y.rows.abstract_productions) (lead_are host all own)
      (follow_are host all own) o k x view leading following lead follow
      (numbered_length (host_production host all) 0 host.productions)
      (numbered_length (host_production host all) lead host.abstract_productions) i
      ∙ (ap (λ z. slice_get z i) (sym there_are) ∙ slice_get-map there_of sources i)

  -- what a source has to do with its place
  abbrev pub IsAt : ℕ → Source → Type 0
  IsAt i (from_host m r) = (i ≡ number_with host x m) × (slice_get (host.productions ++ host.abstract_productions) m ≡ Some r)
      × (m < lead + follow)
  IsAt i (from_own p r) = (i ≡ p) × (number_without host x p ≡ None) × (o ≡ suc k)

  first_at : (i : ℕ) (s : Source) → slice_get first i ≡ Some s → IsAt i s
  first_at i s at =
      let (r, has, is) = mapped (from_host i) (slice_get host.productions i) s (sym (numbered_first from_host host.productions i) ∙ at) in
      let less : i < lead = slice_get_within host.productions i r has in
      subst (IsAt i) is (
        sym (lift_below lead mine i less),
        append_keeps host.productions host.abstract_productions i r has,
        omega (arith, less),
      )

  -- an extension that has something isn't the host
  is_own : (rows_of : Addition → List Production) → rows_of nothing ≡ [] → (j : ℕ) (r : Production) → slice_get (rows_of x) j ≡ Some r
      → IsView all o k x → o ≡ suc k
  is_own rows_of empty j r has (of_host is none) =
      absurd (nothing_at r j (subst (λ z. slice_get z j ≡ Some r) (ap rows_of none ∙ empty) has))
  is_own rows_of empty j r has (of_own is at) = is

  second_at : (i j : ℕ) (s : Source) → i ≡ lead + j → slice_get second j ≡ Some s → IsAt i s
  second_at i j s i_is at =
      let (r, has, is) = mapped (from_own (lead + j)) (slice_get x.rows.productions j) s
      (sym (numbered_at from_own lead x.rows.productions j) ∙ at) in
      let less : j < mine = slice_get_within x.rows.productions j r has in
      let far : lead ≤ lead + j = omega arith in
      let near : lead + j < lead + mine = omega (arith, less) in
      subst (IsAt i) is (
        i_is,
        without_own host x (lead + j) far near,
        is_own (λ (y : Addition). y.rows.productions) refl j r has view,
      )

  third_at : (i j : ℕ) (s : Source) → i ≡ (lead + mine) + j → slice_get third j ≡ Some s → IsAt i s
  third_at i j s i_is at =
      let (r, has, is) = mapped (from_host (lead + j)) (slice_get host.abstract_productions j) s
      (sym (numbered_at from_host lead host.abstract_productions j) ∙ at) in
      let less : j < follow = slice_get_within host.abstract_productions j r has in
      let far : lead ≤ lead + j = omega arith in
      let e : i ≡ (lead + j) + mine = omega (arith, i_is) in
      subst (IsAt i) is (
        e ∙ sym (lift_past lead mine (lead + j) far),
        append_after host.productions host.abstract_productions j ∙ has,
        omega (arith, less),
      )

  fourth_at : (i j : ℕ) (s : Source) → i ≡ before_abstract host x + j → slice_get fourth j ≡ Some s → IsAt i s
  fourth_at i j s i_is at =
      let (r, has, is) = mapped (from_own (before_abstract host x + j)) (slice_get x.rows.abstract_productions j) s
      (sym (numbered_at from_own (before_abstract host x) x.rows.abstract_productions j) ∙ at) in
      let far : lead + mine + follow ≤ before_abstract host x + j = omega arith in
      subst (IsAt i) is (
        i_is,
        without_past host x (before_abstract host x + j) far,
        is_own (λ (y : Addition). y.rows.abstract_productions) refl j r has view,
      )

  first_length : length first ≡ lead
  first_length = numbered_length from_host 0 host.productions

  second_length : length (first ++ second) ≡ lead + mine
  second_length =
      let sum = length-append first second in
      let one = first_length in
      let two = numbered_length from_own lead x.rows.productions in
      omega (arith, sum, one, two)

  third_length : length (first ++ second ++ third) ≡ before_abstract host x
  third_length =
      let sum = length-append (first ++ second) third in
      let one = second_length in
      let two = numbered_length from_host lead host.abstract_productions in
      omega (arith, sum, one, two)

  pub source_at : (i : ℕ) (s : Source) → slice_get sources i ≡ Some s → IsAt i s
  source_at i s at = elim (at_append (first ++ second ++ third) fourth s i at) [
    | inl here ↦ elim (at_append (first ++ second) third s i here) [
      | inl near ↦ elim (at_append first second s i near) [
        | inl one ↦ first_at i s one
        | inr (j, is, two) ↦ second_at i j s (is ∙ ap (λ z. z + j) first_length) two
      ]
      | inr (j, is, three) ↦ third_at i j s (is ∙ ap (λ z. z + j) second_length) three
    ]
    | inr (j, is, four) ↦ fourth_at i j s (is ∙ ap (λ z. z + j) third_length) four
  ]

  seen_at : (i : ℕ) (s : Source) → IsAt i s → IsSeenProduction moved o i (row_of s) (there_of s)
  seen_at i (from_host m r) (i_is, at, less) =
      subst (λ z. IsSeenProduction moved o z (host_production host (x ∷ []) m r) (host_production host all m r)) (sym i_is)
      (host_seen host all own o k x view m r at less)
  seen_at i (from_own p r) (i_is, without, same) =
      subst (λ z. IsSeenProduction moved o z (own_production host (x ∷ []) 0 x p r) (own_production host all k x p r)) (sym i_is)
      (own_seen host all own o k x view same p r without)

  pub productions_seen : (p : ℕ) (production : Production) → slice_get (united_productions host (x ∷ [])) p ≡ Some production
      → (there : Production) × (slice_get (united_productions host all) (moved.production p) ≡ Some there)
      × IsSeenProduction moved o p production there
  productions_seen p production at =
      let (s, has, is) = mapped row_of (slice_get sources p) production (sym (row_at p) ∙ at) in (
        there_of s,
        there_at p ∙ ap (option_map there_of) has,
        subst (λ z. IsSeenProduction moved o p z (there_of s)) is (seen_at p s (source_at p s has)),
      )

  pub productions_from : (number : ℕ) (there : Production) → slice_get (united_productions host all) number ≡ Some there
      → Sees o there.owner
      → (p : ℕ) × (from : Production) × (slice_get (united_productions host (x ∷ [])) p ≡ Some from) × (number ≡ moved.production p)
  productions_from number there at sees =
      let (p, is) = grouped_from host all lead_rows follow_rows (λ (r : Production). r.owner) (λ (y : Addition). length y.rows.productions)
      (λ (y : Addition). length y.rows.abstract_productions) (lead_are host all own)
      (follow_are host all own) o k x view leading following lead follow
      (numbered_length (host_production host all) 0 host.productions)
      (numbered_length (host_production host all) lead host.abstract_productions) number there at sees in
      let (s, has, same) = mapped there_of (slice_get sources p) there
      (sym (there_at p) ∙ (ap (slice_get (united_productions host all)) (sym is) ∙ at)) in
      (p, row_of s, row_at p ∙ ap (option_map row_of) has, is)
