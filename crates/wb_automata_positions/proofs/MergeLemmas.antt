-- A star that is the whole of a star is made one with it.
use Rattle.std.proofs.Common.{◌≡◌, ℕ, ◌+◌, ◌<◌, ◌≢◌, ◌⊎◌, List, refl, sym, ◌∙◌, ap, subst, arith, inl, inr, Some, length, get_or}
use Rattle.std.proofs.Common.{length-set, get_or-set_same, get_or-set_other, set}
use Rattle.std.specs.Prelude.{slice_get}
use Rattle.std.proofs.lemmas.Bool.{cases_eq, cases_lt}
use Rattle.std.proofs.lemmas.List.{get_or_default}
use Rattle.std.proofs.lemmas.Option.{same_Some, slice_get-get_or, slice_get_within}
use Rattle.wb_automata_positions.specs.declared.places.Place.{Place}
use Rattle.wb_automata_positions.specs.declared.places.Place.TheVariants as p
use Rattle.wb_automata_positions.specs.Places.{ArePlacesBelow, GoesBelow, GoesOn, Runs, moves}
use Rattle.wb_automata_positions.specs.Inner.Machines.{AreNextBelow}
use Rattle.wb_automata_positions.specs.Inner.Shortcuts.{AreIdentity, AreMerged, IsMergedAt, IsMove, IsPrepared, LeadsToo, Waits}
use Rattle.wb_automata_positions.proofs.EntryLemmas.{set_here, set_there}

-- before any is merged
pub merged_begin : (old : List Place) (entry : List ℕ) → ArePlacesBelow old → AreIdentity entry (length old)
    → AreMerged old old entry (length old)
merged_begin old entry below h = record {
  prepared = record {
    len = refl;
    entry_len = h.len;
    entry_below = λ i lt. omega (arith, h.each i lt);
    same = λ i lt. subst (λ z. LeadsToo old z i) (sym (h.each i lt)) (λ k x run. run);
    below = below;
    moves = λ i q m k x run. moves m.place q m.at m.goes run;
    waits = λ i place at w. at;
    kept = λ i place at w. (h.each i (slice_get_within old i place at), at);
    steps = λ i q m. inr (record {
      place = m.place;
      at = ap (slice_get old) (h.each i (slice_get_within old i m.place m.at)) ∙ m.at;
      goes = m.goes;
    });
  };
  within = omega arith;
  first = λ j lt. refl;
  own = λ j lt. h.each j lt;
  rises = λ j lt. omega (arith, h.each j lt);
  again = λ j lt. ap (λ z. get_or entry z 0) (h.each j lt);
}

-- one place less is as it was
merged_less : (old now : List Place) (entry : List ℕ) (i : ℕ) → AreMerged old now entry (i + 1) → AreMerged old now entry i
merged_less old now entry i h = record {
  prepared = h.prepared;
  within = (let w = h.within in omega arith);
  first = λ j lt. h.first j (omega arith);
  own = λ j lt. h.own j (omega arith);
  rises = h.rises;
  again = h.again;
}

fork_waits : (place : Place) (q r : ℕ) → place ≡ p.Fork q r → Waits place → ⊥
fork_waits place q r e w = subst Waits e w

module _ (old now : List Place) (entry : List ℕ) (q part next other : ℕ) (h : AreMerged old now entry (q + 1))
    (at : slice_get now q ≡ Some (p.Fork part next)) (later : q < next)
    (at_star : slice_get now (get_or entry next 0) ≡ Some (p.Fork q other)) where
  abbrev star : ℕ
  star = get_or entry next 0

  abbrev now' : List Place
  now' = set now star (p.Fork part other)

  abbrev entry' : List ℕ
  entry' = set entry q star

  in_old : q < length old
  in_old = (let w = h.within in omega arith)

  at_old : slice_get old q ≡ Some (p.Fork part next)
  at_old = sym (h.first q (omega arith)) ∙ at

  parts_below : GoesBelow (length now) (p.Fork part next)
  parts_below = h.prepared.below q (p.Fork part next) at

  next_below : next < length old
  next_below = let (lt, lt') = parts_below in omega (arith, h.prepared.len)

  star_below : star < length now
  star_below = slice_get_within now star (p.Fork q other) at_star

  after : q < star
  after = omega (arith, later, h.rises next next_below)

  apart : star ≢ q
  apart e = absurd (omega (arith, after))

  -- entries now
  here : get_or entry' q 0 ≡ star
  here = get_or-set_same entry q star 0 (omega (arith, h.prepared.entry_len, in_old))

  there : (j : ℕ) → j ≢ q → get_or entry' j 0 ≡ get_or entry j 0
  there j ne = get_or-set_other entry q j star 0 ne

  no_entry : (j : ℕ) → j ≢ q → j < length old → get_or entry j 0 ≢ q
  no_entry j ne lt e = elim (cases_lt j q) [
    | inl early ↦ ne (sym (h.own j (omega arith)) ∙ e)
    | inr past ↦ ne (let le = h.rises j lt in omega (arith, e))
  ]

  to_star : LeadsToo old q star
  to_star = h.prepared.moves star q (record { place = p.Fork q other; at = at_star; goes = inl refl })

  from_star : LeadsToo old star q
  from_star k x run = moves (p.Fork part next) next at_old (inr refl) (h.prepared.same next next_below k x run)

  -- what is at a place now
  star_now : slice_get now' star ≡ Some (p.Fork part other)
  star_now = set_here now star (p.Fork part other) star_below

  place_now : (j : ℕ) → j ≢ star → slice_get now' j ≡ slice_get now j
  place_now j ne = set_there now star j (p.Fork part other) ne

  star_place : (j : ℕ) (place : Place) → j ≡ star → slice_get now' j ≡ Some place → place ≡ p.Fork part other
  star_place j place e is = same_Some place (p.Fork part other) (sym is ∙ ap (slice_get now') e ∙ star_now)

  star_was : (j : ℕ) (place : Place) → j ≡ star → slice_get now j ≡ Some place → place ≡ p.Fork q other
  star_was j place e is = same_Some place (p.Fork q other) (sym is ∙ ap (slice_get now) e ∙ at_star)

  star_moves : (t : ℕ) → GoesOn (p.Fork part other) t → LeadsToo old t star
  star_moves t (inl e) k x run =
      to_star k x (moves (p.Fork part next) part at_old (inl refl) (subst (λ z. Runs old z k x) e run))
  star_moves t (inr e) k x run = h.prepared.moves star t (record { place = p.Fork q other; at = at_star; goes = inr e }) k x run

  own_steps : (t : ℕ) → GoesOn (p.Fork part next) t → (get_or entry' t 0 ≡ get_or entry' q 0) ⊎ IsMove now' (get_or entry' q 0) t
  own_steps t (inl e) = inr (record { place = p.Fork part other; at = ap (slice_get now') here ∙ star_now; goes = inl e })
  own_steps t (inr e) =
      inl (there t (λ f. absurd (omega (arith, later))) ∙ ap (λ z. get_or entry z 0) e ∙ sym here)

  star_steps : (j t : ℕ) → j ≢ q → get_or entry j 0 ≡ star → GoesOn (p.Fork q other) t
      → (get_or entry' t 0 ≡ get_or entry' j 0) ⊎ IsMove now' (get_or entry' j 0) t
  star_steps j t ne is (inl e) = inl (ap (λ z. get_or entry' z 0) e ∙ here ∙ sym is ∙ sym (there j ne))
  star_steps j t ne is (inr e) =
      inr (record { place = p.Fork part other; at = ap (slice_get now') (there j ne ∙ is) ∙ star_now; goes = inr e })

  other_steps : (j t : ℕ) → j ≢ q → j < length old → (get_or entry t 0 ≡ get_or entry j 0) ⊎ IsMove now (get_or entry j 0) t
      → (get_or entry' t 0 ≡ get_or entry' j 0) ⊎ IsMove now' (get_or entry' j 0) t
  other_steps j t ne lt (inl same) = elim (cases_eq t q) [
    | inl e ↦ absurd (no_entry j ne lt (sym same ∙ ap (λ z. get_or entry z 0) e ∙ h.own q (omega arith)))
    | inr ne' ↦ inl (there t ne' ∙ same ∙ sym (there j ne))
  ]
  other_steps j t ne lt (inr m) = elim (cases_eq (get_or entry j 0) star) [
    | inl is ↦ star_steps j t ne is (subst (λ z. GoesOn z t) (star_was (get_or entry j 0) m.place is m.at) m.goes)
    | inr ne' ↦ inr (record {
      place = m.place;
      at = ap (slice_get now') (there j ne) ∙ place_now (get_or entry j 0) ne' ∙ m.at;
      goes = m.goes;
    })
  ]

  prepared_one : IsPrepared old now' entry'
  prepared_one = record {
    len = length-set now star (p.Fork part other) ∙ h.prepared.len;
    entry_len = length-set entry q star ∙ h.prepared.entry_len;
    entry_below = λ j lt. elim (cases_eq j q) [
      | inl e ↦ omega (arith, ap (λ z. get_or entry' z 0) e, here, star_below, h.prepared.len)
      | inr ne ↦ omega (arith, there j ne, h.prepared.entry_below j lt)
    ];
    same = λ j lt. elim (cases_eq j q) [
      | inl e ↦ subst (LeadsToo old (get_or entry' j 0)) (sym e)
          (subst (λ z. LeadsToo old z q) (sym (ap (λ z. get_or entry' z 0) e ∙ here)) from_star)
      | inr ne ↦ subst (λ z. LeadsToo old z j) (sym (there j ne)) (h.prepared.same j lt)
    ];
    below = λ j place is. subst (λ z. GoesBelow z place) (sym (length-set now star (p.Fork part other))) (elim (cases_eq j star) [
      | inl e ↦ subst (GoesBelow (length now)) (sym (star_place j place e is))
          (let (lt, _) = parts_below in let (_, lt') = h.prepared.below star (p.Fork q other) at_star in (lt, lt'))
      | inr ne ↦ h.prepared.below j place (sym (place_now j ne) ∙ is)
    ]);
    moves = λ j t m. elim (cases_eq j star) [
      | inl e ↦ subst (LeadsToo old t) (sym e) (star_moves t (subst (λ z. GoesOn z t) (star_place j m.place e m.at) m.goes))
      | inr ne ↦ h.prepared.moves j t (record { place = m.place; at = sym (place_now j ne) ∙ m.at; goes = m.goes })
    ];
    waits = λ j place is w. elim (cases_eq j star) [
      | inl e ↦ absurd (fork_waits place part other (star_place j place e is) w)
      | inr ne ↦ h.prepared.waits j place (sym (place_now j ne) ∙ is) w
    ];
    kept = λ j place is w.
        let (own, stays) = h.prepared.kept j place is w in (
          elim (cases_eq j q) [
            | inl e ↦ absurd (fork_waits place part next (same_Some place (p.Fork part next) (sym is ∙ ap (slice_get old) e ∙ at_old)) w)
            | inr ne ↦ there j ne ∙ own
          ],
          elim (cases_eq j star) [
            | inl e ↦ absurd (fork_waits place q other (star_was j place e stays) w)
            | inr ne ↦ place_now j ne ∙ stays
          ],
        );
    steps = λ j t m. elim (cases_eq j q) [
      | inl e ↦ subst (λ z. (get_or entry' t 0 ≡ get_or entry' z 0) ⊎ IsMove now' (get_or entry' z 0) t) (sym e) (own_steps t
          (subst (λ z. GoesOn z t) (same_Some m.place (p.Fork part next) (sym m.at ∙ ap (slice_get old) e ∙ at_old)) m.goes))
      | inr ne ↦ other_steps j t ne (slice_get_within old j m.place m.at) (h.prepared.steps j t m)
    ];
  }

  merged_one : AreMerged old now' entry' q
  merged_one = record {
    prepared = prepared_one;
    within = (let w = h.within in omega arith);
    first = λ j lt. place_now j (λ e. absurd (omega (arith, after))) ∙ h.first j (omega arith);
    own = λ j lt. there j (λ e. absurd (omega arith)) ∙ h.own j (omega arith);
    rises = λ j lt. elim (cases_eq j q) [
      | inl e ↦ omega (arith, ap (λ z. get_or entry' z 0) e, here, after)
      | inr ne ↦ omega (arith, there j ne, h.rises j lt)
    ];
    again = λ j lt. elim (cases_eq j q) [
      | inl e ↦
          let is : get_or entry' j 0 ≡ star = ap (λ z. get_or entry' z 0) e ∙ here in
          ap (λ z. get_or entry' z 0) is ∙ there star apart ∙ h.again next next_below ∙ sym is
      | inr ne ↦ ap (λ z. get_or entry' z 0) (there j ne) ∙ there (get_or entry j 0) (no_entry j ne lt) ∙ h.again j lt ∙ sym (there j ne)
    ];
  }

-- one place more
pub merged_more : (old now now' : List Place) (entry entry' : List ℕ) (i : ℕ) → AreMerged old now entry (i + 1)
    → IsMergedAt i now entry now' entry' → AreMerged old now' entry' i
merged_more old now now' entry entry' i h (inl (e, f)) =
    subst (λ z. AreMerged old z entry' i) (sym e) (subst (λ z. AreMerged old now z i) (sym f) (merged_less old now entry i h))
merged_more old now now' entry entry' i h (inr o) =
    subst (λ z. AreMerged old z entry' i) (sym o.places_are) (subst
    (λ z. AreMerged old (set now (get_or entry o.next 0) (p.Fork o.part o.other)) z i) (sym o.entry_is)
    (merged_one old now entry i o.part o.next o.other h o.at o.later o.at_star))

-- where the choice at a place goes on is a place
pub next_in : (places : List Place) (i : ℕ) (d place : Place) (part next : ℕ) → ArePlacesBelow places → i < length places
    → place ≡ get_or places i d → place ≡ p.Fork part next → next < length places
next_in places i d place part next below lt e f =
    let (_, lt') = below i (p.Fork part next) (slice_get-get_or places i d lt ∙ ap Some (sym e ∙ f)) in lt'

-- and so is the entry of where it goes on
pub star_in : (places : List Place) (entry : List ℕ) (next star e : ℕ) → AreNextBelow (length places) entry → next < length entry
    → star ≡ get_or entry next e → star < length places
star_in places entry next star e below lt is =
    subst (λ z. z < length places) (sym (is ∙ get_or_default entry next e 0 lt)) (below next lt)

-- a choice and the star that leads to it
pub one_with : (i : ℕ) (places : List Place) (entry : List ℕ) (d d' place star_place : Place) (e part next body other star : ℕ)
    → i < length places → place ≡ get_or places i d → place ≡ p.Fork part next → i < next → next < length entry → star < length places
    → star ≡ get_or entry next e → star_place ≡ get_or places star d' → star_place ≡ p.Fork body other → body ≡ i
    → IsMergedAt i places entry (set places star (p.Fork part other)) (set entry i star)
one_with i places entry d d' place star_place e part next body other star lt is f later next_lt star_lt star_is star_at g same =
    let star' : star ≡ get_or entry next 0 = star_is ∙ get_or_default entry next e 0 next_lt in
    inr (record {
      part = part;
      next = next;
      other = other;
      at = slice_get-get_or places i d lt ∙ ap Some (sym is ∙ f);
      later = later;
      at_star = subst (λ z. slice_get places z ≡ Some (p.Fork i other)) star'
          (slice_get-get_or places star d' star_lt ∙ ap Some (sym star_at ∙ g ∙ ap (λ z. p.Fork z other) same));
      places_are = ap (λ z. set places z (p.Fork part other)) star';
      entry_is = ap (set entry i) star';
    })
