-- Pairs of places: what is met, and what leads from a pair to two ends leads there from a pair before it.
use Rattle.std.proofs.Common.{◌≡◌, ℕ, ◌+◌, ◌*◌, ◌/◌, ◌%◌, ◌≤◌, ◌<◌, ◌⊎◌, Bool, false, List, [], ◌∷◌, ◌++◌, refl, sym, ◌∙◌, ap}
use Rattle.std.proofs.Common.{subst, arith, inl, inr, Some, length, get_or, take, append_assoc, append-nil}
use Rattle.std.specs.Prelude.{slice_get, Contains}
use Rattle.std.proofs.lemmas.List.{get_or_default, take_all}
use Rattle.std.proofs.lemmas.List.Elements.{Contains-append_left, Contains-push, Contains-push_cases}
use Rattle.std.proofs.lemmas.Nat.{div-mul-add, mod-mul-add}
use Rattle.std.proofs.Math.Nat.{mod-lt}
use Rattle.std.proofs.lemmas.Option.{slice_get-get_or}
use Rattle.wb_automata_positions.specs.declared.places.Place.{Place}
use Rattle.wb_automata_positions.specs.declared.places.Place.TheVariants as p
use Rattle.wb_automata_positions.specs.Places.{ArePlacesBelow, GoesBelow, GoesOn, ReadsTo, Runs, reads, moves}
use Rattle.wb_automata_positions.proofs.MachineLemmas.{taken, none_taken}
use Rattle.wb_automata.specs.declared.steps.Steps.{Steps}
use Rattle.wb_automata.specs.declared.steps.Steps.TheVariants.{Still}
use Rattle.wb_automata.specs.Inner.Pairs.{Adds, Any, IsAfter, LeadTo}
use Rattle.wb_automata.specs.Inner.Pairs.{bare_steps, both_steps, is_stuck, left_of, pair_steps, place_at, right_of, right_steps, steps_of}
use Rattle.wb_automata.specs.Inner.Stuck.{are_stuck}
use Rattle.wb_automata_positions.proofs.RunLemmas.{RunsIn}
use Rattle.wb_automata.proofs.StuckLemmas.{open_both, opens, unstuck_back, unstuck_on}

pub none_in : (c : ℕ) → Contains [] c → ⊥
none_in c (k, lt, is) = absurd (omega arith)

-- nothing is wanted
pub adds_none : (wanted : ℕ → Type 0) (met next : List ℕ) → ((d : ℕ) → wanted d → ⊥) → Adds wanted met next met next
adds_none wanted met next none = record {
  more = [];
  extends = sym (append-nil next);
  keeps = λ d h. h;
  only = λ d h. inl h;
  sound = λ d h. inl h;
  marked = λ d h. inl h;
  all = λ d want. absurd (none d want);
}

-- one thing and then another
pub adds_both : (one other : ℕ → Type 0) (met met' met'' next next' next'' : List ℕ) → Adds one met next met' next'
    → Adds other met' next' met'' next'' → Adds (λ d. one d ⊎ other d) met next met'' next''
adds_both one other met met' met'' next next' next'' h k = record {
  more = h.more ++ k.more;
  extends = k.extends ∙ ap (λ z. z ++ k.more) h.extends ∙ append_assoc next h.more k.more;
  keeps = λ d a. k.keeps d (h.keeps d a);
  only = λ d a. elim (k.only d a) [
    | inr has ↦ inr has
    | inl b ↦ elim (h.only d b) [
      | inl before ↦ inl before
      | inr has ↦ inr (subst (λ z. Contains z d) (sym k.extends) (Contains-append_left next' k.more d has))
    ]
  ];
  sound = λ d a. elim (k.sound d a) [
    | inr want ↦ inr (inr want)
    | inl b ↦ elim (h.sound d b) [ inl before ↦ inl before | inr want ↦ inr (inl want) ]
  ];
  marked = λ d a. elim (k.marked d a) [
    | inr m ↦ inr m
    | inl b ↦ elim (h.marked d b) [ inl before ↦ inl before | inr m ↦ inr (k.keeps d m) ]
  ];
  all = λ d want. elim want [ inl a ↦ k.keeps d (h.all d a) | inr b ↦ k.all d b ];
}

-- what is wanted, in other words
pub adds_same : (wanted other : ℕ → Type 0) (met next met' next' : List ℕ) → ((d : ℕ) → wanted d → other d) →
    ((d : ℕ) → other d → wanted d) → Adds wanted met next met' next' → Adds other met next met' next'
adds_same wanted other met next met' next' f g h = record {
  more = h.more;
  extends = h.extends;
  keeps = h.keeps;
  only = h.only;
  sound = λ d has. elim (h.sound d has) [ inl before ↦ inl before | inr want ↦ inr (f d want) ];
  marked = h.marked;
  all = λ d want. h.all d (g d want);
}

-- a pair that wasn't met
pub adds_new : (met met' next next' : List ℕ) (c : ℕ) → met' ≡ met ++ c ∷ [] → next' ≡ next ++ c ∷ []
    → Adds (λ d. d ≡ c) met next met' next'
adds_new met met' next next' c e f = record {
  more = c ∷ [];
  extends = f;
  keeps = λ d h. subst (λ z. Contains z d) (sym e) (Contains-append_left met (c ∷ []) d h);
  only = λ d h. elim (Contains-push_cases met c d (subst (λ z. Contains z d) e h)) [
    | inl before ↦ inl before
    | inr same ↦ inr (subst (Contains next') same (subst (λ z. Contains z c) (sym f) (Contains-push next c)))
  ];
  sound = λ d h. elim (Contains-push_cases next c d (subst (λ z. Contains z d) f h)) [ inl before ↦ inl before | inr same ↦ inr (sym same) ];
  marked = λ d h. elim (Contains-push_cases next c d (subst (λ z. Contains z d) f h)) [
    | inl before ↦ inl before
    | inr same ↦ inr (subst (Contains met') same (subst (λ z. Contains z c) (sym e) (Contains-push met c)))
  ];
  all = λ d same. subst (Contains met') (sym same) (subst (λ z. Contains z c) (sym e) (Contains-push met c));
}

-- a pair that was
pub adds_old : (met met' next : List ℕ) (c : ℕ) → met' ≡ met → Contains met c → Adds (λ d. d ≡ c) met next met' next
adds_old met met' next c e has = record {
  more = [];
  extends = sym (append-nil next);
  keeps = λ d h. subst (λ z. Contains z d) (sym e) h;
  only = λ d h. inl (subst (λ z. Contains z d) e h);
  sound = λ d h. inl h;
  marked = λ d h. inl h;
  all = λ d same. subst (λ z. Contains z d) (sym e) (subst (Contains met) (sym same) has);
}

pub adds_begin : (xs : List ℕ) (P : ℕ → ℕ → Type 0) (met next : List ℕ) → Adds (Any (take 0 xs) P) met next met next
adds_begin xs P met next = adds_none (Any (take 0 xs) P) met next (λ d want. none_taken xs want.one want.has)

-- those of one element more
pub adds_more : (xs : List ℕ) (i : ℕ) (P : ℕ → ℕ → Type 0) (f f' f'' m m' m'' : List ℕ) → i < length xs
    → Adds (P (get_or xs i 0)) f' m' f'' m'' → Adds (Any (take i xs) P) f m f' m' → Adds (Any (take (i + 1) xs) P) f m f'' m''
adds_more xs i P f f' f'' m m' m'' lt k h = adds_same (λ d. Any (take i xs) P d ⊎ P (get_or xs i 0) d) (Any (take (i + 1) xs) P) f m f'' m''
    (λ d want. elim want [
      | inl a ↦ record { one = a.one; has = (taken xs i a.one lt).1 (inl a.has); is = a.is }
      | inr b ↦ record { one = get_or xs i 0; has = (taken xs i (get_or xs i 0) lt).1 (inr refl); is = b }
    ]) (λ d want. elim ((taken xs i want.one lt).0 want.has) [
      | inl a ↦ inl (record { one = want.one; has = a; is = want.is })
      | inr e ↦ inr (subst (λ z. P z d) (sym e) want.is)
    ]) (adds_both (Any (take i xs) P) (P (get_or xs i 0)) f f' f'' m m' m'' h k)

pub adds_end : (xs : List ℕ) (i : ℕ) (P : ℕ → ℕ → Type 0) (f f' m m' : List ℕ) → length xs ≤ i
    → Adds (Any (take i xs) P) f m f' m' → Adds (Any xs P) f m f' m'
adds_end xs i P f f' m m' le h = subst (λ z. Adds (Any z P) f m f' m') (take_all i xs le) h

-- the places of a pair
pub places_of_pair : (m left right d : ℕ) → right < m → d ≡ left * m + right → (d / m ≡ left) × (d % m ≡ right)
places_of_pair m left right d lt e =
    (ap (λ z. z / m) e ∙ div-mul-add left m right lt, ap (λ z. z % m) e ∙ mod-mul-add left m right lt)

module _ (places : List Place) where
  pub right_below : (c : ℕ) → left_of places c < length places → right_of places c < length places
  right_below c lt = mod-lt c (omega arith)

  pub place_is : (i : ℕ) → i < length places → slice_get places i ≡ Some (place_at places i)
  place_is i lt = slice_get-get_or places i (p.End 0) lt

  -- whether a pair is stuck, by what is at its places
  pub stuck_is : (c : ℕ) (d d' : Place) (r : Bool) → left_of places c < length places
      → r ≡ are_stuck (get_or places (left_of places c) d) (get_or places (right_of places c) d') → r ≡ is_stuck places c
  stuck_is c d d' r lt e = e
      ∙ ap (λ z. are_stuck z (get_or places (right_of places c) d')) (get_or_default places (left_of places c) d (p.End 0) lt)
      ∙ ap (λ z. are_stuck (place_at places (left_of places c)) z)
      (get_or_default places (right_of places c) d' (p.End 0) (right_below c lt))

  -- what is at a place goes on at places
  pub goes_below : (i q : ℕ) (place : Place) → ArePlacesBelow places → slice_get places i ≡ Some place → GoesOn place q → q < length places
  goes_below i q place below at goes = lemma place (below i place at) goes
    where
      lemma : (place : Place) → GoesBelow (length places) place → GoesOn place q → q < length places
      lemma (p.Read words next) lt h = absurd h
      lemma (p.Go next) lt h = omega arith
      lemma (p.Fork next other) (lt, lt') (inl h) = omega arith
      lemma (p.Fork next other) (lt, lt') (inr h) = omega arith
      lemma (p.End number) lt h = absurd h

  pub reads_below : (i b q : ℕ) (place : Place) → ArePlacesBelow places → slice_get places i ≡ Some place → ReadsTo place b q
      → q < length places
  reads_below i b q place below at goes = lemma place (below i place at) goes
    where
      lemma : (place : Place) → GoesBelow (length places) place → ReadsTo place b q → q < length places
      lemma (p.Read words next) lt (holds, h) = omega arith
      lemma (p.Go next) lt h = absurd h
      lemma (p.Fork next other) lt h = absurd h
      lemma (p.End number) lt h = absurd h

  -- one of the two places of a pair goes on, and the other stays
  pub record IsStep (c d : ℕ) : Type 0 where
    pub left : ℕ
    pub right : ℕ
    pub pair : d ≡ left * length places + right
    pub goes : (GoesOn (place_at places (left_of places c)) left × (right ≡ right_of places c)) ⊎
        ((left ≡ left_of places c) × GoesOn (place_at places (right_of places c)) right)

  right_step : (left right d : ℕ) (y : Place) → LeadTo (right_steps (left * length places) (steps_of y)) d
      → (q : ℕ) × (d ≡ left * length places + q) × GoesOn y q
  right_step left right d (p.Read words next) h = absurd h
  right_step left right d (p.Go next) h = (next, h, refl)
  right_step left right d (p.Fork next other) (inl h) = (next, h, inl refl)
  right_step left right d (p.Fork next other) (inr h) = (other, h, inr refl)
  right_step left right d (p.End number) h = absurd h

  step_by : (c d : ℕ) (x : Place) → x ≡ place_at places (left_of places c)
      → LeadTo (both_steps (length places) (left_of places c) (right_of places c) (steps_of x) (steps_of (place_at places (right_of places c)))) d
      → IsStep c d
  step_by c d (p.Read words next) e h =
      let (q, f, goes) = right_step (left_of places c) (right_of places c) d (place_at places (right_of places c)) h in
      record { left = left_of places c; right = q; pair = f; goes = inr (refl, goes) }
  step_by c d (p.Go next) e h =
      record { left = next; right = right_of places c; pair = h; goes = inl (subst (λ z. GoesOn z next) e refl, refl) }
  step_by c d (p.Fork next other) e (inl h) =
      record { left = next; right = right_of places c; pair = h; goes = inl (subst (λ z. GoesOn z next) e (inl refl), refl) }
  step_by c d (p.Fork next other) e (inr h) =
      record { left = other; right = right_of places c; pair = h; goes = inl (subst (λ z. GoesOn z other) e (inr refl), refl) }
  step_by c d (p.End number) e h =
      let (q, f, goes) = right_step (left_of places c) (right_of places c) d (place_at places (right_of places c)) h in
      record { left = left_of places c; right = q; pair = f; goes = inr (refl, goes) }

  bare_step : (c d : ℕ) → LeadTo (bare_steps places c) d → IsStep c d
  bare_step c d h = step_by c d (place_at places (left_of places c)) refl h

  pub step_of : (c d : ℕ) → LeadTo (pair_steps places c) d → IsStep c d
  step_of c d h = bare_step c d (unstuck_back places (bare_steps places c) d h)

  -- the places of what a pair goes on to
  pub record AreAt (d left right : ℕ) : Type 0 where
    pub left_is : left_of places d ≡ left
    pub right_is : right_of places d ≡ right
    pub left_below : left < length places

  pub step_at : (c d : ℕ) (s : IsStep c d) → ArePlacesBelow places → left_of places c < length places → AreAt d s.left s.right
  step_at c d s below lt =
      let right_lt = right_below c lt in
      elim s.goes [
        | inl (goes, e) ↦
            let (l, r) = places_of_pair (length places) s.left s.right d (omega arith) s.pair in
            record {
              left_is = l;
              right_is = r;
              left_below = goes_below (left_of places c) s.left (place_at places (left_of places c)) below (place_is (left_of places c) lt) goes;
            }
        | inr (e, goes) ↦
            let small = goes_below (right_of places c) s.right (place_at places (right_of places c)) below
            (place_is (right_of places c) right_lt) goes in
            let (l, r) = places_of_pair (length places) s.left s.right d small s.pair in
            record { left_is = l; right_is = r; left_below = omega arith }
      ]

  -- what leads from there to two ends leads there from the pair
  pub step_back : (c d i j : ℕ) (x : List ℕ) → ArePlacesBelow places → left_of places c < length places → LeadTo (pair_steps places c) d
      → Runs places (left_of places d) i x → Runs places (right_of places d) j x
      → Runs places (left_of places c) i x × Runs places (right_of places c) j x
  step_back c d i j x below lt h f g =
      let s = step_of c d h in
      let a = step_at c d s below lt in
      let f' = subst (λ z. Runs places z i x) a.left_is f in
      let g' = subst (λ z. Runs places z j x) a.right_is g in
      elim s.goes [
        | inl (goes, e) ↦ (
          moves (place_at places (left_of places c)) s.left (place_is (left_of places c) lt) goes f',
          subst (λ z. Runs places z j x) e g',
        )
        | inr (e, goes) ↦ (
          subst (λ z. Runs places z i x) e f',
          moves (place_at places (right_of places c)) s.right (place_is (right_of places c) (right_below c lt)) goes g',
        )
      ]

  pub step_left : (c d : ℕ) → ArePlacesBelow places → left_of places c < length places → LeadTo (pair_steps places c) d
      → left_of places d < length places
  step_left c d below lt h =
      let s = step_of c d h in let a = step_at c d s below lt in subst (λ z. z < length places) (sym a.left_is) a.left_below

  pub bare_left : (c d : ℕ) → ArePlacesBelow places → left_of places c < length places → LeadTo (bare_steps places c) d
      → left_of places d < length places
  bare_left c d below lt h =
      let s = bare_step c d h in let a = step_at c d s below lt in subst (λ z. z < length places) (sym a.left_is) a.left_below

  pub bare_is : (c : ℕ) (d d' : Place) (steps lefts rights : Steps) → left_of places c < length places
      → steps ≡ both_steps (length places) (left_of places c) (right_of places c) lefts rights
      → lefts ≡ steps_of (get_or places (left_of places c) d) → rights ≡ steps_of (get_or places (right_of places c) d')
      → steps ≡ bare_steps places c
  bare_is c d d' steps lefts rights lt e f g = e
      ∙ ap (λ z. both_steps (length places) (left_of places c) (right_of places c) z rights)
      (f ∙ ap steps_of (get_or_default places (left_of places c) d (p.End 0) lt))
      ∙ ap (λ z. both_steps (length places) (left_of places c) (right_of places c) (steps_of (place_at places (left_of places c))) z)
      (g ∙ ap steps_of (get_or_default places (right_of places c) d' (p.End 0) (right_below c lt)))

  -- where the left place goes on, and where the right one does while the left one waits
  left_leads : (m left right q : ℕ) (x : Place) (steps : Steps) → GoesOn x q → LeadTo (both_steps m left right (steps_of x) steps) (q * m + right)
  left_leads m left right q (p.Read words next) steps h = absurd h
  left_leads m left right q (p.Go next) steps h = ap (λ z. z * m + right) h
  left_leads m left right q (p.Fork next other) steps (inl h) = inl (ap (λ z. z * m + right) h)
  left_leads m left right q (p.Fork next other) steps (inr h) = inr (ap (λ z. z * m + right) h)
  left_leads m left right q (p.End number) steps h = absurd h

  right_leads : (first q : ℕ) (y : Place) → GoesOn y q → LeadTo (right_steps first (steps_of y)) (first + q)
  right_leads first q (p.Read words next) h = absurd h
  right_leads first q (p.Go next) h = ap (λ z. first + z) h
  right_leads first q (p.Fork next other) (inl h) = inl (ap (λ z. first + z) h)
  right_leads first q (p.Fork next other) (inr h) = inr (ap (λ z. first + z) h)
  right_leads first q (p.End number) h = absurd h

  pub leads_left : (c q : ℕ) → is_stuck places (q * length places + right_of places c) ≡ false
      → GoesOn (place_at places (left_of places c)) q → LeadTo (pair_steps places c) (q * length places + right_of places c)
  leads_left c q goes_on h = unstuck_on places (bare_steps places c) (q * length places + right_of places c) goes_on
      (left_leads (length places) (left_of places c) (right_of places c) q (place_at places (left_of places c))
      (steps_of (place_at places (right_of places c))) h)

  pub leads_right : (c q : ℕ) → is_stuck places (left_of places c * length places + q) ≡ false
      → steps_of (place_at places (left_of places c)) ≡ Still → GoesOn (place_at places (right_of places c)) q
      → LeadTo (pair_steps places c) (left_of places c * length places + q)
  leads_right c q goes_on still h = unstuck_on places (bare_steps places c) (left_of places c * length places + q) goes_on
      (subst (λ z. LeadTo (both_steps (length places) (left_of places c) (right_of places c) z
      (steps_of (place_at places (right_of places c)))) (left_of places c * length places + q)) (sym still)
      (right_leads (left_of places c * length places) q (place_at places (right_of places c)) h))

  -- from a pair from which a text leads to two ends one goes on
  pub both_open : (d n k i j : ℕ) (x : List ℕ) → left_of places d < length places → RunsIn places n (left_of places d) i x
      → RunsIn places k (right_of places d) j x → is_stuck places d ≡ false
  both_open d n k i j x lt f g = open_both (place_at places (left_of places d)) (place_at places (right_of places d)) x
      (opens (place_at places (left_of places d)) (place_is (left_of places d) lt) f)
      (opens (place_at places (right_of places d)) (place_is (right_of places d) (right_below d lt)) g)

  -- the pair after a byte
  pub after_at : (b c d : ℕ) (a : IsAfter places b c d) → ArePlacesBelow places → left_of places c < length places → AreAt d a.left a.right
  after_at b c d a below lt =
      let right_lt = right_below c lt in
      let small = reads_below (right_of places c) b a.right (place_at places (right_of places c)) below (place_is (right_of places c) right_lt)
      a.right_reads in
      let (l, r) = places_of_pair (length places) a.left a.right d small a.pair in
      record {
        left_is = l;
        right_is = r;
        left_below = reads_below (left_of places c) b a.left (place_at places (left_of places c)) below (place_is (left_of places c) lt)
            a.left_reads;
      }

  pub after_back : (b c d i j : ℕ) (x : List ℕ) → ArePlacesBelow places → left_of places c < length places → IsAfter places b c d
      → Runs places (left_of places d) i x → Runs places (right_of places d) j x
      → Runs places (left_of places c) i (b ∷ x) × Runs places (right_of places c) j (b ∷ x)
  after_back b c d i j x below lt a f g =
      let at = after_at b c d a below lt in (
        reads (place_at places (left_of places c)) b a.left (place_is (left_of places c) lt) a.left_reads
            (subst (λ z. Runs places z i x) at.left_is f) refl,
        reads (place_at places (right_of places c)) b a.right (place_is (right_of places c) (right_below c lt)) a.right_reads
            (subst (λ z. Runs places z j x) at.right_is g) refl,
      )

  pub after_left : (b c d : ℕ) → ArePlacesBelow places → left_of places c < length places → IsAfter places b c d
      → left_of places d < length places
  after_left b c d below lt a =
      let at = after_at b c d a below lt in subst (λ z. z < length places) (sym at.left_is) at.left_below

-- a place that reads or ends waits
pub reads_still : (x : Place) (b q : ℕ) → ReadsTo x b q → steps_of x ≡ Still
reads_still (p.Read words next) b q h = refl
reads_still (p.Go next) b q h = absurd h
reads_still (p.Fork next other) b q h = absurd h
reads_still (p.End number) b q h = absurd h

pub end_still : (x : Place) (k : ℕ) → x ≡ p.End k → steps_of x ≡ Still
end_still x k e = ap steps_of e

-- only bytes are read
pub reads_byte : (x : Place) (b q : ℕ) → ReadsTo x b q → b < 256
reads_byte (p.Read words next) b q (holds, e) = holds.0
reads_byte (p.Go next) b q h = absurd h
reads_byte (p.Fork next other) b q h = absurd h
reads_byte (p.End number) b q h = absurd h
