-- What a walk over pairs says: texts that lead to two ends lead to a group that has them.
use Rattle.std.proofs.Common.{◌≡◌, ℕ, zero, suc, ◌+◌, ◌*◌, ◌≤◌, ◌<◌, ◌⊎◌, List, [], ◌∷◌, ◌++◌, refl, sym, ◌∙◌, ap, subst, arith, inl, inr, length}
use Rattle.std.proofs.Common.{Some, length-append, append_assoc, append-nil}
use Rattle.std.specs.Prelude.{slice_get, Contains}
use Rattle.std.proofs.lemmas.Bool.{cases_lt, cases_eq}
use Rattle.std.proofs.lemmas.Option.{same_Some}
use Rattle.wb_automata_positions.specs.declared.places.Place.{Place}
use Rattle.wb_automata_positions.specs.declared.places.Place.TheVariants as p
use Rattle.wb_automata_positions.specs.Places.{ended, GoesOn, ReadsTo}
use Rattle.wb_automata_positions.specs.Rows.{row}
use Rattle.wb_automata_positions.proofs.RunLemmas.{RunsIn, stop, read, move, counted}
use Rattle.wb_automata.specs.Automata.{Path}
use Rattle.wb_automata.specs.Inner.Found.{on}
use Rattle.wb_automata.specs.Inner.Endings.{IsFirstEnding}
use Rattle.wb_automata.specs.Inner.Pairs.{AreAllMet, AreEnds, AreMet, HasEnds, IsAfter, IsBegun, IsLed, LeadsToBoth, Met}
use Rattle.wb_automata.specs.Inner.Pairs.{left_of, path_at, place_at, right_of, steps_of}
use Rattle.wb_automata.proofs.LeastLemmas.{at_most}
use Rattle.wb_automata.proofs.OrderLemmas.{IsLatest, latest_more, latest_next}
use Rattle.wb_automata.proofs.PairLemmas.{both_open, end_still, goes_below, leads_left, leads_right, place_is, places_of_pair}
use Rattle.wb_automata.proofs.PairLemmas.{reads_below, reads_still, right_below}
use Rattle.wb_automata.specs.declared.steps.Steps.TheVariants.{Still}

-- the path with more bytes after it
abbrev pub onto : Path → List ℕ → Path
onto path x = record { set = path.set; text = path.text ++ x }

onto_on : (path : Path) (b : ℕ) (x : List ℕ) → onto (on path b) x ≡ onto path (b ∷ x)
onto_on path b x = ap (λ z. onto (record { set = path.set; text = [] }) z) (append_assoc path.text (b ∷ []) x)

onto_none : (path : Path) → onto path [] ≡ path
onto_none path = ap (λ z. onto (record { set = path.set; text = [] }) z) (append-nil path.text)

latest_onto : (x : List ℕ) (p q : Path) → IsLatest q p → IsLatest (onto q x) (onto p x)
latest_onto [] p q h = subst (λ z. IsLatest z (onto p [])) (sym (onto_none q)) (subst (IsLatest q) (sym (onto_none p)) h)
latest_onto (b ∷ x) p q h = subst (λ z. IsLatest z (onto p (b ∷ x))) (onto_on q b x)
    (subst (IsLatest (onto (on q b) x)) (onto_on p b x) (latest_onto x (on p b) (on q b) (latest_more p q b h)))

self_onto : (x : List ℕ) (p : Path) → IsLatest (onto p x) p
self_onto [] p = inl (sym (onto_none p))
self_onto (b ∷ x) p = inr (inr (refl, inl (omega (arith, length-append p.text (b ∷ x)))))

module _ (places : List Place) (seeds : List ℕ) (met : Met) (first : ℕ) (are : AreMet places seeds met)
    (closed : (g b : ℕ) → g < first → IsLed places met g b) where
  -- a group whose path isn't later, and which has the two ends or isn't done
  pub record IsLate (path : Path) (i j : ℕ) : Type 0 where
    pub group : ℕ
    pub within : group < length met.pairs
    pub least : IsLatest path (path_at met.paths group)
    pub found : (first ≤ group) ⊎ HasEnds places (row met.pairs group) i j

  left_at : (c g : ℕ) (place : Place) → g < length met.pairs → Contains (row met.pairs g) c → slice_get places (left_of places c) ≡ Some place
      → place ≡ place_at places (left_of places c)
  left_at c g place lt has at =
      let by = are.each g c lt has in
      same_Some place (place_at places (left_of places c)) (sym at ∙ place_is places (left_of places c) by.left)

  right_at : (c g : ℕ) (place : Place) → g < length met.pairs → Contains (row met.pairs g) c → slice_get places (right_of places c) ≡ Some place
      → place ≡ place_at places (right_of places c)
  right_at c g place lt has at =
      let by = are.each g c lt has in
      same_Some place (place_at places (right_of places c)) (sym at ∙ place_is places (right_of places c) (right_below places c by.left))

  -- from a group that was met up to the path
  from_group : (i j : ℕ) (x : List ℕ) (own mid : Path) → IsLatest own mid → IsLate (onto mid x) i j → IsLate (onto own x) i j
  from_group i j x own mid le r = record {
    group = r.group;
    within = r.within;
    least = latest_next (path_at met.paths r.group) (onto mid x) (onto own x) r.least (latest_onto x mid own le);
    found = r.found;
  }

  -- where the right place goes on
  right_move : (n less i j q : ℕ) (x : List ℕ) (g c : ℕ) → g < length met.pairs → Contains (row met.pairs g) c
      → steps_of (place_at places (left_of places c)) ≡ Still → GoesOn (place_at places (right_of places c)) q
      → RunsIn places n (left_of places c) i x → RunsIn places less q j x →
      ((u d : ℕ) → u < length met.pairs → Contains (row met.pairs u) d → RunsIn places n (left_of places d) i x
      → RunsIn places less (right_of places d) j x → IsLate (onto (path_at met.paths u) x) i j) → IsLate (onto (path_at met.paths g) x) i j
  right_move n less i j q x g c gl has still goes run sub next =
      let by = are.each g c gl has in
      let small = goes_below places (right_of places c) q (place_at places (right_of places c)) are.small.below
      (place_is places (right_of places c) (right_below places c by.left)) goes in
      let d : ℕ = left_of places c * length places + q in
      let (l, r) = places_of_pair (length places) (left_of places c) q d small refl in
      let run' = subst (λ z. RunsIn places n z i x) (sym l) run in
      let sub' = subst (λ z. RunsIn places less z j x) (sym r) sub in
      let goes_on = both_open places d n less i j x (subst (λ z. z < length places) (sym l) by.left) run' sub' in
      let u = are.still g c d gl has (leads_right places c q goes_on still goes) in
      from_group i j x (path_at met.paths g) (path_at met.paths u.group) u.least (next u.group d u.within u.has run' sub')

  left_move : (k less i j q : ℕ) (x : List ℕ) (g c : ℕ) → g < length met.pairs → Contains (row met.pairs g) c
      → GoesOn (place_at places (left_of places c)) q → RunsIn places less q i x → RunsIn places k (right_of places c) j x →
      ((u d : ℕ) → u < length met.pairs → Contains (row met.pairs u) d → RunsIn places less (left_of places d) i x
      → RunsIn places k (right_of places d) j x → IsLate (onto (path_at met.paths u) x) i j) → IsLate (onto (path_at met.paths g) x) i j
  left_move k less i j q x g c gl has goes sub run next =
      let by = are.each g c gl has in
      let d : ℕ = q * length places + right_of places c in
      let (l, r) = places_of_pair (length places) q (right_of places c) d (right_below places c by.left) refl in
      let sub' = subst (λ z. RunsIn places less z i x) (sym l) sub in
      let run' = subst (λ z. RunsIn places k z j x) (sym r) run in
      let small = goes_below places (left_of places c) q (place_at places (left_of places c)) are.small.below
      (place_is places (left_of places c) by.left) goes in
      let goes_on = both_open places d less k i j x (subst (λ z. z < length places) (sym l) small) sub' run' in
      let u = are.still g c d gl has (leads_left places c q goes_on goes) in
      from_group i j x (path_at met.paths g) (path_at met.paths u.group) u.least (next u.group d u.within u.has sub' run')

  -- where both places read
  both_read : (less less' i j b q q' : ℕ) (x y : List ℕ) (g c : ℕ) → g < length met.pairs → Contains (row met.pairs g) c
      → ReadsTo (place_at places (left_of places c)) b q → ReadsTo (place_at places (right_of places c)) b q' → x ≡ b ∷ y
      → RunsIn places less q i y → RunsIn places less' q' j y →
      ((u d : ℕ) → u < length met.pairs → Contains (row met.pairs u) d → RunsIn places less (left_of places d) i y
      → RunsIn places less' (right_of places d) j y → IsLate (onto (path_at met.paths u) y) i j) → IsLate (onto (path_at met.paths g) x) i j
  both_read less less' i j b q q' x y g c gl has reads reads' e run run' next = elim (cases_lt g first) [
    | inr past ↦ record { group = g; within = gl; least = self_onto x (path_at met.paths g); found = inl past }
    | inl early ↦
        let by = are.each g c gl has in
        let d : ℕ = q * length places + q' in
        let small = reads_below places (right_of places c) b q' (place_at places (right_of places c)) are.small.below
        (place_is places (right_of places c) (right_below places c by.left)) reads' in
        let small' = reads_below places (left_of places c) b q (place_at places (left_of places c)) are.small.below
        (place_is places (left_of places c) by.left) reads in
        let (left_is, right_is) = places_of_pair (length places) q q' d small refl in
        let f = subst (λ z. RunsIn places less z i y) (sym left_is) run in
        let f' = subst (λ z. RunsIn places less' z j y) (sym right_is) run' in
        let a : IsAfter places b c d = record {
          left = q;
          right = q';
          left_reads = reads;
          right_reads = reads';
          pair = refl;
          goes_on = both_open places d less less' i j y (subst (λ z. z < length places) (sym left_is) small') f f';
        } in
        let u = closed g b early c d has a in
        let r = next u.group d u.within u.has f f' in
        let own : Path = path_at met.paths g in
        let mid : Path = path_at met.paths u.group in
        record {
          group = r.group;
          within = r.within;
          least = subst (λ z. IsLatest (onto own z) (path_at met.paths r.group)) (sym e)
              (latest_next (path_at met.paths r.group) (onto mid y) (onto own (b ∷ y)) r.least
              (subst (λ z. IsLatest z (onto mid y)) (onto_on own b y) (latest_onto y mid (on own b) u.least)));
          found = r.found;
        }
  ]

  pub late : (fuel n k i j : ℕ) (x : List ℕ) (g c : ℕ) → n + k < fuel → g < length met.pairs → Contains (row met.pairs g) c
      → RunsIn places n (left_of places c) i x → RunsIn places k (right_of places c) j x → IsLate (onto (path_at met.paths g) x) i j
  late zero n k i j x g c lt gl has f h = absurd (omega arith)
  late (suc fuel) n k i j x g c lt gl has (move less place q at goes run fewer) h =
      left_move k less i j q x g c gl has (subst (λ z. GoesOn z q) (left_at c g place gl has at) goes) run h
      (λ u d ul hs f' h'. late fuel less k i j x u d (omega arith) ul hs f' h')
  late (suc fuel) n k i j x g c lt gl has (stop at e) (move less place q at' goes run fewer) =
      right_move n less i j q x g c gl has
      (end_still (place_at places (left_of places c)) i (sym (left_at c g (p.End i) gl has at)))
      (subst (λ z. GoesOn z q) (right_at c g place gl has at') goes) (stop at e) run
      (λ u d ul hs f' h'. late fuel n less i j x u d (omega arith) ul hs f' h')
  late (suc fuel) n k i j x g c lt gl has (read less' place' b q' at reads' run' e fewer') (move less place q at' goes run fewer) =
      right_move n less i j q x g c gl has
      (reads_still (place_at places (left_of places c)) b q' (subst (λ z. ReadsTo z b q') (left_at c g place' gl has at) reads'))
      (subst (λ z. GoesOn z q) (right_at c g place gl has at') goes) (read less' place' b q' at reads' run' e fewer') run
      (λ u d ul hs f' h'. late fuel n less i j x u d (omega arith) ul hs f' h')
  late (suc fuel) n k i j x g c lt gl has (stop at e) (stop at' e') = record {
    group = g;
    within = gl;
    least = self_onto x (path_at met.paths g);
    found = inr (record {
      pair = c;
      has = has;
      ends = record { left = sym (left_at c g (p.End i) gl has at); right = sym (right_at c g (p.End j) gl has at') };
    });
  }
  late (suc fuel) n k i j x g c lt gl has (stop at e) (read {rest = y} less place b q at' reads run e' fewer) = absurd (nothing x y b e e')
    where
      nothing : (x y : List ℕ) (b : ℕ) → x ≡ [] → x ≡ b ∷ y → ⊥
      nothing x y b e f = cc
  late (suc fuel) n k i j x g c lt gl has (read {rest = y} less place b q at reads run e fewer) (stop at' e') = absurd (nothing x y b e' e)
    where
      nothing : (x y : List ℕ) (b : ℕ) → x ≡ [] → x ≡ b ∷ y → ⊥
      nothing x y b e f = cc
  late (suc fuel) n k i j x g c lt gl has (read {rest = y} less place b q at reads run e fewer)
      (read {rest = y'} less' place' b' q' at' reads' run' e' fewer') =
      let (same, rest) = same_rest b b' y y' (sym e ∙ e') in
      both_read less less' i j b q q' x y g c gl has (subst (λ z. ReadsTo z b q) (left_at c g place gl has at) reads)
      (subst (λ z. ReadsTo (place_at places (right_of places c)) z q') (sym same)
      (subst (λ z. ReadsTo z b' q') (right_at c g place' gl has at') reads')) e run
      (subst (RunsIn places less' q' j) (sym rest) run')
      (λ u d ul hs f' h'. late fuel less less' i j y u d (omega arith) ul hs f' h')
    where
      same_rest : (b b' : ℕ) (x x' : List ℕ) → b ∷ x ≡ b' ∷ x' → (b ≡ b') × (x ≡ x')
      same_rest b b' x x' e = (cc, cc)

module _ (places : List Place) (seeds : List ℕ) (met : Met) (i : ℕ) (h : IsBegun places seeds met i) where
  late_start : (l r : ℕ) (x : List ℕ) → LeadsToBoth places seeds l r x
      → IsLate places seeds met i h.are_met h.closed (record { set = 0; text = x }) l r
  late_start l r x k =
      let (n, f) = counted k.left in
      let (n', g) = counted k.right in
      subst (λ z. IsLate places seeds met i h.are_met h.closed (onto z x) l r) h.empty
      (late places seeds met i h.are_met h.closed (n + n' + 1) n n' l r x 0 k.pair (omega arith) h.some (h.starts k.pair k.has) f g)

  -- the ends are led to by the path of their group
  ends_lead : (g c l r : ℕ) → g < length met.pairs → Contains (row met.pairs g) c → AreEnds places c l r
      → LeadsToBoth places seeds l r ((path_at met.paths g).text ++ [])
  ends_lead g c l r lt has e =
      let by = h.are_met.each g c lt has in
      by.reaches l r [] (ended (place_is places (left_of places c) by.left ∙ ap Some e.left) refl)
      (ended (place_is places (right_of places c) (right_below places c by.left) ∙ ap Some e.right) refl)

  -- the first group with two ends has the least text that leads to two
  pub first_ending : (l r : ℕ) → i < length met.pairs → HasEnds places (row met.pairs i) l r →
      ((g a b : ℕ) → g < i → ¬ HasEnds places (row met.pairs g) a b)
      → IsFirstEnding places seeds met (record { group = i; left = l; right = r })
  first_ending l r lt e apart =
      let path : Path = path_at met.paths i in
      record {
        within = omega (arith, h.are_met.len);
        leads = subst (LeadsToBoth places seeds l r) (append-nil path.text) (ends_lead i e.pair l r lt e.has e.ends);
        least = λ a b text k.
            let s = late_start a b text k in
            let within = s.within in
            let from : i ≤ s.group = elim s.found [
              | inl from' ↦ from'
              | inr ends ↦ elim (cases_lt s.group i) [ inl early ↦ absurd (apart s.group a b early ends) | inr past ↦ past ]
            ] in
            at_most path text (elim (cases_eq i s.group) [
              | inl same ↦ subst (λ z. IsLatest (record { set = 0; text = text }) (path_at met.paths z)) (sym same) s.least
              | inr ne ↦ latest_next path (path_at met.paths s.group) (record { set = 0; text = text })
                  (inr (h.are_met.sorted i s.group (omega arith) (omega (arith, h.are_met.len)))) s.least
            ]);
      }

  -- where no group has two ends, no text leads to two
  pub no_ending : length met.pairs ≤ i → ((g a b : ℕ) → g < i → ¬ HasEnds places (row met.pairs g) a b) → (a b : ℕ) (text : List ℕ)
      → ¬ LeadsToBoth places seeds a b text
  no_ending le apart a b text k =
      let s = late_start a b text k in
      let within = s.within in
      elim s.found [ inl from ↦ absurd (omega arith) | inr ends ↦ apart s.group a b (omega arith) ends ]

  -- where all groups are done, all ends are met
  pub whole_walk : length met.pairs ≤ i → AreAllMet places seeds met.numbers
  whole_walk le = record {
    sound = λ c a b has e.
        let l = h.are_met.listed c has in
        ((path_at met.paths l.group).text ++ [], ends_lead l.group c a b l.within l.has e);
    complete = λ a b text k.
        let s = late_start a b text k in
        let within = s.within in
        elim s.found [
          | inl from ↦ absurd (omega arith)
          | inr ends ↦ record {
            pair = ends.pair;
            has = h.are_met.marked s.group ends.pair s.within ends.has;
            left = (h.are_met.each s.group ends.pair s.within ends.has).left;
            ends = ends.ends;
          }
        ];
  }
