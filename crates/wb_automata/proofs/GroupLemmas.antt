-- Groups of pairs as they are met: each new group is closed, and its pairs are led to by its path.
use Rattle.std.proofs.Common.{◌≡◌, ℕ, ◌+◌, ◌≤◌, ◌<◌, ◌⊎◌, List, [], ◌∷◌, ◌++◌, refl, sym, ◌∙◌, ap, subst, arith, inl, inr, length}
use Rattle.std.proofs.Common.{length-append, append_assoc}
use Rattle.std.specs.Prelude.{Contains}
use Rattle.std.proofs.lemmas.Bool.{cases_lt}
use Rattle.std.proofs.lemmas.List.{get_or_append_left, get_or_push, get_or_default}
use Rattle.std.proofs.lemmas.List.Elements.{Contains-append_left}
use Rattle.wb_automata_positions.specs.declared.places.Place.{Place}
use Rattle.wb_automata_positions.specs.Places.{ArePlacesBelow}
use Rattle.wb_automata_positions.specs.Rows.{row}
use Rattle.wb_automata.specs.Automata.{Path, IsEarlier}
use Rattle.wb_automata.specs.Inner.Found.{on}
use Rattle.wb_automata.specs.Inner.Pairs.{Adds, Any, AreEarlier, AreMet, ArePairs, AreSmall, Closes, IsBegun, IsGrown, IsLed, IsMetBy}
use Rattle.wb_automata.specs.Inner.Pairs.{IsMetUpTo, IsPassed, IsPassing, IsWalked, LeadTo, LeadsToBoth, Met, Reached, begun, stepped}
use Rattle.wb_automata.specs.Inner.Pairs.{pair_steps, path_at}
use Rattle.wb_automata.proofs.OrderLemmas.{earlier_last, earlier_more, earlier_next}
use Rattle.wb_automata.proofs.PairLemmas.{after_back, after_left, none_in, reads_byte, step_back, step_left}

-- the old groups are as they were
pub record Keeps (old new : Met) : Type 0 where
  pub pairs : (g : ℕ) → g < length old.pairs → row new.pairs g ≡ row old.pairs g
  pub paths : (g : ℕ) → g < length old.pairs → path_at new.paths g ≡ path_at old.paths g
  pub len : length old.pairs ≤ length new.pairs

pub up_keeps : (old new : Met) (c : ℕ) (path : Path) → Keeps old new → IsMetUpTo old c path → IsMetUpTo new c path
up_keeps old new c path k h = record {
  group = h.group;
  within = (let lt = h.within in omega (arith, k.len));
  has = subst (λ z. Contains z c) (sym (k.pairs h.group h.within)) h.has;
  least = subst (λ z. (z ≡ path) ⊎ IsEarlier z path) (sym (k.paths h.group h.within)) h.least;
}

abbrev pub from_start : Path → Path
from_start path = record { set = 0; text = path.text }

abbrev pub with_set : ℕ → List ℕ → Path
with_set set text = record { set = set; text = text }

abbrev pub met_with : List (List ℕ) → List Path → List ℕ → Met
met_with pairs paths numbers = record { pairs = pairs; paths = paths; numbers = numbers }

pub met_same : (met : Met) (pairs : List (List ℕ)) (paths : List Path) (numbers : List ℕ) → met.pairs ≡ pairs → met.paths ≡ paths
    → met.numbers ≡ numbers → met_with pairs paths numbers ≡ met
met_same met pairs paths numbers e f g = ap (λ z. met_with z paths numbers) (sym e) ∙ ap (λ z. met_with met.pairs z numbers) (sym f)
    ∙ ap (λ z. met_with met.pairs met.paths z) (sym g)

module _ (places : List Place) (seeds : List ℕ) where
  pub led_keeps : (old new : Met) (g b : ℕ) → Keeps old new → g < length old.pairs → IsLed places old g b → IsLed places new g b
  led_keeps old new g b k lt led c d has after = subst (λ z. IsMetUpTo new d (on z b)) (sym (k.paths g lt))
      (up_keeps old new d (on (path_at old.paths g) b) k (led c d (subst (λ z. Contains z c) (k.pairs g lt) has) after))

  pub begun_keeps : (old new : Met) (i : ℕ) → Keeps old new → AreMet places seeds new → i ≤ length old.pairs → IsBegun places seeds old i
      → IsBegun places seeds new i
  begun_keeps old new i k are le h = record {
    are_met = are;
    some = omega (arith, h.some, k.len);
    starts = λ c has. subst (λ z. Contains z c) (sym (k.pairs 0 h.some)) (h.starts c has);
    empty = k.paths 0 h.some ∙ h.empty;
    closed = λ g b less. led_keeps old new g b k (omega arith) (h.closed g b less);
  }

  -- what is reached without reading is led to by the same text
  pub met_by_steps : (text : List ℕ) (c d : ℕ) → ArePlacesBelow places → IsMetBy places seeds text c → LeadTo (pair_steps places c) d
      → IsMetBy places seeds text d
  met_by_steps text c d below h lead = record {
    left = step_left places c d below h.left lead;
    reaches = λ i j x f g. (let (f', g') = step_back places c d i j x below h.left lead f g in h.reaches i j x f' g');
  }

  pub met_by_reached : {next : List ℕ} {d : ℕ} (text : List ℕ) → ArePlacesBelow places →
      ((c : ℕ) → Contains next c → IsMetBy places seeds text c) → Reached places next d → IsMetBy places seeds text d
  met_by_reached text below each (begun has) = each _ has
  met_by_reached {next} {d} text below each (stepped c r lead) = met_by_steps text c d below (met_by_reached text below each r) lead

  -- a group more
  module _ (old : Met) (to : Path) (met next last numbers : List ℕ) (a : AreMet places seeds old) (before : AreEarlier old.paths to)
      (keeps : (d : ℕ) → Contains old.numbers d → Contains met d) (only : (d : ℕ) → Contains met d → Contains old.numbers d ⊎ Contains next d)
      (marked : (d : ℕ) → Contains next d → Contains met d) (by : (c : ℕ) → Contains next c → IsMetBy places seeds to.text c)
      (zero : to.set ≡ 0) (k : Closes places met next numbers last (length last)) where
    abbrev pub grown : Met
    grown = met_with (old.pairs ++ last ∷ []) (old.paths ++ to ∷ []) numbers

    pub grown_keeps : Keeps old grown
    grown_keeps = record {
      pairs = λ g less. get_or_append_left old.pairs (last ∷ []) [] g less;
      paths = λ g less. ap (λ z. from_start z)
          (get_or_append_left old.paths (to ∷ []) (record { set = 0; text = [] }) g (omega (arith, a.len)));
      len = omega (arith, length-append old.pairs (last ∷ []));
    }

    last_pairs : row grown.pairs (length old.pairs) ≡ last
    last_pairs = get_or_push old.pairs last [] (length old.pairs) refl

    to_is : from_start to ≡ to
    to_is = ap (λ z. with_set z to.text) (sym zero)

    pub last_path : path_at grown.paths (length old.pairs) ≡ to
    last_path = ap (λ z. from_start z) (get_or_push old.paths to (record { set = 0; text = [] }) (length old.pairs) a.len) ∙ to_is

    pub up_last : (d : ℕ) → Contains last d → IsMetUpTo grown d to
    up_last d has = record {
      group = length old.pairs;
      within = omega (arith, length-append old.pairs (last ∷ []));
      has = subst (λ z. Contains z d) (sym last_pairs) has;
      least = inl last_path;
    }

    up_old : (d : ℕ) → Contains old.numbers d → IsMetUpTo grown d to
    up_old d has =
        let l = a.listed d has in
        up_keeps old grown d to grown_keeps (record {
          group = l.group;
          within = l.within;
          has = l.has;
          least = inr (before l.group (let less = l.within in omega (arith, a.len)));
        })

    -- all that is met is met up to the new path
    pub up_all : (d : ℕ) → Contains numbers d → IsMetUpTo grown d to
    up_all d has = elim (k.only d has) [
      | inr here ↦ up_last d here
      | inl was ↦ elim (only d was) [
        | inl old' ↦ up_old d old'
        | inr new ↦ up_last d (subst (λ z. Contains z d) (sym k.extends) (Contains-append_left next k.more d new))
      ]
    ]

    last_marked : (d : ℕ) → Contains last d → Contains numbers d
    last_marked d has = elim (k.marked d has) [ inl new ↦ k.keeps d (marked d new) | inr here ↦ here ]

    last_by : (c : ℕ) → Contains last c → IsMetBy places seeds to.text c
    last_by c has = met_by_reached to.text a.small.below by (k.sound c has)

    last_still : (c d : ℕ) → Contains last c → LeadTo (pair_steps places c) d → IsMetUpTo grown d to
    last_still c d (i, lt, is) lead = up_all d (k.closed i d lt (subst (λ z. LeadTo (pair_steps places z) d)
        (sym is ∙ get_or_default last i c 0 lt) lead))

    -- a group of the new ones is an old one or the last
    each_group : (P : ℕ → Type 0) (g : ℕ) → g < length grown.pairs → (g < length old.pairs → P g) → (g ≡ length old.pairs → P g) → P g
    each_group P g lt early late = elim (cases_lt g (length old.pairs)) [
      | inl less ↦ early less
      | inr past ↦ late (omega (arith, length-append old.pairs (last ∷ [])))
    ]

    in_last : (g c : ℕ) → g ≡ length old.pairs → Contains (row grown.pairs g) c → Contains last c
    in_last g c e has = subst (λ z. Contains z c) (ap (row grown.pairs) e ∙ last_pairs) has

    at_last : (g : ℕ) → g ≡ length old.pairs → path_at grown.paths g ≡ to
    at_last g e = ap (path_at grown.paths) e ∙ last_path

    in_old : (g c : ℕ) → g < length old.pairs → Contains (row grown.pairs g) c → Contains (row old.pairs g) c
    in_old g c lt has = subst (λ z. Contains z c) (grown_keeps.pairs g lt) has

    pub grown_met : AreMet places seeds grown
    grown_met = record {
      small = a.small;
      len = omega (arith, a.len, length-append old.pairs (last ∷ []), length-append old.paths (to ∷ []));
      listed = λ c has. (let u = up_all c has in record { group = u.group; within = u.within; has = u.has });
      marked = λ g c lt has. each_group (λ _. Contains numbers c) g lt
          (λ less. k.keeps c (keeps c (a.marked g c less (in_old g c less has)))) (λ e. last_marked c (in_last g c e has));
      each = λ g c lt has. each_group (λ z. IsMetBy places seeds (path_at grown.paths z).text c) g lt
          (λ less. subst (λ z. IsMetBy places seeds z.text c) (sym (grown_keeps.paths g less)) (a.each g c less (in_old g c less has)))
          (λ e. subst (λ z. IsMetBy places seeds z.text c) (sym (at_last g e)) (last_by c (in_last g c e has)));
      still = λ g c d lt has lead. each_group (λ z. IsMetUpTo grown d (path_at grown.paths z)) g lt
          (λ less. subst (IsMetUpTo grown d) (sym (grown_keeps.paths g less))
          (up_keeps old grown d (path_at old.paths g) grown_keeps (a.still g c d less (in_old g c less has) lead)))
          (λ e. subst (IsMetUpTo grown d) (sym (at_last g e)) (last_still c d (in_last g c e has) lead));
      sorted = λ g j less within. elim (cases_lt j (length old.paths)) [
        | inl early ↦ subst (λ z. IsEarlier z (path_at grown.paths j)) (sym (grown_keeps.paths g (omega (arith, a.len))))
            (subst (IsEarlier (path_at old.paths g)) (sym (grown_keeps.paths j (omega (arith, a.len)))) (a.sorted g j less early))
        | inr past ↦
            let e : j ≡ length old.pairs = omega (arith, a.len, length-append old.paths (to ∷ [])) in
            subst (λ z. IsEarlier z (path_at grown.paths j)) (sym (grown_keeps.paths g (omega arith)))
            (subst (IsEarlier (path_at old.paths g)) (sym (at_last j e)) (before g (omega (arith, a.len))))
      ];
    }

-- the first group has what was put into it
pub walked_first : (places : List Place) (seeds met next : List ℕ) (new : Met) → AreSmall places → ArePairs places seeds
    → Adds (Any seeds (λ c d. d ≡ c)) [] [] met next → IsGrown places (met_with [] [] []) met next (record { set = 0; text = [] }) new
    → IsWalked places seeds new 0
walked_first places seeds met next new small pairs adds g =
    subst (λ z. IsWalked places seeds z 0) (met_same new (g.last ∷ []) (record { set = 0; text = [] } ∷ []) new.numbers g.pairs g.paths refl)
    (record {
      begun = record {
        are_met = grown_met places seeds (met_with [] [] []) (record { set = 0; text = [] }) met next g.last new.numbers no_met (λ i less. absurd (omega arith)) adds.keeps
            adds.only (λ d has. elim (adds.marked d has) [ inl was ↦ absurd (none_in d was) | inr m ↦ m ]) seed_by refl g.closes;
        some = omega arith;
        starts = λ c has. subst (λ z. Contains z c) (sym g.closes.extends) (Contains-append_left next g.closes.more c
            (elim (adds.only c (adds.all c (record { one = c; has = has; is = refl }))) [ inl was ↦ absurd (none_in c was) | inr is ↦ is ]));
        empty = refl;
        closed = λ i b less. absurd (omega arith);
      };
      within = omega arith;
      ready = λ lt b i less. subst (λ z. IsEarlier (path_at (record { set = 0; text = [] } ∷ []) z) (record { set = 0; text = b ∷ [] }))
          (let e : 0 ≡ i = omega arith in e) (inr (refl, inl (omega arith)));
    })
  where
    no_met : AreMet places seeds (met_with [] [] [])
    no_met = record {
      small = small;
      len = refl;
      listed = λ c has. absurd (none_in c has);
      marked = λ i c lt has. absurd (omega arith);
      each = λ i c lt has. absurd (omega arith);
      still = λ i c d lt has lead. absurd (omega arith);
      sorted = λ i j less lt. absurd (omega arith);
    }

    seed_by : (c : ℕ) → Contains next c → IsMetBy places seeds [] c
    seed_by c has = elim (adds.sound c has) [
      | inl was ↦ absurd (none_in c was)
      | inr want ↦
          let seed : Contains seeds c = subst (Contains seeds) (sym want.is) want.has in
          record { left = pairs c seed; reaches = λ i j x f g'. record { pair = c; has = seed; left = f; right = g' } }
    ]

module _ (places : List Place) (seeds : List ℕ) (old : Met) (i b : ℕ) (h : IsPassing places seeds old i b) (new : Met)
    (p : IsPassed places i b old new) where
  abbrev to : Path
  to = on (path_at old.paths i) b

  a : AreMet places seeds old
  a = h.begun.are_met

  wanted_by : (c : ℕ) → Contains p.next c → IsMetBy places seeds to.text c
  wanted_by c has = elim (p.adds.sound c has) [
    | inl was ↦ absurd (none_in c was)
    | inr want ↦
        let from = a.each i want.one h.within want.has in
        record {
          left = after_left places b want.one c a.small.below from.left want.is;
          reaches = λ k j x f g.
              let (f', g') = after_back places b want.one c k j x a.small.below from.left want.is f g in
              subst (LeadsToBoth places seeds k j) (sym (append_assoc (path_at old.paths i).text (b ∷ []) x)) (from.reaches k j (b ∷ x) f' g');
        }
  ]

  -- where nothing is new, all that the byte leads to was met before
  quiet_keeps : Keeps old (met_with old.pairs old.paths p.met)
  quiet_keeps = record { pairs = λ g less. refl; paths = λ g less. refl; len = omega arith }

  quiet_old : p.next ≡ [] → (d : ℕ) → Contains p.met d → Contains old.numbers d
  quiet_old none d has = elim (p.adds.only d has) [ inl was ↦ was | inr new' ↦ absurd (none_in d (subst (λ z. Contains z d) none new')) ]

  quiet_met : p.next ≡ [] → AreMet places seeds (met_with old.pairs old.paths p.met)
  quiet_met none = record {
    small = a.small;
    len = a.len;
    listed = λ c has. (let l = a.listed c (quiet_old none c has) in record { group = l.group; within = l.within; has = l.has });
    marked = λ g c lt has. p.adds.keeps c (a.marked g c lt has);
    each = a.each;
    still = λ g c d lt has lead. up_keeps old (met_with old.pairs old.paths p.met) d (path_at old.paths g) quiet_keeps
        (a.still g c d lt has lead);
    sorted = a.sorted;
  }

  quiet : p.next ≡ [] → IsPassing places seeds (met_with old.pairs old.paths p.met) i (b + 1)
  quiet none = record {
    begun = begun_keeps places seeds old (met_with old.pairs old.paths p.met) i quiet_keeps (quiet_met none)
        (let lt = h.within in omega arith) h.begun;
    within = h.within;
    led = λ j less. elim (cases_lt j b) [
      | inl early ↦ led_keeps places seeds old (met_with old.pairs old.paths p.met) i j quiet_keeps h.within (h.led j early)
      | inr late ↦ subst (IsLed places (met_with old.pairs old.paths p.met) i) (let e : b ≡ j = omega arith in e)
          (λ c d has after.
          let l = a.listed d (quiet_old none d (p.adds.all d (record { one = c; has = has; is = after }))) in
          record {
            group = l.group;
            within = l.within;
            has = l.has;
            least = inr (h.edge b (omega arith) l.group (let less' = l.within in omega (arith, a.len)));
          })
    ];
    edge = λ j le. h.edge j (omega arith);
  }

  more : IsGrown places old p.met p.next to new
      → IsPassing places seeds new i (b + 1)
  more g = subst (λ z. IsPassing places seeds z i (b + 1)) (met_same new (old.pairs ++ g.last ∷ []) (old.paths ++ to ∷ []) new.numbers g.pairs g.paths refl)
      (record {
        begun = begun_keeps places seeds old new' i keeps are (let lt = h.within in omega arith) h.begun;
        within = omega (arith, h.within, keeps.len);
        led = λ j less. elim (cases_lt j b) [
          | inl early ↦ led_keeps places seeds old new' i j keeps h.within (h.led j early)
          | inr late ↦ subst (IsLed places new' i) (let e : b ≡ j = omega arith in e)
              (λ c d has after. subst (λ z. IsMetUpTo new' d (on z b)) (sym (keeps.paths i h.within))
              (up_all places seeds old to p.met p.next g.last new.numbers a (h.edge b (omega arith)) p.adds.keeps p.adds.only marked wanted_by
              refl g.closes d (g.closes.keeps d (p.adds.all d
              (record { one = c; has = subst (λ z. Contains z c) (keeps.pairs i h.within) has; is = after })))))
        ];
        edge = λ j le g' less. subst (λ z. IsEarlier (path_at new'.paths g') (on z j)) (sym (keeps.paths i h.within))
            (elim (cases_lt g' (length old.paths)) [
              | inl early ↦ subst (λ z. IsEarlier z (on (path_at old.paths i) j)) (sym (keeps.paths g' (omega (arith, a.len))))
                  (h.edge j (omega arith) g' early)
              | inr past ↦
                  let e : g' ≡ length old.pairs = omega (arith, a.len, length-append old.paths (to ∷ [])) in
                  subst (λ z. IsEarlier z (on (path_at old.paths i) j)) (sym (ap (path_at new'.paths) e ∙ last))
                  (earlier_last (path_at old.paths i) b j (omega arith))
            ]);
      })
    where
      marked : (d : ℕ) → Contains p.next d → Contains p.met d
      marked d has = elim (p.adds.marked d has) [ inl was ↦ absurd (none_in d was) | inr m ↦ m ]

      new' : Met
      new' = met_with (old.pairs ++ g.last ∷ []) (old.paths ++ to ∷ []) new.numbers

      keeps : Keeps old new'
      keeps = grown_keeps places seeds old to p.met p.next g.last new.numbers a (h.edge b (omega arith)) p.adds.keeps p.adds.only marked wanted_by
          refl g.closes

      are : AreMet places seeds new'
      are = grown_met places seeds old to p.met p.next g.last new.numbers a (h.edge b (omega arith)) p.adds.keeps p.adds.only marked wanted_by
          refl g.closes

      last : path_at new'.paths (length old.pairs) ≡ to
      last = last_path places seeds old to p.met p.next g.last new.numbers a (h.edge b (omega arith)) p.adds.keeps p.adds.only marked wanted_by
          refl g.closes

  -- one byte more
  pub passing_more : IsPassing places seeds new i (b + 1)
  passing_more = elim p.change [
    | inl (none, e, f, g) ↦ subst (λ z. IsPassing places seeds z i (b + 1)) (met_same new old.pairs old.paths p.met e f g) (quiet none)
    | inr g ↦ more g
  ]

module _ (places : List Place) (seeds : List ℕ) (met : Met) (i : ℕ) where
  -- a pass begins
  pub passing_begin : i < length met.pairs → IsWalked places seeds met i → IsPassing places seeds met i 0
  passing_begin lt h = record {
    begun = h.begun;
    within = lt;
    led = λ b less. absurd (omega arith);
    edge = λ b le. h.ready lt b;
  }

  -- and ends
  pub passing_end : (k : ℕ) → 256 ≤ k → IsPassing places seeds met i k → IsWalked places seeds met (i + 1)
  passing_end k le h = record {
    begun = record {
      are_met = h.begun.are_met;
      some = h.begun.some;
      starts = h.begun.starts;
      empty = h.begun.empty;
      closed = λ g b less. elim (cases_lt g i) [
        | inl early ↦ h.begun.closed g b early
        | inr past ↦ subst (λ z. IsLed places met z b) (let e : i ≡ g = omega arith in e)
            (λ c d has after. (let byte = reads_byte _ b after.left after.left_reads in h.led b (omega arith) c d has after))
      ];
    };
    within = (let lt = h.within in omega arith);
    ready = λ lt b g less.
        let own : Path = path_at met.paths i in
        let next : Path = path_at met.paths (i + 1) in
        let len = h.begun.are_met.len in
        earlier_next (path_at met.paths g) (on own k) (on next b) (h.edge k (omega arith) g less)
        (earlier_more own next k b (h.begun.are_met.sorted i (i + 1) (omega arith) (omega arith)));
  }
