-- What the functions of a walk owe: bounds of pairs, ends, and groups that are put after others.
use Rattle.std.proofs.Common.{◌≡◌, ℕ, ◌+◌, ◌-◌, ◌*◌, ◌^◌, ◌≤◌, ◌<◌, false, List, [], ◌∷◌, ◌++◌, refl, sym, ◌∙◌, ap, subst, arith}
use Rattle.std.proofs.Common.{inl, inr, length, get_or, take, length-append, Some, None, Option}
use Rattle.std.specs.Prelude.{slice_get, Contains, IfOk, IfSome, Result, Ok, Err, ◌↔◌, is_some}
use Rattle.std.proofs.lemmas.Bool.{cases_lt, true≢false}
use Rattle.std.proofs.lemmas.List.{get_or_append_left, get_or_default, take_all}
use Rattle.std.proofs.lemmas.List.Elements.{Contains-get_or}
use Rattle.std.proofs.lemmas.Option.{slice_get-get_or, same_Some}
use Rattle.std.proofs.Math.Nat.{mul-le-mul_right}
use Rattle.wb_automata_positions.specs.declared.places.Place.{Place}
use Rattle.wb_automata_positions.specs.declared.places.Place.TheVariants as p
use Rattle.wb_automata_positions.specs.Places.{ArePlacesBelow, GoesBelow, ReadsTo}
use Rattle.wb_automata_positions.specs.Rows.{row}
use Rattle.wb_automata_positions.specs.Leaves.{has_byte}
use Rattle.wb_automata_positions.proofs.ByteLemmas.{holds_has_byte}
use Rattle.wb_automata_positions.proofs.MachineLemmas.{taken, none_taken}
use Rattle.wb_automata.specs.declared.groups.Groups.{Groups}
use Rattle.wb_automata.specs.declared.predecessor.Predecessor.{Predecessor}
use Rattle.wb_automata.specs.declared.steps.Steps.{Steps}
use Rattle.wb_automata.specs.declared.steps.Steps.TheVariants.{Still, One, Two}
use Rattle.wb_automata.specs.Automata.{Path}
use Rattle.wb_automata.specs.Paths.{path_by, path_on, paths_of}
use Rattle.wb_automata.specs.Inner.Endings.{AreApartBelow, KeepRows}
use Rattle.wb_automata.specs.Inner.Found.{on}
use Rattle.wb_automata.specs.Inner.Pairs.{Adds, Any, AreEnds, AreMet, ArePairs, AreSmall, AreStepsBelow, Closes, HasCommonBytes, HasEnds}
use Rattle.wb_automata.specs.Inner.Pairs.{IsAfter, IsGrown, IsPassed, IsWalked, Met, is_stuck, left_of, met_of, path_at, place_at}
use Rattle.wb_automata.specs.Inner.Pairs.{right_of, steps_of}
use Rattle.wb_automata.proofs.GroupLemmas.{walked_first}
use Rattle.wb_automata.proofs.PairLemmas.{adds_none, after_left, none_in, place_is, reads_below, right_below}
use Rattle.wb_automata.proofs.TextLemmas.{paths_len}
use Rattle.wb_automata.proofs.PlaceLemmas.{paths_more, paths_none}

-- the pairs of a place below the count are below its square
pub room : (x m : ℕ) → x < m → x * m + m ≤ m * m
room x m lt = let h : (x + 1) * m ≤ m * m = mul-le-mul_right m (let g : x + 1 ≤ m = omega arith in g) in omega arith

pub pair_fits : (x y m : ℕ) → x < m → y < m → m * m < 2 ^ 64 → x * m + y < 2 ^ 64
pair_fits x y m lt lt' fits = let h = room x m lt in omega arith

pub product_fits : (x m : ℕ) → x < m → m * m < 2 ^ 64 → x * m < 2 ^ 64
product_fits x m lt fits = let h = room x m lt in omega arith

pub steps_room : (m x : ℕ) (steps : Steps) → x < m → m * m < 2 ^ 64 → AreStepsBelow m steps → AreStepsBelow (2 ^ 64 - x * m) steps
steps_room m x Still lt fits h = tt
steps_room m x (One q) lt fits h = let k = room x m lt in omega arith
steps_room m x (Two q r) lt fits (h, h') = let k = room x m lt in (omega arith, omega arith)

pub steps_below : (places : List Place) (i : ℕ) (d : Place) → ArePlacesBelow places → i < length places
    → AreStepsBelow (length places) (steps_of (get_or places i d))
steps_below places i d below lt = lemma (get_or places i d) (below i (get_or places i d) (slice_get-get_or places i d lt))
  where
    lemma : (place : Place) → GoesBelow (length places) place → AreStepsBelow (length places) (steps_of place)
    lemma (p.Read words next) h = tt
    lemma (p.Go next) h = h
    lemma (p.Fork next other) h = h
    lemma (p.End number) h = tt

pub positive : (x m : ℕ) → x < m * m → 0 < m
positive x m lt = elim (cases_lt 0 m) [ inl pos ↦ pos | inr none ↦ (let e : m ≡ 0 = omega arith in absurd (no_square x (subst (λ z. x < z * z) e lt))) ]
  where
    no_square : (x : ℕ) → x < 0 * 0 → ⊥
    no_square x lt = omega arith

-- ends that are found
pub ends_some : (places : List Place) (pairs : List ℕ) (i : ℕ) (o : Option (ℕ × ℕ)) → i < length pairs →
    ((a b : ℕ) → AreEnds places (get_or pairs i 0) a b ↔ (o ≡ Some (a, b))) → IfSome o (λ e. HasEnds places pairs e.0 e.1)
ends_some places pairs i None lt h = tt
ends_some places pairs i (Some (a, b)) lt h = record { pair = get_or pairs i 0; has = Contains-get_or pairs i 0 lt; ends = (h a b).1 refl }

pub ends_more : (places : List Place) (pairs : List ℕ) (i : ℕ) (o : Option (ℕ × ℕ)) → i < length pairs →
    ((a b : ℕ) → AreEnds places (get_or pairs i 0) a b ↔ (o ≡ Some (a, b))) → is_some o ≡ false
    → ((a b : ℕ) → ¬ HasEnds places (take i pairs) a b) → (a b : ℕ) → ¬ HasEnds places (take (i + 1) pairs) a b
ends_more places pairs i o lt h none before a b e = elim ((taken pairs i e.pair lt).0 e.has) [
  | inl old ↦ before a b (record { pair = e.pair; has = old; ends = e.ends })
  | inr same ↦ true≢false (sym (ap is_some ((h a b).0 (subst (λ z. AreEnds places z a b) (sym same) e.ends))) ∙ none)
]

pub no_ends : (places : List Place) (pairs : List ℕ) (a b : ℕ) → ¬ HasEnds places (take 0 pairs) a b
no_ends places pairs a b e = none_taken pairs e.pair e.has

pub ends_all : (places : List Place) (pairs : List ℕ) (i : ℕ) → length pairs ≤ i → ((a b : ℕ) → ¬ HasEnds places (take i pairs) a b)
    → (a b : ℕ) → ¬ HasEnds places pairs a b
ends_all places pairs i le h = subst (λ z. (a b : ℕ) → ¬ HasEnds places z a b) (take_all i pairs le) h

-- the pairs of a group, and those that begin one
pub group_pairs : (places : List Place) (seeds : List ℕ) (met : Met) (g : ℕ) (pairs : List ℕ) → AreMet places seeds met
    → g < length met.pairs → pairs ≡ row met.pairs g → ArePairs places pairs
group_pairs places seeds met g pairs are lt e c has = let by = are.each g c lt (subst (λ z. Contains z c) e has) in by.left

pub next_pairs : (places : List Place) (seeds : List ℕ) (met : Met) (g b : ℕ) (numbers next : List ℕ) → AreMet places seeds met
    → g < length met.pairs → Adds (Any (row met.pairs g) (IsAfter places b)) met.numbers [] numbers next → ArePairs places next
next_pairs places seeds met g b numbers next are lt adds c has = elim (adds.sound c has) [
  | inl was ↦ absurd (none_in c was)
  | inr want ↦ (let by = are.each g want.one lt want.has in after_left places b want.one c are.small.below by.left want.is)
]

pub start_pairs : (places : List Place) (seeds met met' next : List ℕ) → ArePairs places seeds
    → Adds (Any seeds (λ c d. d ≡ c)) met [] met' next → ArePairs places next
start_pairs places seeds met met' next pairs adds c has = elim (adds.sound c has) [
  | inl was ↦ absurd (none_in c was)
  | inr want ↦ pairs c (subst (Contains seeds) (sym want.is) want.has)
]

-- a group is put after the others
pub grown_add : {E : Type 0} (places : List Place) (old new : Groups) (next last : List ℕ) (o : Predecessor) (r : Result (Unit {0}) E)
    → Closes places old.met next new.met last (length last) → new.pairs ≡ old.pairs ++ last ∷ [] →
    IfOk r (λ _. new.predecessors.items ≡ old.predecessors.items ++ o ∷ []) →
    IfOk r (λ _. IsGrown places (met_of old) old.met next (path_by (paths_of old.predecessors.items) o) (met_of new))
grown_add places old new next last o (Ok _) closes pairs predecessors = record {
  last = last;
  closes = closes;
  pairs = pairs;
  paths = ap paths_of predecessors ∙ paths_more old.predecessors.items o;
}
grown_add places old new next last o (Err _) closes pairs predecessors = tt

-- the group of the starts
pub start_walked : {E : Type 0} (places : List Place) (seeds : List ℕ) (old mid new : Groups) (next : List ℕ) (r : Result (Unit {0}) E)
    → AreSmall places → ArePairs places seeds → old.met ≡ [] → mid.pairs ≡ [] → mid.predecessors.items ≡ []
    → Adds (Any seeds (λ c d. d ≡ c)) old.met [] mid.met next →
    IfOk r (λ _. IsGrown places (met_of mid) mid.met next (path_by (paths_of mid.predecessors.items) (record { set = 0; from = 0; byte = 0 }))
    (met_of new)) → IfOk r (λ _. IsWalked places seeds (met_of new) 0)
start_walked places seeds old mid new next (Ok _) small pairs none no_pairs nothing adds g =
    walked_first places seeds mid.met next (met_of new) small pairs
    (subst (λ z. Adds (Any seeds (λ c d. d ≡ c)) z [] mid.met next) none adds) (record {
      last = g.last;
      closes = g.closes;
      pairs = g.pairs ∙ ap (λ z. z ++ g.last ∷ []) no_pairs;
      paths = g.paths ∙ ap (λ z. paths_of z ++ path_by (paths_of z) (record { set = 0; from = 0; byte = 0 }) ∷ []) nothing
          ∙ ap (λ z. z ++ path_by z (record { set = 0; from = 0; byte = 0 }) ∷ []) paths_none;
    })
start_walked places seeds old mid new next (Err _) small pairs none no_pairs nothing adds g = tt

path_on_at : (paths : List Path) (i b : ℕ) → i < length paths → path_on (slice_get paths i) 0 b ≡ on (path_at paths i) b
path_on_at paths i b lt = ap (λ z. path_on z 0 b) (slice_get-get_or paths i (record { set = 0; text = [] }) lt)

-- the group after a byte
pub passed_add : {E : Type 0} (places : List Place) (i b : ℕ) (old mid new : Groups) (next : List ℕ) (r : Result (Unit {0}) E)
    → i < length (paths_of old.predecessors.items) → mid.pairs ≡ old.pairs → mid.predecessors.items ≡ old.predecessors.items
    → Adds (Any (row old.pairs i) (IsAfter places b)) old.met [] mid.met next →
    IfOk r (λ _. IsGrown places (met_of mid) mid.met next (path_by (paths_of mid.predecessors.items) (record { set = 0; from = i; byte = b }))
    (met_of new)) → IfOk r (λ _. IsPassed places i b (met_of old) (met_of new))
passed_add places i b old mid new next (Ok _) lt same_pairs same adds g = record {
  met = mid.met;
  next = next;
  adds = adds;
  change = inr (record {
    last = g.last;
    closes = g.closes;
    pairs = g.pairs ∙ ap (λ z. z ++ g.last ∷ []) same_pairs;
    paths = g.paths ∙ ap (λ z. paths_of z ++ path_by (paths_of z) (record { set = 0; from = i; byte = b }) ∷ []) same
        ∙ ap (λ z. paths_of old.predecessors.items ++ z ∷ []) (path_on_at (paths_of old.predecessors.items) i b lt);
  });
}
passed_add places i b old mid new next (Err _) lt same_pairs same adds g = tt

-- nothing is read by a byte that no pair has in common
pub passed_none : (places : List Place) (i b : ℕ) (met : Met) (words : List ℕ) → HasCommonBytes places (row met.pairs i) words
    → has_byte words b ≡ false → IsPassed places i b met met
passed_none places i b met words common off = record {
  met = met.numbers;
  next = [];
  adds = adds_none (Any (row met.pairs i) (IsAfter places b)) met.numbers []
      (λ d want. true≢false (sym (holds_has_byte words b (common b want.one d want.has want.is)) ∙ off));
  change = inl (refl, refl, refl, refl);
}

pub passed_keeps : (places : List Place) (i b : ℕ) (old new : Met) → IsPassed places i b old new → KeepRows old.pairs new.pairs
passed_keeps places i b old new h = elim h.change [
  | inl (none, e, f, g) ↦ record { rows = λ k lt. ap (λ z. row z k) e; len = omega (arith, ap length e) }
  | inr g ↦ record {
    rows = λ k lt. ap (λ z. row z k) g.pairs ∙ get_or_append_left old.pairs (g.last ∷ []) [] k lt;
    len = omega (arith, ap length g.pairs, length-append old.pairs (g.last ∷ []));
  }
]

pub keep_more : (a b c : List (List ℕ)) → KeepRows a b → KeepRows b c → KeepRows a c
keep_more a b c h k = record {
  rows = λ g lt. (let le = h.len in k.rows g (omega arith) ∙ h.rows g lt);
  len = omega (arith, h.len, k.len);
}

pub keep_same : (a : List (List ℕ)) → KeepRows a a
keep_same a = record { rows = λ g lt. refl; len = omega arith }

pub apart_more : (places : List Place) (old new : List (List ℕ)) (count : ℕ) (pairs : List ℕ) → count < length old → KeepRows old new
    → pairs ≡ row old count → ((a b : ℕ) → ¬ HasEnds places pairs a b) → AreApartBelow places old count → AreApartBelow places new (count + 1)
apart_more places old new count pairs lt keep e none before g a b less ends =
    let ends' = subst (λ z. HasEnds places z a b) (keep.rows g (omega arith)) ends in
    elim (cases_lt g count) [
      | inl early ↦ before g a b early ends'
      | inr late ↦ (let f : g ≡ count = omega arith in none a b (subst (λ z. HasEnds places z a b) (ap (row old) f ∙ sym e) ends'))
    ]

-- how many groups there are
pub group_within : (places : List Place) (seeds : List ℕ) (groups : Groups) (g count : ℕ) → AreMet places seeds (met_of groups)
    → count ≡ length groups.predecessors.items → g < count → g < length groups.pairs
group_within places seeds groups g count are e lt = omega (arith, are.len, paths_len groups.predecessors.items)

pub groups_done : (places : List Place) (seeds : List ℕ) (groups : Groups) (g count : ℕ) → AreMet places seeds (met_of groups)
    → count ≡ length groups.predecessors.items → count ≤ g → length groups.pairs ≤ g
groups_done places seeds groups g count are e le = omega (arith, are.len, paths_len groups.predecessors.items)

-- where a byte leads from the places of a pair
pub target_is : (places : List Place) (i b : ℕ) (d : Place) (o : Option ℕ) → i < length places →
    ((q : ℕ) → ReadsTo (get_or places i d) b q ↔ (o ≡ Some q)) → (q : ℕ) → ReadsTo (place_at places i) b q ↔ (o ≡ Some q)
target_is places i b d o lt h q = subst (λ z. ReadsTo z b q ↔ (o ≡ Some q)) (get_or_default places i d (p.End 0) lt) (h q)

-- the answers for two places are one answer
abbrev pub IsBoth : Option ℕ → Option ℕ → Option (ℕ × ℕ) → Type 0
IsBoth left right r = (i j : ℕ) → ((left ≡ Some i) × (right ≡ Some j)) ↔ (r ≡ Some (i, j))

module _ (places : List Place) (b c : ℕ) (left right : Option ℕ) (r : Option (ℕ × ℕ))
    (to_left : (q : ℕ) → ReadsTo (place_at places (left_of places c)) b q ↔ (left ≡ Some q))
    (to_right : (q : ℕ) → ReadsTo (place_at places (right_of places c)) b q ↔ (right ≡ Some q)) (both : IsBoth left right r) where
  after_is : (d : ℕ) (a : IsAfter places b c d) → r ≡ Some (a.left, a.right)
  after_is d a = (both a.left a.right).0 ((to_left a.left).0 a.left_reads, (to_right a.right).0 a.right_reads)

  pub after_none : r ≡ None → (d : ℕ) → IsAfter places b c d → ⊥
  after_none e d a = (let f = sym e ∙ after_is d a in cc)

  pub after_to : (q s d : ℕ) → r ≡ Some (q, s) → IsAfter places b c d → d ≡ q * length places + s
  after_to q s d e a =
      let f : (a.left, a.right) ≡ (q, s) = same_Some (a.left, a.right) (q, s) (sym (after_is d a) ∙ e) in
      a.pair ∙ ap (λ (z : ℕ × ℕ). z.0 * length places + z.1) f

  pub after_from : (q s d : ℕ) → r ≡ Some (q, s) → d ≡ q * length places + s → is_stuck places d ≡ false → IsAfter places b c d
  after_from q s d e f goes_on =
      let (g, h) = (both q s).1 e in
      record { left = q; right = s; left_reads = (to_left q).1 g; right_reads = (to_right s).1 h; pair = f; goes_on = goes_on }

  pub after_small : (q s : ℕ) → r ≡ Some (q, s) → ArePlacesBelow places → left_of places c < length places
      → (q < length places) × (s < length places)
  after_small q s e below lt =
      let (g, h) = (both q s).1 e in (
        reads_below places (left_of places c) b q (place_at places (left_of places c)) below (place_is places (left_of places c) lt)
            ((to_left q).1 g),
        reads_below places (right_of places c) b s (place_at places (right_of places c)) below
            (place_is places (right_of places c) (right_below places c lt)) ((to_right s).1 h),
      )
