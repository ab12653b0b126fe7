-- What leads from the starts of two expressions to their ends is what both match.
use Rattle.std.proofs.Common.{◌≡◌, ℕ, ◌+◌, ◌*◌, ◌<◌, Bool, true, List, [], ◌∷◌, refl, sym, ◌∙◌, ap, subst, arith, inl, inr}
use Rattle.std.proofs.Common.{length, get_or, map, Some, None, Option, ◌++◌, length-append, length-take-le, take}
use Rattle.std.specs.Prelude.{slice_get, Contains, ◌↔◌}
use Rattle.std.proofs.lemmas.Grind.{common_steps}
use Rattle.std.proofs.lemmas.List.{get_or-map, length-map}
use Rattle.std.proofs.lemmas.List.Elements.{All-contains}
use Rattle.std.proofs.lemmas.Nat.{div-add-mod'}
use Rattle.std.proofs.lemmas.Option.{gets, slice_get-get_or, slice_get_within, get_or_from_slice_get}
use Rattle.wb_lemmas.proofs.Places.{at_push, at_take, at_within}
use Rattle.wb_regex.specs.Tree.{Tree}
use Rattle.wb_regex.specs.Matches.{Matches, ShareText}
use Rattle.wb_automata_positions.specs.declared.places.Place.{Place}
use Rattle.wb_automata_positions.specs.declared.places.Place.TheVariants as p
use Rattle.wb_automata_positions.specs.declared.places.Places.{Places}
use Rattle.wb_automata_positions.specs.Places.{ArePlaces, Runs}
use Rattle.wb_automata.specs.declared.shared.SharedText.{SharedText}
use Rattle.wb_automata.specs.Automata.{IsMatch}
use Rattle.wb_automata.specs.Overlaps.{IsLeastShared}
use Rattle.wb_automata.specs.Sharing.{ArePairsBelow, AreSharing, BothMatch, IsLeastSharedText, IsShared, IsSharedText}
use Rattle.wb_automata.specs.Inner.Pairs.{AreAllMet, AreEnds, ArePairs, IsCommon, LeadsToBoth, left_of, place_at, right_of}
use Rattle.wb_automata.specs.Inner.Starts.{AreEndFlags, AreStartsBelow, end_pair, seed_of}
use Rattle.wb_automata.proofs.LeastLemmas.{tree_matches}
use Rattle.wb_automata.proofs.PairLemmas.{place_is, places_of_pair, right_below}

abbrev InPair : Places → ℕ × ℕ → Type 0
InPair m pair = (pair.0 < length m.starts.items) × (pair.1 < length m.starts.items)

module _ (m : Places) (starts_below : AreStartsBelow m) where
  abbrev places : List Place
  places = m.places.items

  abbrev starts : List ℕ
  starts = m.starts.items

  abbrev seed : ℕ × ℕ → ℕ
  seed = seed_of starts (length places)

  seed_places : (pair : ℕ × ℕ) → InPair m pair
      → (left_of places (seed pair) ≡ get_or starts pair.0 0) × (right_of places (seed pair) ≡ get_or starts pair.1 0)
  seed_places pair (lt, lt') = places_of_pair (length places) (get_or starts pair.0 0) (get_or starts pair.1 0) (seed pair)
      (starts_below pair.1 lt') refl

  -- each seed is that of a pair
  seeded : (pairs : List (ℕ × ℕ)) (c : ℕ) → Contains (map seed pairs) c → (pair : ℕ × ℕ) × Contains pairs pair × (seed pair ≡ c)
  seeded pairs c (k, lt, is) =
      let within : k < length pairs = omega (arith, length-map pairs seed) in
      let pair : ℕ × ℕ = get_or pairs k (0, 0) in (
        pair,
        (k, within, get_or_from_slice_get pairs k pair pair (slice_get-get_or pairs k (0, 0) within)),
        sym (get_or-map seed pairs k (0, 0) c within) ∙ is,
      )

  seed_in : (pairs : List (ℕ × ℕ)) (pair : ℕ × ℕ) → Contains pairs pair → Contains (map seed pairs) (seed pair)
  seed_in pairs pair (k, lt, is) = (k, omega (arith, length-map pairs seed), get_or-map seed pairs k pair (seed pair) lt ∙ ap seed is)

  pub seeds_in : (pairs : List (ℕ × ℕ)) → ArePairsBelow (length starts) pairs → ArePairs places (map seed pairs)
  seeds_in pairs below c has =
      let (pair, listed, is) = seeded pairs c has in
      let (lt, lt') = All-contains (InPair m) pairs pair below listed in
      let (l, r) = seed_places pair (lt, lt') in
      subst (λ z. left_of places z < length places) is
      (subst (λ z. z < length places) (sym l) (starts_below pair.0 lt))

module _ (trees : List Tree) (m : Places) (h : ArePlaces trees m) where
  starts_small : AreStartsBelow m
  starts_small k lt = h.starts_below k (omega (arith, h.starts_len))

  pub seeds_below : (pairs : List (ℕ × ℕ)) → ArePairsBelow (length m.starts.items) pairs
      → ArePairs m.places.items (map (seed_of m.starts.items (length m.places.items)) pairs)
  seeds_below pairs below = seeds_in m starts_small pairs below

  match_of : (k : ℕ) (x : List ℕ) → k < length trees → Runs m.places.items (get_or m.starts.items k 0) k x → IsMatch trees k x
  match_of k x lt run = (let (tree, at) = at_within trees k lt in record { tree = tree; at = at; matches = h.sound k tree x at run })

  run_of : (k : ℕ) (x : List ℕ) → IsMatch trees k x → Runs m.places.items (get_or m.starts.items k 0) k x
  run_of k x is = h.complete k is.tree x is.at is.matches

  -- what leads to two ends from a seed is what the two of its pair match
  both_match : (pairs : List (ℕ × ℕ)) (i j : ℕ) (x : List ℕ) → ArePairsBelow (length m.starts.items) pairs
      → LeadsToBoth m.places.items (map (seed_of m.starts.items (length m.places.items)) pairs) i j x → Contains pairs (i, j) × BothMatch trees (i, j) x
  both_match pairs i j x below k =
      let (pair, listed, is) = seeded m starts_small pairs k.pair k.has in
      let (lt, lt') = All-contains (InPair m) pairs pair below listed in
      let (l, r) = seed_places m starts_small pair (lt, lt') in
      let small : pair.0 < length trees = omega (arith, h.starts_len) in
      let small' : pair.1 < length trees = omega (arith, h.starts_len) in
      let f = subst (λ z. Runs m.places.items z i x) (ap (left_of m.places.items) (sym is) ∙ l) k.left in
      let g = subst (λ z. Runs m.places.items z j x) (ap (right_of m.places.items) (sym is) ∙ r) k.right in
      let own : i ≡ pair.0 = h.own pair.0 i x small f in
      let own' : j ≡ pair.1 = h.own pair.1 j x small' g in (
        subst (λ z. Contains pairs (z, j)) (sym own) (subst (λ z. Contains pairs (pair.0, z)) (sym own') listed),
        (
          match_of i x (omega arith) (subst (λ z. Runs m.places.items (get_or m.starts.items z 0) i x) (sym own) f),
          match_of j x (omega arith) (subst (λ z. Runs m.places.items (get_or m.starts.items z 0) j x) (sym own') g),
        ),
      )

  -- and the other way round
  leads_both : (pairs : List (ℕ × ℕ)) (pair : ℕ × ℕ) (x : List ℕ) → ArePairsBelow (length m.starts.items) pairs → Contains pairs pair
      → BothMatch trees pair x → LeadsToBoth m.places.items (map (seed_of m.starts.items (length m.places.items)) pairs) pair.0 pair.1 x
  leads_both pairs pair x below listed (f, g) =
      let (l, r) = seed_places m starts_small pair (All-contains (InPair m) pairs pair below listed) in
      record {
        pair = seed_of m.starts.items (length m.places.items) pair;
        has = seed_in m starts_small pairs pair listed;
        left = subst (λ z. Runs m.places.items z pair.0 x) (sym l) (run_of pair.0 x f);
        right = subst (λ z. Runs m.places.items z pair.1 x) (sym r) (run_of pair.1 x g);
      }

  pub shared_of : (pairs : List (ℕ × ℕ)) (o : Option SharedText) → ArePairsBelow (length m.starts.items) pairs
      → IsCommon m.places.items (map (seed_of m.starts.items (length m.places.items)) pairs) o → IsSharedText trees pairs o
  shared_of pairs None below none = λ text s. none s.pair.0 s.pair.1 text (leads_both pairs s.pair text below s.listed s.both)
  shared_of pairs (Some shared) below k =
      let (listed, both) = both_match pairs shared.left shared.right shared.text below k.leads in
      record {
        listed = listed;
        both = both;
        least = λ text s. k.least s.pair.0 s.pair.1 text (leads_both pairs s.pair text below s.listed s.both);
      }

  end_places : (pair : ℕ × ℕ) → InPair m pair
      → (left_of m.places.items (end_pair m pair) ≡ m.first_end + pair.0) × (right_of m.places.items (end_pair m pair) ≡ m.first_end + pair.1)
  end_places pair (lt, lt') = places_of_pair (length m.places.items) (m.first_end + pair.0) (m.first_end + pair.1) (end_pair m pair)
      (omega (arith, h.ends_fit, h.starts_len)) refl

  end_at : (k : ℕ) → k < length m.starts.items → place_at m.places.items (m.first_end + k) ≡ p.End k
  end_at k lt = get_or_from_slice_get m.places.items (m.first_end + k) (p.End k) (p.End 0) (h.ends k (omega (arith, h.starts_len)))

  ends_are : (pair : ℕ × ℕ) → InPair m pair → AreEnds m.places.items (end_pair m pair) pair.0 pair.1
  ends_are pair (lt, lt') = (let (l, r) = end_places pair (lt, lt') in record {
    left = ap (place_at m.places.items) l ∙ end_at pair.0 lt;
    right = ap (place_at m.places.items) r ∙ end_at pair.1 lt';
  })

  -- two ends are one pair
  one_end : (c : ℕ) (pair : ℕ × ℕ) → left_of m.places.items c < length m.places.items → AreEnds m.places.items c pair.0 pair.1 → c ≡ end_pair m pair
  one_end c pair lt e =
      let l : left_of m.places.items c ≡ m.first_end + pair.0 = h.only_ends (left_of m.places.items c) pair.0 (place_is m.places.items (left_of m.places.items c) lt ∙ ap Some e.left) in
      let r : right_of m.places.items c ≡ m.first_end + pair.1 = h.only_ends (right_of m.places.items c) pair.1
      (place_is m.places.items (right_of m.places.items c) (right_below m.places.items c lt) ∙ ap Some e.right) in
      sym (div-add-mod' c (length m.places.items)) ∙ ap (λ z. z * length m.places.items + right_of m.places.items c) l
      ∙ ap (λ z. (m.first_end + pair.0) * length m.places.items + z) r

  pub sharing_of : (pairs : List (ℕ × ℕ)) (met : List ℕ) (flags : List Bool) → ArePairsBelow (length m.starts.items) pairs
      → AreAllMet m.places.items (map (seed_of m.starts.items (length m.places.items)) pairs) met → AreEndFlags m met pairs flags → AreSharing trees pairs flags
  sharing_of pairs met flags below all f = record {
    len = f.len;
    each = λ place pair flag at at'.
        let within = slice_get_within pairs place pair at in
        let listed : Contains pairs pair = (place, within, get_or_from_slice_get pairs place pair pair at) in
        let small = All-contains (InPair m) pairs pair below listed in (
          λ on.
              let (text, lead) = all.sound (end_pair m pair) pair.0 pair.1 ((f.each place pair flag at at').0 on) (ends_are pair small) in
              let (_, both) = both_match pairs pair.0 pair.1 text below lead in
              record { text = text; both = both },
          λ s.
              let e = all.complete pair.0 pair.1 s.text (leads_both pairs pair s.text below listed s.both) in
              (f.each place pair flag at at').1 (subst (Contains met) (one_end e.pair pair e.left e.ends) e.has),
        );
  }

-- no flags yet, and one more
pub no_flags : (m : Places) (met : List ℕ) (pairs : List (ℕ × ℕ)) → AreEndFlags m met (take 0 pairs) []
no_flags m met pairs = record { len = refl; each = λ place pair flag at at'. absurd (omega (arith, slice_get_within [] place flag at')) }

pub flags_more : (m : Places) (met : List ℕ) (pairs : List (ℕ × ℕ)) (flags : List Bool) (i : ℕ) (flag : Bool) → i < length pairs
    → (flag ≡ true) ↔ Contains met (end_pair m (get_or pairs i (0, 0))) → AreEndFlags m met (take i pairs) flags
    → AreEndFlags m met (take (i + 1) pairs) (flags ++ flag ∷ [])
flags_more m met pairs flags i flag lt is h =
    let long : length flags ≡ i = h.len ∙ length-take-le i pairs (omega arith) in
    record {
      len = omega (arith, length-append flags (flag ∷ []), long, length-take-le (i + 1) pairs (omega arith));
      each = λ place pair own at at'. (let (less, here) = at_take pairs (i + 1) place pair at in elim (at_push flags flag own place at') [
        | inl old ↦ h.each place pair own (take_at pairs i place pair (omega (arith, slice_get_within flags place own old)) here) old
        | inr (e, same) ↦
            let f : pair ≡ get_or pairs i (0, 0) = sym (get_or_from_slice_get pairs place pair (0, 0) here)
            ∙ ap (λ z. get_or pairs z (0, 0)) (let g : place ≡ i = omega arith in g) in
            subst (λ z. (z ≡ true) ↔ Contains met (end_pair m pair)) same
            (subst (λ z. (flag ≡ true) ↔ Contains met (end_pair m z)) (sym f) is)
      ]);
    }
  where
    take_at : (pairs : List (ℕ × ℕ)) (n place : ℕ) (pair : ℕ × ℕ) → place < n → slice_get pairs place ≡ Some pair
        → slice_get (take n pairs) place ≡ Some pair
    take_at pairs n place pair lt at = grind (arith, gets, common_steps)

-- what one pair of two expressions shares is what the two share
module _ (left right : Tree) where
  abbrev two : List Tree
  two = left ∷ right ∷ []

  abbrev one_pair : List (ℕ × ℕ)
  one_pair = (0, 1) ∷ []

  share_both : (x : List ℕ) → Matches left x → Matches right x → IsShared two one_pair x
  share_both x f g = record {
    pair = (0, 1);
    listed = (0, omega arith, refl);
    both = (record { tree = left; at = refl; matches = f }, record { tree = right; at = refl; matches = g });
  }

  pub none_shared : IsSharedText two one_pair None → ¬ ShareText left right
  none_shared none s = none s.text (share_both s.text s.one s.other)

  the_pair : (i j : ℕ) → Contains one_pair (i, j) → (i ≡ 0) × (j ≡ 1)
  the_pair i j (k, lt, is) = (let e : k ≡ 0 = omega arith in
      let f : (0, 1) ≡ (i, j) = sym (ap (λ z. get_or one_pair z (i, j)) e) ∙ is in (ap (λ z. z.0) (sym f), ap (λ z. z.1) (sym f)))

  pub least_shared : (shared : SharedText) → IsLeastSharedText two one_pair shared → IsLeastShared left right shared.text
  least_shared shared k =
      let (i, j) = the_pair shared.left shared.right k.listed in
      let (f, g) = k.both in
      record {
        one = tree_matches two 0 left shared.text refl (subst (λ z. IsMatch two z shared.text) i f);
        other = tree_matches two 1 right shared.text refl (subst (λ z. IsMatch two z shared.text) j g);
        least = λ x m n. k.least x (share_both x m n);
      }
