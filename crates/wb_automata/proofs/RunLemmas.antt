-- From a place one comes to an end by a text exactly where one comes without reading to a leaf that holds its first byte, or to the end.
use Rattle.std.proofs.Common.{◌≡◌, ℕ, zero, suc, ◌+◌, ◌-◌, ◌≤◌, ◌<◌, List, [], ◌∷◌, ◌++◌, refl, sym, ◌∙◌, ap, subst, arith}
use Rattle.std.proofs.Common.{inl, inr, Option, Some, None}
use Rattle.std.proofs.Common.{length, get_or, length-append}
use Rattle.std.specs.Prelude.{slice_get}
use Rattle.std.proofs.lemmas.Bool.{cases_lt}
use Rattle.std.proofs.lemmas.Option.{slice_get_within, same_Some}
use Rattle.wb_lemmas.proofs.Places.{append_keeps, at_within}
use Rattle.wb_regex.specs.Matches.{HoldsByte}
use Rattle.wb_regex.specs.declared.node.RegexNode.{RegexNode}
use Rattle.wb_regex.specs.declared.node.RegexNode.TheVariants as n
use Rattle.wb_automata_positions.specs.declared.places.Place.{Place}
use Rattle.wb_automata_positions.specs.declared.places.Place.TheVariants as p
use Rattle.wb_automata_positions.specs.declared.tables.Tables.{Tables}
use Rattle.wb_automata_positions.specs.NodePlaces.{Reaches, stays, goes, place_in, place_of}
use Rattle.wb_automata_positions.specs.Places.{ArePlacesBelow, GoesBelow, GoesOn, ReadsTo, Runs, ended, reads, moves}
use Rattle.wb_automata_positions.specs.Tables.{first_places, places_of}
use Rattle.wb_automata_positions.specs.Transitions.{count_of}
use Rattle.wb_automata_positions.proofs.ClosureLemmas.{is_place}
use Rattle.wb_automata.proofs.PlaceLemmas.{pushed_at}

pub length_places : (nodes : List RegexNode) (next : List ℕ) (m : ℕ) → length (first_places nodes next m) ≡ m
length_places nodes next zero = refl
length_places nodes next (suc m) =
    omega (arith, length-append (first_places nodes next m) (place_of nodes next m ∷ []), length_places nodes next m)

pub at_place : (nodes : List RegexNode) (next : List ℕ) (m i : ℕ) → i < m → slice_get (first_places nodes next m) i ≡ Some
    (place_of nodes next i)
at_place nodes next zero i lt = absurd (omega arith)
at_place nodes next (suc m) i lt = elim (cases_lt i m) [
  | inl less ↦ append_keeps (first_places nodes next m) (place_of nodes next m ∷ []) i (place_of nodes next i)
      (at_place nodes next m i less)
  | inr past ↦
      let e : i ≡ m = omega arith in
      subst (λ z. slice_get (first_places nodes next m ++ place_of nodes next m ∷ []) i ≡ Some (place_of nodes next z)) (sym e)
      (pushed_at (first_places nodes next m) (place_of nodes next m) i (omega (arith, length_places nodes next m)))
]

-- only the place of a leaf reads
leaf_reads : (o other : Option RegexNode) (next again k b q : ℕ) → ReadsTo (place_in o other next again k) b q
    → (words : List ℕ) × ((o ≡ Some (n.Set words)) × (HoldsByte words b × (q ≡ next)))
leaf_reads (Some (n.Set words)) other next again k b q (h, e) = (words, (refl, (h, e)))
leaf_reads (Some (n.Sequence i j)) other next again k b q h = absurd h
leaf_reads (Some (n.Choice i j)) other next again k b q h = absurd h
leaf_reads (Some (n.Star i)) other next again k b q h = absurd h
leaf_reads (Some (n.Plus i)) other next again k b q h = absurd h
leaf_reads (Some (n.Maybe i)) other next again k b q h = absurd h
leaf_reads None (Some (n.Set words)) next again k b q h = absurd h
leaf_reads None (Some (n.Sequence i j)) next again k b q h = absurd h
leaf_reads None (Some (n.Choice i j)) next again k b q h = absurd h
leaf_reads None (Some (n.Star i)) next again k b q h = absurd h
leaf_reads None (Some (n.Plus i)) next again k b q h = absurd h
leaf_reads None (Some (n.Maybe i)) next again k b q h = absurd h
leaf_reads None None next again k b q h = absurd h

-- only the places behind those of the nodes are ends
end_is : (o other : Option RegexNode) (next again k l : ℕ) → place_in o other next again k ≡ p.End l → (o ≡ None) ×
    ((other ≡ None) × (l ≡ k))
end_is (Some (n.Set words)) other next again k l e = cc
end_is (Some (n.Sequence i j)) other next again k l e = cc
end_is (Some (n.Choice i j)) other next again k l e = cc
end_is (Some (n.Star i)) other next again k l e = cc
end_is (Some (n.Plus i)) other next again k l e = cc
end_is (Some (n.Maybe i)) other next again k l e = cc
end_is None (Some (n.Set words)) next again k l e = cc
end_is None (Some (n.Sequence i j)) next again k l e = cc
end_is None (Some (n.Choice i j)) next again k l e = cc
end_is None (Some (n.Star i)) next again k l e = cc
end_is None (Some (n.Plus i)) next again k l e = cc
end_is None (Some (n.Maybe i)) next again k l e = cc
end_is None None next again k l e = (refl, (refl, number k l e))
  where
    number : (k l : ℕ) → p.End k ≡ p.End l → l ≡ k
    number k l e = cc

none_past : (nodes : List RegexNode) (i : ℕ) → slice_get nodes i ≡ None → length nodes ≤ i
none_past nodes i none = elim (cases_lt i (length nodes)) [
  | inr past ↦ past
  | inl within ↦ (let (node, at) = at_within nodes i within in absurd (differ node (sym none ∙ at)))
]
  where
    differ : (node : RegexNode) → None ≡ Some node → ⊥
    differ node e = cc

goes_below : (m : ℕ) (place : Place) (q : ℕ) → GoesBelow m place → GoesOn place q → q < m
goes_below m (p.Read words next) q below h = absurd h
goes_below m (p.Go next) q below e = subst (λ z. z < m) (sym e) below
goes_below m (p.Fork next other) q (below, below') h = elim h [
  | inl e ↦ subst (λ z. z < m) (sym e) below
  | inr e ↦ subst (λ z. z < m) (sym e) below'
]
goes_below m (p.End number) q below h = absurd h

module _ (t : Tables) where
  abbrev nodes : List RegexNode
  nodes = t.nodes.items

  abbrev next : List ℕ
  next = t.next.items

  -- how many places there are
  abbrev pub all : ℕ
  all = length nodes + count_of t

  at_all : (i : ℕ) → i < all → slice_get (places_of t) i ≡ Some (place_of nodes next i)
  at_all i lt = at_place nodes next all i lt

  within : (i : ℕ) (place : Place) → slice_get (places_of t) i ≡ Some place → place ≡ place_of nodes next i
  within i place at =
      let lt : i < all = omega (arith, slice_get_within (places_of t) i place at, length_places nodes next all) in
      same_Some place (place_of nodes next i) (sym at ∙ at_all i lt)

  -- from the place one comes to a leaf that holds the byte, and from there to the end by the rest
  pub record ReadsFirst (at number b : ℕ) (rest : List ℕ) : Type 0 where
    pub leaf : ℕ
    pub words : List ℕ
    pub is : slice_get nodes leaf ≡ Some (n.Set words)
    pub holds : HoldsByte words b
    pub reaches : Reaches nodes next at leaf
    pub runs : Runs (places_of t) (get_or next leaf 0) number rest

  pub run_byte : {at number : ℕ} {x : List ℕ} (b : ℕ) (rest : List ℕ) → Runs (places_of t) at number x → x ≡ b ∷ rest
      → ReadsFirst at number b rest
  run_byte {at} {number} {x} b rest (ended e f) g = absurd (differ (sym f ∙ g))
    where
      differ : [] ≡ b ∷ rest → ⊥
      differ e = cc
  run_byte {at} {number} {x} b rest (reads {rest = y} place c q e f r g) h =
      let (same, same') = head_tail c b y rest (sym g ∙ h) in
      let (words, (is, (holds, to))) = leaf_reads (slice_get nodes at) (slice_get nodes (at - length nodes)) (get_or next at 0)
      (get_or next (at - length nodes) 0) (at - length nodes - length nodes) c q (subst (λ z. ReadsTo z c q) (within at place e) f) in
      record {
        leaf = at;
        words = words;
        is = is;
        holds = subst (HoldsByte words) same holds;
        reaches = stays refl;
        runs = subst (λ z. Runs (places_of t) z number rest) to (subst (Runs (places_of t) q number) same' r);
      }
    where
      head_tail : (c b : ℕ) (y rest : List ℕ) → c ∷ y ≡ b ∷ rest → (c ≡ b) × (y ≡ rest)
      head_tail c b y rest e = (cc, cc)
  run_byte {at} {number} {x} b rest (moves place q e f r) g =
      let l = run_byte b rest r g in
      record {
        leaf = l.leaf;
        words = l.words;
        is = l.is;
        holds = l.holds;
        reaches = goes q (subst (λ z. GoesOn z q) (within at place e) f) l.reaches;
        runs = l.runs;
      }

  -- by no byte one comes to an end without reading
  pub run_empty : {at number : ℕ} {x : List ℕ} → Runs (places_of t) at number x → x ≡ []
      → Reaches nodes next at (length nodes + length nodes + number)
  run_empty {at} {number} {x} (ended e f) g =
      let (first, (second, same)) = end_is (slice_get nodes at) (slice_get nodes (at - length nodes)) (get_or next at 0)
      (get_or next (at - length nodes) 0) (at - length nodes - length nodes) number (sym (within at (p.End number) e)) in
      stays (omega (arith, none_past nodes at first, none_past nodes (at - length nodes) second, same))
  run_empty {at} {number} {x} (reads {rest = y} place c q e f r g) h = absurd (differ c y (sym g ∙ h))
    where
      differ : (c : ℕ) (y : List ℕ) → c ∷ y ≡ [] → ⊥
      differ c y e = cc
  run_empty {at} {number} {x} (moves place q e f r) g = goes q (subst (λ z. GoesOn z q) (within at place e) f) (run_empty r g)

  module _ (below : ArePlacesBelow (places_of t)) where
    step_below : (i q : ℕ) → i < all → GoesOn (place_of nodes next i) q → q < all
    step_below i q lt g = subst (λ z. q < z) (length_places nodes next all)
        (goes_below (length (places_of t)) (place_of nodes next i) q (below i (place_of nodes next i) (at_all i lt)) g)

    pub reaches_below : {i j : ℕ} → Reaches nodes next i j → i < all → j < all
    reaches_below {i} {j} (stays e) lt = subst (λ z. z < all) (sym e) lt
    reaches_below {i} {j} (goes q g r) lt = reaches_below r (step_below i q lt g)

    pub run_from : {i j number : ℕ} {x : List ℕ} → Reaches nodes next i j → i < all → Runs (places_of t) j number x
        → Runs (places_of t) i number x
    run_from {i} {j} {number} {x} (stays e) lt run = subst (λ z. Runs (places_of t) z number x) e run
    run_from {i} {j} {number} {x} (goes q g r) lt run = moves (place_of nodes next i) q (at_all i lt) g
        (run_from r (step_below i q lt g) run)

  -- a leaf reads its bytes
  pub leaf_run : (q number b : ℕ) (words rest : List ℕ) → slice_get nodes q ≡ Some (n.Set words) → HoldsByte words b
      → Runs (places_of t) (get_or next q 0) number rest → Runs (places_of t) q number (b ∷ rest)
  leaf_run q number b words rest at holds run =
      let lt = slice_get_within nodes q (n.Set words) at in
      let is : place_of nodes next q ≡ p.Read words (get_or next q 0) = (is_place nodes next q).first (n.Set words) at in
      reads (place_of nodes next q) b (get_or next q 0) (at_all q (omega arith))
      (subst (λ z. ReadsTo z b (get_or next q 0)) (sym is) (holds, refl))
      run refl

  -- an end is there
  pub end_run : (k : ℕ) → length nodes + length nodes + k < all → Runs (places_of t) (length nodes + length nodes + k) k []
  end_run k lt = ended (at_all (length nodes + length nodes + k) lt ∙ ap Some
      ((is_place nodes next (length nodes + length nodes + k)).end k refl)) refl
