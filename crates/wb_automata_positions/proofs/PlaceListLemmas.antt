-- The list of places is a machine for the expressions.
use Rattle.std.proofs.Common.{◌≡◌, ℕ, ◌+◌, ◌-◌, ◌≤◌, ◌<◌, List, [], ◌∷◌, ◌++◌, refl, sym, ◌∙◌, ap, subst, arith, inl, inr, Some, length, get_or}
use Rattle.std.proofs.Common.{length-append, append-nil}
use Rattle.std.specs.Prelude.{slice_get}
use Rattle.std.proofs.lemmas.Bool.{cases_lt}
use Rattle.std.proofs.lemmas.Option.{slice_get_within}
use Rattle.wb_lemmas.proofs.Places.{at_push, at_within}
use Rattle.wb_regex.specs.Tree.{Tree}
use Rattle.wb_regex.specs.Matches.{Matches}
use Rattle.wb_regex.specs.declared.node.RegexNode.{RegexNode}
use Rattle.wb_regex.specs.declared.node.RegexNode.TheVariants as n
use Rattle.wb_automata_positions.specs.declared.places.Place.{Place}
use Rattle.wb_automata_positions.specs.declared.places.Place.TheVariants as p
use Rattle.wb_automata_positions.specs.declared.places.Places.{Places}
use Rattle.wb_automata_positions.specs.Inner.Parts.{PartsBelow}
use Rattle.wb_automata_positions.specs.Places.{ArePlaces, GoesBelow, Runs, ended}
use Rattle.wb_automata_positions.specs.Inner.Concatenated.{AreConcatenated}
use Rattle.wb_automata_positions.specs.Inner.Machines.{AreListed, HaveOneParent, IsMachine, IsPlaceAt}
use Rattle.wb_automata_positions.specs.NodePlaces.{again_place, first_place}
use Rattle.wb_automata_positions.proofs.ParentLemmas.{one_parent, tree_covers}
use Rattle.wb_automata_positions.proofs.ReachLemmas.{complete}
use Rattle.wb_automata_positions.proofs.RunLemmas.{IsMade, SubRun, counted, on_end, split}

pub no_places : (nodes : List RegexNode) (next : List ℕ) (places : List Place) → places ≡ [] → AreListed nodes next places 0
no_places nodes next places e = record {
  len = ap length e;
  each = λ k place at. absurd (omega (arith, slice_get_within places k place at, ap length e));
}

-- one place more
pub listed_more : (nodes : List RegexNode) (next : List ℕ) (places : List Place) (i : ℕ) (place : Place) → IsPlaceAt nodes next i place
    → AreListed nodes next places i → AreListed nodes next (places ++ place ∷ []) (i + 1)
listed_more nodes next places i place is h = record {
  len = omega (arith, length-append places (place ∷ []), h.len);
  each = λ k other at. elim (at_push places place other k at) [
    | inl old ↦ h.each k other old
    | inr (e, same) ↦ subst (IsPlaceAt nodes next k) same (subst (λ z. IsPlaceAt nodes next z place) (let f : i ≡ k = omega (arith, h.len) in f) is)
  ];
}

first_below : (m next : ℕ) (k : ℕ) (node : RegexNode) → PartsBelow k node → k < m → next < m → GoesBelow m (first_place node next)
first_below m next k (n.Set words) below lt lt' = lt'
first_below m next k (n.Sequence i j) (u, v) lt lt' = omega arith
first_below m next k (n.Choice i j) (u, v) lt lt' = (omega arith, omega arith)
first_below m next k (n.Star i) u lt lt' = (omega arith, lt')
first_below m next k (n.Plus i) u lt lt' = omega arith
first_below m next k (n.Maybe i) u lt lt' = (omega arith, lt')

again_below : (m next : ℕ) (k : ℕ) (node : RegexNode) → PartsBelow k node → k < m → next < m → GoesBelow m (again_place node next)
again_below m next k (n.Set words) below lt lt' = lt'
again_below m next k (n.Sequence i j) below lt lt' = lt'
again_below m next k (n.Choice i j) below lt lt' = lt'
again_below m next k (n.Star i) u lt lt' = lt'
again_below m next k (n.Plus i) u lt lt' = (omega arith, lt')
again_below m next k (n.Maybe i) u lt lt' = lt'

first_no_end : (node : RegexNode) (next k : ℕ) → first_place node next ≡ p.End k → ⊥
first_no_end (n.Set words) next k e = cc
first_no_end (n.Sequence i j) next k e = cc
first_no_end (n.Choice i j) next k e = cc
first_no_end (n.Star i) next k e = cc
first_no_end (n.Plus i) next k e = cc
first_no_end (n.Maybe i) next k e = cc

again_no_end : (node : RegexNode) (next k : ℕ) → again_place node next ≡ p.End k → ⊥
again_no_end (n.Set words) next k e = cc
again_no_end (n.Sequence i j) next k e = cc
again_no_end (n.Choice i j) next k e = cc
again_no_end (n.Star i) next k e = cc
again_no_end (n.Plus i) next k e = cc
again_no_end (n.Maybe i) next k e = cc

distance : (i m : ℕ) → m ≤ i → (d : ℕ) × (i ≡ m + d)
distance i m le = (i - m, omega arith)

end_number : (k l : ℕ) → p.End k ≡ p.End l → k ≡ l
end_number k l e = cc

module _ (nodes : List RegexNode) (roots : List ℕ) (places : List Place) (parents : HaveOneParent nodes roots)
    (h : IsMachine nodes roots places) where
  abbrev size : ℕ
  size = length nodes

  abbrev after : ℕ → ℕ
  after i = get_or h.next i 0

  -- where the place with this number is, among the nodes, their second places and the ends
  pub record Second (i : ℕ) : Type 0 where
    pub node : ℕ
    pub is : i ≡ size + node
    pub below : node < size

  second : (i : ℕ) → size ≤ i → i < size + size → Second i
  second i le lt = (let (d, e) = distance i size le in record { node = d; is = e; below = omega arith })

  place_in : (i : ℕ) → i < size + size + length roots → (place : Place) × (slice_get places i ≡ Some place) × IsPlaceAt nodes h.next i place
  place_in i lt = (let (place, at) = at_within places i (omega (arith, h.listed.len)) in (place, at, h.listed.each i place at))

  pub made_first : (i : ℕ) (node : RegexNode) → slice_get nodes i ≡ Some node → slice_get places i ≡ Some (first_place node (after i))
  made_first i node at =
      let (place, at_place, is) = place_in i (omega (arith, slice_get_within nodes i node at)) in
      at_place ∙ ap Some (is.first node at)

  made_again : (i : ℕ) (node : RegexNode) → slice_get nodes i ≡ Some node → slice_get places (size + i) ≡ Some (again_place node (after i))
  made_again i node at =
      let (place, at_place, is) = place_in (size + i) (omega (arith, slice_get_within nodes i node at)) in
      at_place ∙ ap Some (is.again i node refl at)

  pub made : IsMade nodes h.next places
  made = record {
    first = made_first;
    again = made_again;
    continues = λ i node at. h.continued.parts i node (omega arith) at;
  }

  pub end_at : (k : ℕ) → k < length roots → slice_get places (size + size + k) ≡ Some (p.End k)
  end_at k lt = (let (place, at_place, is) = place_in (size + size + k) (omega arith) in at_place ∙ ap Some (is.end k refl))

  pub below_at : (i : ℕ) (place : Place) → slice_get places i ≡ Some place → GoesBelow (length places) place
  below_at i place at =
      let is = h.listed.each i place at in
      let len = h.listed.len in
      let within = slice_get_within places i place at in
      elim (cases_lt i size) [
        | inl early ↦
            let (node, at_node) = at_within nodes i early in
            subst (GoesBelow (length places)) (sym (is.first node at_node)) (first_below (length places) (after i) i node
            (parents.parts i node at_node) within
            (let lt = h.continued.ends.below i (omega (arith, h.continued.ends.len)) in omega arith))
        | inr past ↦ elim (cases_lt i (size + size)) [
          | inl late ↦
              let s = second i past late in
              let lt = s.below in
              let (node, at_node) = at_within nodes s.node s.below in
              subst (GoesBelow (length places)) (sym (is.again s.node node s.is at_node)) (again_below (length places) (after s.node) s.node node
              (parents.parts s.node node at_node) (omega arith)
              (let lt' = h.continued.ends.below s.node (omega (arith, h.continued.ends.len)) in omega arith))
          | inr last ↦
              let (k, e) = distance i (size + size) last in
              subst (GoesBelow (length places)) (sym (is.end k e)) tt
        ]
      ]

  pub only_end : (i k : ℕ) → slice_get places i ≡ Some (p.End k) → i ≡ size + size + k
  only_end i k at =
      let is = h.listed.each i (p.End k) at in
      elim (cases_lt i size) [
        | inl early ↦ (let (node, at_node) = at_within nodes i early in
            absurd (first_no_end node (after i) k (sym (is.first node at_node))))
        | inr past ↦ elim (cases_lt i (size + size)) [
          | inl late ↦ (let s = second i past late in let (node, at_node) = at_within nodes s.node s.below in
              absurd (again_no_end node (after s.node) k (sym (is.again s.node node s.is at_node))))
          | inr last ↦ (let (l, e) = distance i (size + size) last in e ∙ ap (λ z. size + size + z) (sym (end_number k l (is.end l e))))
        ]
      ]

module _ (trees : List Tree) (nodes : List RegexNode) (roots : List ℕ) (places : List Place)
    (all : AreConcatenated trees nodes roots (length trees)) (h : IsMachine nodes roots places) where
  abbrev twice : ℕ
  twice = length nodes + length nodes

  parents : HaveOneParent nodes roots
  parents = one_parent trees nodes roots all

  pub root_next : (k : ℕ) → k < length trees → get_or h.next (get_or roots k 0) 0 ≡ twice + k
  root_next k lt = h.continued.ends.ends k (omega (arith, all.roots_len))

  -- a run from the start of an expression
  pub whole : (k number : ℕ) (x : List ℕ) (tree : Tree) → slice_get trees k ≡ Some tree → Runs places (get_or roots k 0) number x
      → (number ≡ k) × Matches tree x
  whole k number x tree at run =
      let lt = slice_get_within trees k tree at in
      let (count, counted_run) = counted run in
      let s = split nodes h.next places (made nodes roots places parents h) (tree_covers trees nodes roots all k tree at) (get_or roots k 0)
      count number x (sym (all.roots_at k lt)) counted_run in
      let last = subst (λ z. SubRun places count z number s.rest) (root_next k lt) s.sub in
      let (own, nothing) = on_end (end_at nodes roots places parents h k (omega (arith, all.roots_len))) last.run in
      (own, subst (Matches tree) (sym (s.joins ∙ ap (λ z. s.front ++ z) nothing ∙ append-nil s.front)) s.matches)

  pub begun : (k : ℕ) (x : List ℕ) (tree : Tree) → slice_get trees k ≡ Some tree → Matches tree x → Runs places (get_or roots k 0) k x
  begun k x tree at m =
      let lt = slice_get_within trees k tree at in
      complete nodes h.next places (made nodes roots places parents h) k (tree_covers trees nodes roots all k tree at) (get_or roots k 0) x [] x
      (sym (all.roots_at k lt)) m
      (subst (λ z. Runs places z k []) (sym (root_next k lt)) (ended (end_at nodes roots places parents h k (omega (arith, all.roots_len))) refl))
      (sym (append-nil x))

-- the machine that is made
pub machine_of : (trees : List Tree) (nodes : List RegexNode) (m : Places) → AreConcatenated trees nodes m.starts.items (length trees)
    → IsMachine nodes m.starts.items m.places.items → m.first_end ≡ length nodes + length nodes → ArePlaces trees m
machine_of trees nodes m all h e =
    let parents = one_parent trees nodes m.starts.items all in
    let places = m.places.items in
    let roots = m.starts.items in
    record {
      below = below_at nodes roots places parents h;
      starts_len = all.roots_len;
      starts_below = λ k lt. omega (arith, parents.roots_below k (omega (arith, all.roots_len)), h.listed.len);
      ends_fit = omega (arith, h.listed.len, all.roots_len);
      ends = λ k lt. subst (λ z. slice_get places (z + k) ≡ Some (p.End k)) (sym e)
          (end_at nodes roots places parents h k (omega (arith, all.roots_len)));
      only_ends = λ i k at. only_end nodes roots places parents h i k at ∙ ap (λ z. z + k) (sym e);
      own = λ k l x lt run. (let (tree, at) = at_within trees k lt in (whole trees nodes roots places all h k l x tree at run).0);
      sound = λ k tree x at run. (whole trees nodes roots places all h k k x tree at run).1;
      complete = λ k tree x at m'. begun trees nodes roots places all h k x tree at m';
    }
