-- From the place of a node one comes to an end by exactly the texts that match the node and then lead on from where it goes on.
use Rattle.std.proofs.Common.{◌≡◌, ℕ, zero, suc, ◌+◌, ◌<◌, ◌⊎◌, List, [], ◌∷◌, ◌++◌, refl, sym, ◌∙◌, ap, subst, arith, inl, inr}
use Rattle.std.proofs.Common.{Some, length, get_or, append_assoc}
use Rattle.std.specs.Prelude.{slice_get}
use Rattle.std.proofs.lemmas.Option.{same_Some}
use Rattle.wb_regex.specs.Tree.{Tree, Star}
use Rattle.wb_regex.specs.Covers as w
use Rattle.wb_regex.specs.Matches.{Matches, HoldsByte, byte, both, left, right, none, more, once, absent, present}
use Rattle.wb_regex.specs.declared.node.RegexNode.{RegexNode}
use Rattle.wb_regex.specs.declared.node.RegexNode.TheVariants as n
use Rattle.wb_automata_positions.specs.declared.places.Place.{Place}
use Rattle.wb_automata_positions.specs.declared.places.Place.TheVariants as p
use Rattle.wb_automata_positions.specs.Places.{Runs, ended, reads, moves, GoesOn, ReadsTo}
use Rattle.wb_automata_positions.specs.Inner.Machines.{Continues}
use Rattle.wb_automata_positions.specs.NodePlaces.{again_place, first_place}

-- the places of nodes, and where each goes on
pub record IsMade (nodes : List RegexNode) (next : List ℕ) (places : List Place) : Type 0 where
  pub first : (i : ℕ) (node : RegexNode) → slice_get nodes i ≡ Some node → slice_get places i ≡ Some (first_place node (get_or next i 0))
  pub again : (i : ℕ) (node : RegexNode) → slice_get nodes i ≡ Some node
      → slice_get places (length nodes + i) ≡ Some (again_place node (get_or next i 0))
  pub continues : (i : ℕ) (node : RegexNode) → slice_get nodes i ≡ Some node → Continues next (length nodes) i node

-- by the text one comes from the place to the end, in fewer steps than this
pub data RunsIn (places : List Place) : ℕ → ℕ → ℕ → List ℕ → Type 0 where
  stop : {count at number : ℕ} {x : List ℕ} → slice_get places at ≡ Some (p.End number) → x ≡ [] → RunsIn places count at number x
  read : {count at number : ℕ} {x rest : List ℕ} (less : ℕ) (place : Place) (b q : ℕ) → slice_get places at ≡ Some place
      → ReadsTo place b q → RunsIn places less q number rest → x ≡ b ∷ rest → less < count → RunsIn places count at number x
  move : {count at number : ℕ} {x : List ℕ} (less : ℕ) (place : Place) (q : ℕ) → slice_get places at ≡ Some place → GoesOn place q
      → RunsIn places less q number x → less < count → RunsIn places count at number x

-- each run has some number of steps
pub counted : {places : List Place} {at number : ℕ} {x : List ℕ} → Runs places at number x → (count : ℕ) × RunsIn places count at number x
counted (ended e f) = (0, stop e f)
counted (reads place b q e f r g) = (let (count, run) = counted r in (suc count, read count place b q e f run g (omega arith)))
counted (moves place q e f r) = (let (count, run) = counted r in (suc count, move count place q e f run (omega arith)))

-- what is at the place is known, so only one kind of step is left
pub record SubRun (places : List Place) (count at number : ℕ) (x : List ℕ) : Type 0 where
  pub less : ℕ
  pub fewer : less < count
  pub run : RunsIn places less at number x

pub record ReadRun (places : List Place) (count : ℕ) (words : List ℕ) (at number : ℕ) (x : List ℕ) : Type 0 where
  pub byte : ℕ
  pub rest : List ℕ
  pub holds : HoldsByte words byte
  pub sub : SubRun places count at number rest
  pub joins : x ≡ byte ∷ rest

module _ {places : List Place} {at number : ℕ} {x : List ℕ} where
  pub on_end : {count k : ℕ} → slice_get places at ≡ Some (p.End k) → RunsIn places count at number x → (number ≡ k) × (x ≡ [])
  on_end {count} {k} is (stop e f) = (end_number (same_Some (p.End number) (p.End k) (sym e ∙ is)), f)
    where
      end_number : p.End number ≡ p.End k → number ≡ k
      end_number e = cc
  on_end {count} {k} is (read less place b q e f r g h) = absurd (subst (λ z. ReadsTo z b q) (same_Some place (p.End k) (sym e ∙ is)) f)
  on_end {count} {k} is (move less place q e f r h) = absurd (subst (λ z. GoesOn z q) (same_Some place (p.End k) (sym e ∙ is)) f)

  pub on_read : {count : ℕ} {words : List ℕ} {next : ℕ} → slice_get places at ≡ Some (p.Read words next) → RunsIn places count at number x
      → ReadRun places count words next number x
  on_read {count} {words} {next} is (stop e f) = absurd (differ (same_Some (p.End number) (p.Read words next) (sym e ∙ is)))
    where
      differ : p.End number ≡ p.Read words next → ⊥
      differ e = cc
  on_read {count} {words} {next} is (read {rest = rest} less place b q e f r g h) =
      let (holds, same) = subst (λ z. ReadsTo z b q) (same_Some place (p.Read words next) (sym e ∙ is)) f in
      record {
        byte = b;
        rest = rest;
        holds = holds;
        sub = record { less = less; fewer = h; run = subst (λ z. RunsIn places less z number rest) same r };
        joins = g;
      }
  on_read {count} {words} {next} is (move less place q e f r h) =
      absurd (subst (λ z. GoesOn z q) (same_Some place (p.Read words next) (sym e ∙ is)) f)

  pub on_go : {count next : ℕ} → slice_get places at ≡ Some (p.Go next) → RunsIn places count at number x → SubRun places count next number x
  on_go {count} {next} is (stop e f) = absurd (differ (same_Some (p.End number) (p.Go next) (sym e ∙ is)))
    where
      differ : p.End number ≡ p.Go next → ⊥
      differ e = cc
  on_go {count} {next} is (read less place b q e f r g h) = absurd (subst (λ z. ReadsTo z b q) (same_Some place (p.Go next) (sym e ∙ is)) f)
  on_go {count} {next} is (move less place q e f r h) =
      let same = subst (λ z. GoesOn z q) (same_Some place (p.Go next) (sym e ∙ is)) f in
      record { less = less; fewer = h; run = subst (λ z. RunsIn places less z number x) same r }

  pub on_fork : {count next other : ℕ} → slice_get places at ≡ Some (p.Fork next other) → RunsIn places count at number x
      → SubRun places count next number x ⊎ SubRun places count other number x
  on_fork {count} {next} {other} is (stop e f) = absurd (differ (same_Some (p.End number) (p.Fork next other) (sym e ∙ is)))
    where
      differ : p.End number ≡ p.Fork next other → ⊥
      differ e = cc
  on_fork {count} {next} {other} is (read less place b q e f r g h) =
      absurd (subst (λ z. ReadsTo z b q) (same_Some place (p.Fork next other) (sym e ∙ is)) f)
  on_fork {count} {next} {other} is (move less place q e f r h) =
      elim (subst (λ z. GoesOn z q) (same_Some place (p.Fork next other) (sym e ∙ is)) f) [
        | inl same ↦ inl (record { less = less; fewer = h; run = subst (λ z. RunsIn places less z number x) same r })
        | inr same ↦ inr (record { less = less; fewer = h; run = subst (λ z. RunsIn places less z number x) same r })
      ]

-- the text is a match of the tree and one that leads from the place to the end, in fewer steps
pub record Split (places : List Place) (tree : Tree) (count at number : ℕ) (x : List ℕ) : Type 0 where
  pub front : List ℕ
  pub rest : List ℕ
  pub matches : Matches tree front
  pub sub : SubRun places count at number rest
  pub joins : x ≡ front ++ rest

-- a part that leads on to the node again
split_star : {places : List Place} {tree : Tree} {at part next number : ℕ} → slice_get places at ≡ Some (p.Fork part next) →
    ((count : ℕ) (x : List ℕ) → RunsIn places count part number x → Split places tree count at number x) → (fuel count : ℕ) (x : List ℕ)
    → count < fuel → RunsIn places count at number x → Split places (Star tree) count next number x
split_star is body zero count x lt run = absurd (omega arith)
split_star {places} {tree} {at} {part} {next} {number} is body (suc fuel) count x lt run = elim (on_fork is run) [
  | inl sub ↦
      let s = body sub.less x sub.run in
      let fewer = sub.fewer in
      let fewer' = s.sub.fewer in
      let t = split_star {places = places} {tree = tree} {at = at} {part = part} {next = next} {number = number} is body fuel s.sub.less s.rest (omega arith) s.sub.run in
      let fewer'' = t.sub.fewer in
      record {
        front = s.front ++ t.front;
        rest = t.rest;
        matches = more s.matches t.matches refl;
        sub = record { less = t.sub.less; fewer = omega arith; run = t.sub.run };
        joins = s.joins ∙ ap (λ z. s.front ++ z) t.joins ∙ sym (append_assoc s.front t.front t.rest);
      }
  | inr sub ↦ record { front = []; rest = x; matches = none refl; sub = sub; joins = refl }
]

-- a run in fewer steps is one in fewer steps than more
more_steps : {places : List Place} {tree : Tree} {less count at number : ℕ} {x : List ℕ} → less < count
    → Split places tree less at number x → Split places tree count at number x
more_steps lt s = let fewer = s.sub.fewer in record {
  front = s.front;
  rest = s.rest;
  matches = s.matches;
  sub = record { less = s.sub.less; fewer = omega arith; run = s.sub.run };
  joins = s.joins;
}

-- the same from an equal place
from_equal : {places : List Place} {tree : Tree} {count number : ℕ} {x : List ℕ} (at other : ℕ) → at ≡ other
    → Split places tree count at number x → Split places tree count other number x
from_equal {places} {tree} {count} {number} {x} at other e s = subst (λ z. Split places tree count z number x) e s

module _ (nodes : List RegexNode) (next : List ℕ) (places : List Place) (h : IsMade nodes next places) where
  abbrev after : ℕ → ℕ
  after i = get_or next i 0

  at_node : (i j : ℕ) (node : RegexNode) → slice_get nodes j ≡ Some node → i ≡ j → slice_get nodes i ≡ Some node
  at_node i j node is e = subst (λ z. slice_get nodes z ≡ Some node) (sym e) is

  pub split : {s e : ℕ} {tree : Tree} → w.Covers nodes s e tree → (i count number : ℕ) (x : List ℕ) → e ≡ i + 1
      → RunsIn places count i number x → Split places tree count (after i) number x
  split (w.set {s = s} words at f) i count number x g run =
      let r = on_read (h.first i (n.Set words) (at_node i s (n.Set words) at (omega arith))) run in
      record { front = r.byte ∷ []; rest = r.rest; matches = byte r.holds refl; sub = r.sub; joins = r.joins }
  split (w.sequence a b c d at f) i count number x g run =
      let here = at_node i (b + 1) (n.Sequence a b) at (omega arith) in
      let (to_b, to_next) = h.continues i (n.Sequence a b) here in
      let r = on_go (h.first i (n.Sequence a b) here) run in
      let fewer = r.fewer in
      let u = from_equal (after a) b to_b (split c a r.less number x refl r.run) in
      let fewer' = u.sub.fewer in
      let v = from_equal (after b) (after i) to_next (split d b u.sub.less number u.rest refl u.sub.run) in
      let fewer'' = v.sub.fewer in
      record {
        front = u.front ++ v.front;
        rest = v.rest;
        matches = both u.matches v.matches refl;
        sub = record { less = v.sub.less; fewer = omega arith; run = v.sub.run };
        joins = u.joins ∙ ap (λ z. u.front ++ z) v.joins ∙ sym (append_assoc u.front v.front v.rest);
      }
  split (w.choice a b c d at f) i count number x g run =
      let here = at_node i (b + 1) (n.Choice a b) at (omega arith) in
      let (left_next, right_next) = h.continues i (n.Choice a b) here in
      elim (on_fork (h.first i (n.Choice a b) here) run) [
        | inl r ↦
            let u = more_steps r.fewer (from_equal (after a) (after i) left_next (split c a r.less number x refl r.run)) in
            record { front = u.front; rest = u.rest; matches = left u.matches; sub = u.sub; joins = u.joins }
        | inr r ↦
            let u = more_steps r.fewer (from_equal (after b) (after i) right_next (split d b r.less number x refl r.run)) in
            record { front = u.front; rest = u.rest; matches = right u.matches; sub = u.sub; joins = u.joins }
      ]
  split (w.star a c at f) i count number x g run =
      let here = at_node i (a + 1) (n.Star a) at (omega arith) in
      split_star (h.first i (n.Star a) here)
      (λ less y sub. from_equal (after a) i (h.continues i (n.Star a) here) (split c a less number y refl sub)) (count + 1) count x
      (omega arith) run
  split (w.plus a c at f) i count number x g run =
      let here = at_node i (a + 1) (n.Plus a) at (omega arith) in
      let r = on_go (h.first i (n.Plus a) here) run in
      let fewer = r.fewer in
      let to_again = h.continues i (n.Plus a) here in
      let u = from_equal (after a) (length nodes + i) to_again (split c a r.less number x refl r.run) in
      let fewer' = u.sub.fewer in
      let v = split_star (h.again i (n.Plus a) here)
      (λ less y sub. from_equal (after a) (length nodes + i) to_again (split c a less number y refl sub)) (u.sub.less + 1) u.sub.less u.rest
      (omega arith) u.sub.run in
      let fewer'' = v.sub.fewer in
      record {
        front = u.front ++ v.front;
        rest = v.rest;
        matches = once u.matches v.matches refl;
        sub = record { less = v.sub.less; fewer = omega arith; run = v.sub.run };
        joins = u.joins ∙ ap (λ z. u.front ++ z) v.joins ∙ sym (append_assoc u.front v.front v.rest);
      }
  split (w.maybe a c at f) i count number x g run =
      let here = at_node i (a + 1) (n.Maybe a) at (omega arith) in
      elim (on_fork (h.first i (n.Maybe a) here) run) [
        | inl r ↦
            let u = more_steps r.fewer (from_equal (after a) (after i) (h.continues i (n.Maybe a) here) (split c a r.less number x refl r.run)) in
            record { front = u.front; rest = u.rest; matches = present u.matches; sub = u.sub; joins = u.joins }
        | inr r ↦ record { front = []; rest = x; matches = absent refl; sub = r; joins = refl }
      ]
