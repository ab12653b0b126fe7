-- A match of a node and then a text that leads on lead from the node's place.
use Rattle.std.proofs.Common.{◌≡◌, ℕ, ◌+◌, List, ◌++◌, refl, sym, ◌∙◌, ap, subst, arith, inl, inr, Some, length, get_or, append_assoc}
use Rattle.std.specs.Prelude.{slice_get}
use Rattle.wb_regex.specs.Tree.{Tree, Star}
use Rattle.wb_regex.specs.Covers as w
use Rattle.wb_regex.specs.Matches.{Matches, byte, both, left, right, none, more, once, absent, present}
use Rattle.wb_regex.specs.declared.node.RegexNode.{RegexNode}
use Rattle.wb_regex.specs.declared.node.RegexNode.TheVariants as n
use Rattle.wb_automata_positions.specs.declared.places.Place.{Place}
use Rattle.wb_automata_positions.specs.declared.places.Place.TheVariants as p
use Rattle.wb_automata_positions.specs.Places.{Runs, reads, moves}
use Rattle.wb_automata_positions.proofs.RunLemmas.{IsMade}

abbrev RunsFrom : List Place → ℕ → ℕ → List ℕ → Type 0
RunsFrom places number at x = Runs places at number x

-- a repetition, where its part leads on to it again
star_run : {places : List Place} {tree : Tree} {at part next number : ℕ} → slice_get places at ≡ Some (p.Fork part next) →
    ((y z x : List ℕ) → Matches tree y → Runs places at number z → x ≡ y ++ z → Runs places part number x) → (y z x : List ℕ)
    → Matches (Star tree) y → Runs places next number z → x ≡ y ++ z → Runs places at number x
star_run {places} {tree} {at} {part} {next} {number} is body y z x (none e) run g = moves (p.Fork part next) next is (inr refl)
    (subst (Runs places next number) (sym (g ∙ ap (λ v. v ++ z) e)) run)
star_run {places} {tree} {at} {part} {next} {number} is body y z x (more {x = u} {y = v} m k e) run g = moves (p.Fork part next) part is
    (inl refl) (body u (v ++ z) x m (star_run {places = places} {tree = tree} {at = at} {part = part} {next = next} {number = number} is body v z (v ++ z) k run refl)
    (g ∙ ap (λ q. q ++ z) e ∙ append_assoc u v z))

module _ (nodes : List RegexNode) (next : List ℕ) (places : List Place) (h : IsMade nodes next places) (number : ℕ) where
  abbrev after : ℕ → ℕ
  after i = get_or next i 0

  at_node : (i j : ℕ) (node : RegexNode) → slice_get nodes j ≡ Some node → i ≡ j → slice_get nodes i ≡ Some node
  at_node i j node is e = subst (λ z. slice_get nodes z ≡ Some node) (sym e) is

  -- a run from an equal place
  from_same : {at other : ℕ} {x : List ℕ} → other ≡ at → Runs places at number x → Runs places other number x
  from_same {at} {other} {x} e run = subst (λ z. Runs places z number x) (sym e) run

  pub complete : {s e : ℕ} {tree : Tree} → w.Covers nodes s e tree → (i : ℕ) (y z x : List ℕ) → e ≡ i + 1 → Matches tree y
      → Runs places (after i) number z → x ≡ y ++ z → Runs places i number x
  complete (w.set {s = s} words at f) i y z x g (byte {b = b} holds e) run j =
      reads (p.Read words (after i)) b (after i) (h.first i (n.Set words) (at_node i s (n.Set words) at (omega arith))) (holds, refl) run
      (j ∙ ap (λ v. v ++ z) e)
  complete (w.sequence a b c d at f) i y z x g (both {x = u} {y = v} m k e) run j =
      let here = at_node i (b + 1) (n.Sequence a b) at (omega arith) in
      let (to_b, to_next) = h.continues i (n.Sequence a b) here in
      moves (p.Go a) a (h.first i (n.Sequence a b) here) refl (complete c a u (v ++ z) x refl m
      (from_same to_b (complete d b v z (v ++ z) refl k (from_same to_next run) refl)) (j ∙ ap (λ q. q ++ z) e ∙ append_assoc u v z))
  complete (w.choice a b c d at f) i y z x g (left m) run j =
      let here = at_node i (b + 1) (n.Choice a b) at (omega arith) in
      let (left_next, right_next) = h.continues i (n.Choice a b) here in
      moves (p.Fork a b) a (h.first i (n.Choice a b) here) (inl refl) (complete c a y z x refl m (from_same left_next run) j)
  complete (w.choice a b c d at f) i y z x g (right m) run j =
      let here = at_node i (b + 1) (n.Choice a b) at (omega arith) in
      let (left_next, right_next) = h.continues i (n.Choice a b) here in
      moves (p.Fork a b) b (h.first i (n.Choice a b) here) (inr refl) (complete d b y z x refl m (from_same right_next run) j)
  complete (w.star {r = r} a c at f) i y z x g m run j =
      let here = at_node i (a + 1) (n.Star a) at (omega arith) in
      star_run {places = places} {tree = r} {at = i} {part = a} {next = after i} {number = number} (h.first i (n.Star a) here)
      (λ u v q k sub e. complete c a u v q refl k (from_same (h.continues i (n.Star a) here) sub) e) y z x m run j
  complete (w.plus {r = r} a c at f) i y z x g (once {x = u} {y = v} m k e) run j =
      let here = at_node i (a + 1) (n.Plus a) at (omega arith) in
      let to_again = h.continues i (n.Plus a) here in
      moves (p.Go a) a (h.first i (n.Plus a) here) refl (complete c a u (v ++ z) x refl m
      (from_same to_again (star_run {places = places} {tree = r} {at = length nodes + i} {part = a} {next = after i} {number = number} (h.again i (n.Plus a) here)
      (λ l o q k' sub e'. complete c a l o q refl k' (from_same to_again sub) e') v z (v ++ z) k run refl))
      (j ∙ ap (λ q. q ++ z) e ∙ append_assoc u v z))
  complete (w.maybe a c at f) i y z x g (absent e) run j =
      let here = at_node i (a + 1) (n.Maybe a) at (omega arith) in
      moves (p.Fork a (after i)) (after i) (h.first i (n.Maybe a) here) (inr refl)
      (subst (Runs places (after i) number) (sym (j ∙ ap (λ v. v ++ z) e)) run)
  complete (w.maybe a c at f) i y z x g (present m) run j =
      let here = at_node i (a + 1) (n.Maybe a) at (omega arith) in
      moves (p.Fork a (after i)) a (h.first i (n.Maybe a) here) (inl refl)
      (complete c a y z x refl m (from_same (h.continues i (n.Maybe a) here) run) j)
