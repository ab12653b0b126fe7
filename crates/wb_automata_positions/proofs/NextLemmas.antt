-- Where nodes go on, as it is set from the last node down.
use Rattle.std.proofs.Common.{◌≡◌, ℕ, ◌+◌, ◌≤◌, ◌<◌, List, refl, sym, ◌∙◌, ap, subst, arith, inl, inr, Some, length, get_or, set, replicate}
use Rattle.std.proofs.Common.{length-set, get_or-set_same, get_or-set_other}
use Rattle.std.specs.Prelude.{slice_get}
use Rattle.std.proofs.lemmas.Bool.{cases_eq}
use Rattle.std.proofs.lemmas.List.{get_or-replicate, length-replicate}
use Rattle.std.proofs.lemmas.Option.{slice_get_within, same_Some}
use Rattle.wb_regex.specs.declared.node.RegexNode.{RegexNode}
use Rattle.wb_regex.specs.declared.node.RegexNode.TheVariants as n
use Rattle.wb_automata_positions.specs.Inner.Parts.{PartsBelow}
use Rattle.wb_automata_positions.specs.Inner.Machines.{AreContinued, AreDifferent, AreEndsSet, AreNextBelow, Continues, HaveOneParent, IsPart, linked}

-- what isn't a part of the node stays
linked_other : (count at : ℕ) (node : RegexNode) (next : List ℕ) (x : ℕ) → (IsPart node x → ⊥)
    → get_or (linked count at node next) x 0 ≡ get_or next x 0
linked_other count at (n.Set words) next x out = refl
linked_other count at (n.Sequence i j) next x out = get_or-set_other (set next i j) j x (get_or next at 0) 0 (λ e. out (inr e))
    ∙ get_or-set_other next i x j 0 (λ e. out (inl e))
linked_other count at (n.Choice i j) next x out =
    get_or-set_other (set next i (get_or next at 0)) j x (get_or next at 0) 0 (λ e. out (inr e))
    ∙ get_or-set_other next i x (get_or next at 0) 0 (λ e. out (inl e))
linked_other count at (n.Star i) next x out = get_or-set_other next i x at 0 out
linked_other count at (n.Plus i) next x out = get_or-set_other next i x (count + at) 0 out
linked_other count at (n.Maybe i) next x out = get_or-set_other next i x (get_or next at 0) 0 out

linked_len : (count at : ℕ) (node : RegexNode) (next : List ℕ) → length (linked count at node next) ≡ length next
linked_len count at (n.Set words) next = refl
linked_len count at (n.Sequence i j) next = length-set (set next i j) j (get_or next at 0) ∙ length-set next i j
linked_len count at (n.Choice i j) next =
    length-set (set next i (get_or next at 0)) j (get_or next at 0) ∙ length-set next i (get_or next at 0)
linked_len count at (n.Star i) next = length-set next i at
linked_len count at (n.Plus i) next = length-set next i (count + at)
linked_len count at (n.Maybe i) next = length-set next i (get_or next at 0)

-- no node is a part of itself
not_own : (at x : ℕ) (node : RegexNode) → PartsBelow at node → at ≤ x → IsPart node x → ⊥
not_own at x (n.Set words) below le part = part
not_own at x (n.Sequence i j) (u, v) le (inl e) = omega arith
not_own at x (n.Sequence i j) (u, v) le (inr e) = omega arith
not_own at x (n.Choice i j) (u, v) le (inl e) = omega arith
not_own at x (n.Choice i j) (u, v) le (inr e) = omega arith
not_own at x (n.Star i) u le e = omega arith
not_own at x (n.Plus i) u le e = omega arith
not_own at x (n.Maybe i) u le e = omega arith

-- the parts of the node go on where they should
linked_here : (count at : ℕ) (node : RegexNode) (next : List ℕ) → at < length next → PartsBelow at node → AreDifferent node
    → Continues (linked count at node next) count at node
linked_here count at (n.Set words) next lt below different = tt
linked_here count at (n.Sequence i j) next lt (u, v) different =
    let same = linked_other count at (n.Sequence i j) next at (λ part. not_own at at (n.Sequence i j) (u, v) (omega arith) part) in
    let value = get_or next at 0 in (
      get_or-set_other (set next i j) j i value 0 (λ e. omega arith) ∙ get_or-set_same next i j 0 (omega arith),
      get_or-set_same (set next i j) j value 0 (omega (arith, length-set next i j)) ∙ sym same,
    )
linked_here count at (n.Choice i j) next lt (u, v) different =
    let same = linked_other count at (n.Choice i j) next at (λ part. not_own at at (n.Choice i j) (u, v) (omega arith) part) in
    let value = get_or next at 0 in (
      get_or-set_other (set next i value) j i value 0 (λ e. omega arith) ∙ get_or-set_same next i value 0 (omega arith) ∙ sym same,
      get_or-set_same (set next i value) j value 0 (omega (arith, length-set next i value)) ∙ sym same,
    )
linked_here count at (n.Star i) next lt u different = get_or-set_same next i at 0 (omega arith)
linked_here count at (n.Plus i) next lt u different = get_or-set_same next i (count + at) 0 (omega arith)
linked_here count at (n.Maybe i) next lt u different = get_or-set_same next i (get_or next at 0) 0 (omega arith)
    ∙ sym (linked_other count at (n.Maybe i) next at (λ part. not_own at at (n.Maybe i) u (omega arith) part))

-- and those of another node still do
linked_keeps : (count at j : ℕ) (node other : RegexNode) (next : List ℕ) → ((x : ℕ) → IsPart node x → IsPart other x → ⊥) →
    (IsPart node j → ⊥) → Continues next count j other → Continues (linked count at node next) count j other
linked_keeps count at j node (n.Set words) next out out_j h = tt
linked_keeps count at j node (n.Sequence a b) next out out_j (e, f) = (
  linked_other count at node next a (λ part. out a part (inl refl)) ∙ e,
  linked_other count at node next b (λ part. out b part (inr refl)) ∙ f ∙ sym (linked_other count at node next j out_j),
)
linked_keeps count at j node (n.Choice a b) next out out_j (e, f) = (
  linked_other count at node next a (λ part. out a part (inl refl)) ∙ e ∙ sym (linked_other count at node next j out_j),
  linked_other count at node next b (λ part. out b part (inr refl)) ∙ f ∙ sym (linked_other count at node next j out_j),
)
linked_keeps count at j node (n.Star a) next out out_j e = linked_other count at node next a (λ part. out a part refl) ∙ e
linked_keeps count at j node (n.Plus a) next out out_j e = linked_other count at node next a (λ part. out a part refl) ∙ e
linked_keeps count at j node (n.Maybe a) next out out_j e =
    linked_other count at node next a (λ part. out a part refl) ∙ e ∙ sym (linked_other count at node next j out_j)

set_below : (m : ℕ) (next : List ℕ) (i v : ℕ) → v < m → AreNextBelow m next → AreNextBelow m (set next i v)
set_below m next i v small h k lt = elim (cases_eq k i) [
  | inl e ↦ (let len = length-set next i v in let lt' : i < length next = omega arith in
      subst (λ z. get_or (set next i v) z 0 < m) (sym e) (rw (get_or-set_same next i v 0 lt') small))
  | inr ne ↦ rw (get_or-set_other next i k v 0 ne) (h k (omega (arith, length-set next i v)))
]

-- all stay below the count
linked_below : (m count at : ℕ) (node : RegexNode) (next : List ℕ) → at < length next → PartsBelow at node → count + at < m
    → AreNextBelow m next → AreNextBelow m (linked count at node next)
linked_below m count at (n.Set words) next lt below small h = h
linked_below m count at (n.Sequence i j) next lt (u, v) small h =
    set_below m (set next i j) j (get_or next at 0) (h at lt) (set_below m next i j (omega arith) h)
linked_below m count at (n.Choice i j) next lt (u, v) small h =
    set_below m (set next i (get_or next at 0)) j (get_or next at 0) (h at lt) (set_below m next i (get_or next at 0) (h at lt) h)
linked_below m count at (n.Star i) next lt u small h = set_below m next i at (omega arith) h
linked_below m count at (n.Plus i) next lt u small h = set_below m next i (count + at) small h
linked_below m count at (n.Maybe i) next lt u small h = set_below m next i (get_or next at 0) (h at lt) h

-- no root goes on yet
pub no_ends : (size : ℕ) (roots next : List ℕ) (count : ℕ) → count ≡ size + size + length roots → next ≡ replicate size 0
    → AreEndsSet size roots next count 0
no_ends size roots next count is e = record {
  len = ap length e ∙ length-replicate {A = ℕ} size 0;
  below = λ i lt.
      let small : i < size = omega (arith, ap length e, length-replicate {A = ℕ} size 0) in
      rw (ap (λ z. get_or z i 0) e, get_or-replicate {A = ℕ} size i 0 0 small) (omega arith);
  ends = λ j lt. absurd (omega arith);
}

-- one root more
pub ends_more : (nodes : List RegexNode) (roots next : List ℕ) (count k : ℕ) → HaveOneParent nodes roots
    → count ≡ length nodes + length nodes + length roots → k < length roots → AreEndsSet (length nodes) roots next count k
    → AreEndsSet (length nodes) roots (set next (get_or roots k 0) (length nodes + length nodes + k)) count (k + 1)
ends_more nodes roots next count k parents is lt h = record {
  len = length-set next (get_or roots k 0) (length nodes + length nodes + k) ∙ h.len;
  below = set_below count next (get_or roots k 0) (length nodes + length nodes + k) (omega arith) h.below;
  ends = λ j less. elim (cases_eq j k) [
    | inl e ↦ subst (λ z. get_or (set next (get_or roots k 0) (length nodes + length nodes + k)) (get_or roots z 0) 0
        ≡ length nodes + length nodes + z) (sym e)
        (get_or-set_same next (get_or roots k 0) (length nodes + length nodes + k) 0 (omega (arith, h.len, parents.roots_below k lt)))
    | inr ne ↦ get_or-set_other next (get_or roots k 0) (get_or roots j 0) (length nodes + length nodes + k) 0
        (λ same. let less' = parents.roots_apart j k (omega arith) lt in omega arith) ∙ h.ends j (omega arith)
  ];
}

pub continued_begin : (nodes : List RegexNode) (roots next : List ℕ) (count : ℕ) → AreEndsSet (length nodes) roots next count (length roots)
    → AreContinued nodes roots next count (length nodes)
continued_begin nodes roots next count h = record {
  ends = h;
  parts = λ j node le at. absurd (omega (arith, slice_get_within nodes j node at));
}

-- one node more
pub continued_more : (nodes : List RegexNode) (roots next : List ℕ) (count k : ℕ) (node : RegexNode) → HaveOneParent nodes roots
    → count ≡ length nodes + length nodes + length roots → slice_get nodes k ≡ Some node
    → AreContinued nodes roots next count (k + 1) → AreContinued nodes roots (linked (length nodes) k node next) count k
continued_more nodes roots next count k node parents is at h =
    let size = length nodes in
    let within = slice_get_within nodes k node at in
    let below = parents.parts k node at in
    let lt : k < length next = omega (arith, h.ends.len) in
    record {
      ends = record {
        len = linked_len size k node next ∙ h.ends.len;
        below = linked_below count size k node next lt below (omega arith) h.ends.below;
        ends = λ j less. linked_other size k node next (get_or roots j 0)
            (λ part. parents.roots_free k j (get_or roots j 0) node less at part refl) ∙ h.ends.ends j less;
      };
      parts = λ j other le at_j. elim (cases_eq j k) [
        | inl e ↦
            let same : node ≡ other = same_Some node other (sym at ∙ ap (slice_get nodes) (sym e) ∙ at_j) in
            subst (λ z. Continues (linked size k node next) size z other) (sym e)
            (subst (Continues (linked size k node next) size k) same
            (linked_here size k node next lt below (parents.different k node at)))
        | inr ne ↦ linked_keeps size k j node other next
            (λ x part part_other. parents.apart k j x node other (omega arith) at at_j part part_other)
            (λ part. not_own k j node below le part) (h.parts j other (omega arith) at_j)
      ];
    }
