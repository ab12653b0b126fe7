-- Expressions that are one text alone, by their nodes.
use Rattle.std.proofs.Common.{◌≡◌, ◌≤◌, ◌+◌, ℕ, List, [], ◌∷◌, ◌++◌, Some, length, slice_get}
use Rattle.std.proofs.Common.{refl, sym, ◌∙◌, ap, subst, arith, inl, inr, append_assoc, length-append}
use Rattle.std.proofs.lemmas.Bool.{cases_lt}
use Rattle.wb_lemmas.proofs.Places.{at_within, at_once, push_keeps, push_last, push_before}
use Rattle.wb_automata_positions.proofs.JoinLemmas.{covers_below}
use Rattle.wb_regex.specs.Covers as w
use Rattle.wb_regex.specs.Matches.{Matches, byte, both}
use Rattle.wb_regex.specs.Tree.{Tree}
use Rattle.wb_regex.specs.declared.node.RegexNode.{RegexNode}
use Rattle.wb_regex.specs.declared.node.RegexNode.TheVariants as n
use Rattle.wb_automata.specs.Inner.PlainTexts.{MatchesOnly, Adds, AreTexts, IsTextOf}

module _ (nodes : List RegexNode) where
  -- no nodes
  pub no_text : IsTextOf nodes 0 []
  no_text = (
    [] ∷ [],
    record {
      len = refl;
      first = refl;
      last = refl;
      steps = λ k node before after low. absurd (omega (arith, low));
    },
  )

  -- one node more
  pub text_more : (i : ℕ) (text after : List ℕ) (node : RegexNode) → slice_get nodes i ≡ Some node → IsTextOf nodes i text
      → Adds node text after → IsTextOf nodes (i + 1) after
  text_more i text after node there (rows, are) adds = (
    rows ++ after ∷ [],
    record {
      len = length-append rows (after ∷ []) ∙ ap (λ k. k + 1) are.len;
      first = push_keeps rows after 0 [] are.first;
      last = subst (λ k. slice_get (rows ++ after ∷ []) k ≡ Some after) are.len (push_last rows after);
      steps = λ k own x y low at at_x at_y. elim (cases_lt k i) [
        | inl old ↦
            let len = are.len in
            are.steps k own x y old at (sym (push_before rows after k (omega (arith, old, len))) ∙ at_x)
            (sym (push_before rows after (k + 1) (omega (arith, old, len))) ∙ at_y)
        | inr past ↦
            let len = are.len in
            let here : k ≡ i = omega (arith, low, past) in
            let same : own ≡ node = at_once nodes i own node (subst (λ z. slice_get nodes z ≡ Some own) here at) there in
            let old : x ≡ text = at_once rows i x text
            (subst (λ z. slice_get rows z ≡ Some x) here (sym (push_before rows after k (omega (arith, low, len))) ∙ at_x)) are.last in
            let end : k + 1 ≡ length rows = omega (arith, here, len) in
            let new : y ≡ after = at_once (rows ++ after ∷ []) (length rows) y after
            (subst (λ z. slice_get (rows ++ after ∷ []) z ≡ Some y) end at_y) (push_last rows after) in
            subst (λ z. Adds z x y) (sym same) (subst (λ z. Adds node z y) (sym old) (subst (Adds node text) (sym new) adds))
      ];
    },
  )

  module _ (count : ℕ) (text : List ℕ) (rows : List (List ℕ)) (are : AreTexts nodes count text rows) where
    -- a match of a tree is what its nodes add
    added : {s e : ℕ} {t : Tree} → w.Covers nodes s e t → e ≤ count → (u v x : List ℕ) → slice_get rows s ≡ Some u
        → slice_get rows e ≡ Some v → Matches t x → v ≡ u ++ x
    added (w.set {s = s} words at f) low u v x from to (byte {b = c} holds is) =
        let (own, single, now) = are.steps s (n.Set words) u v (omega (arith, low, f)) at from (subst (λ z. slice_get rows z ≡ Some v) f to) in
        now ∙ ap (λ (z : List ℕ). u ++ z) (ap (λ (z : ℕ). z ∷ []) (sym (single c holds)) ∙ sym is)
    added (w.sequence {s = s} i j c d at f) low u v x from to (both {x = y} {y = z} m q is) =
        let len = are.len in
        let next = covers_below d in
        let (mid, at_mid) = at_within rows (i + 1) (omega (arith, low, f, len, next)) in
        let (end, at_end) = at_within rows (j + 1) (omega (arith, low, f, len)) in
        let last = are.steps (j + 1) (n.Sequence i j) end v (omega (arith, low, f)) at at_end
        (subst (λ k. slice_get rows k ≡ Some v) (let e : _ ≡ j + 1 + 1 = omega (arith, f) in e) to) in
        let one = added c (omega (arith, low, f, next)) u mid y from at_mid m in
        let two = added d (omega (arith, low, f)) mid end z at_mid at_end q in
        last ∙ two ∙ ap (λ (k : List ℕ). k ++ z) one ∙ append_assoc u y z ∙ ap (λ (k : List ℕ). u ++ k) (sym is)
    added (w.choice {s = s} i j c d at f) low u v x from to m =
        let len = are.len in
        let (end, at_end) = at_within rows (j + 1) (omega (arith, low, f, len)) in
        absurd (are.steps (j + 1) (n.Choice i j) end v (omega (arith, low, f)) at at_end
        (subst (λ k. slice_get rows k ≡ Some v) (let e : _ ≡ j + 1 + 1 = omega (arith, f) in e) to))
    added (w.star {s = s} i c at f) low u v x from to m =
        let len = are.len in
        let (end, at_end) = at_within rows (i + 1) (omega (arith, low, f, len)) in
        absurd (are.steps (i + 1) (n.Star i) end v (omega (arith, low, f)) at at_end
        (subst (λ k. slice_get rows k ≡ Some v) (let e : _ ≡ i + 1 + 1 = omega (arith, f) in e) to))
    added (w.plus {s = s} i c at f) low u v x from to m =
        let len = are.len in
        let (end, at_end) = at_within rows (i + 1) (omega (arith, low, f, len)) in
        absurd (are.steps (i + 1) (n.Plus i) end v (omega (arith, low, f)) at at_end
        (subst (λ k. slice_get rows k ≡ Some v) (let e : _ ≡ i + 1 + 1 = omega (arith, f) in e) to))
    added (w.maybe {s = s} i c at f) low u v x from to m =
        let len = are.len in
        let (end, at_end) = at_within rows (i + 1) (omega (arith, low, f, len)) in
        absurd (are.steps (i + 1) (n.Maybe i) end v (omega (arith, low, f)) at at_end
        (subst (λ k. slice_get rows k ≡ Some v) (let e : _ ≡ i + 1 + 1 = omega (arith, f) in e) to))

  -- where all nodes add to a text, it is the only match
  pub only : (t : Tree) (text : List ℕ) → w.Covers nodes 0 (length nodes) t → IsTextOf nodes (length nodes) text → MatchesOnly t text
  only t text covers (rows, are) x m = sym (added (length nodes) text rows are covers (omega arith) [] text x are.first are.last m)
