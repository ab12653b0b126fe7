use Rattle.std.proofs.Common.{◌≡◌, ◌∙◌, arith, get_or, refl, subst, sym}
use Rattle.std.specs.Prelude.{Contains}
use Rattle.std.proofs.lemmas.Bool.{true≢false}
use Rattle.wb_automata_positions.specs.Transitions.{IsLeaf}
use Rattle.wb_automata_positions.proofs.ClosureLemmas.{adds_as, adds_none, adds_one, first_all, first_more, first_none, of_all}
use Rattle.wb_automata_positions.proofs.closure.add_leaves.Goals as goal
use Rattle.wb_automata_positions.proofs.closure.add_leaves.Goals.{then-is_leaf+in_ok-push, else-is_leaf}

pub loop-q-init : goal.loop-q-init
loop-q-init c = first_none (λ from d. IsLeaf c.args.nodes.now from × (d ≡ from)) c.args.met.now c.args.all.now

pub loop-q-preserved : goal.loop-q-preserved
loop-q-preserved c = elim c.if-is_leaf.branch [
  | then-is_leaf+in_ok-push w ↦ rw (w.all-is)
      (first_more (λ from d. IsLeaf c.args.nodes.now from × (d ≡ from)) c.args.met.now c.args.all.now
      c.loop-q.all _ c.loop-q.q-index (omega arith)
      (adds_as (λ d. d ≡ get_or c.args.met.now c.loop-q.q-index 0)
      (λ d. IsLeaf c.args.nodes.now (get_or c.args.met.now c.loop-q.q-index 0) × (d ≡ get_or c.args.met.now c.loop-q.q-index 0))
      c.loop-q.all _
      (λ d. (λ e. (c.is_leaf.ensures.0 w.if-is_leaf.true, e), λ h. h.1))
      (adds_one c.loop-q.all _ (get_or c.args.met.now c.loop-q.q-index 0) w.in_ok-push.ensures)) c.loop-q.invariant)
  | else-is_leaf w ↦ rw (w.all-is) (first_more (λ from d. IsLeaf c.args.nodes.now from × (d ≡ from)) c.args.met.now c.args.all.now
      c.loop-q.all c.loop-q.all c.loop-q.q-index (omega arith)
      (adds_none (λ d. IsLeaf c.args.nodes.now (get_or c.args.met.now c.loop-q.q-index 0) × (d ≡ get_or c.args.met.now c.loop-q.q-index 0))
      c.loop-q.all (λ d h. absurd (true≢false (sym (c.is_leaf.ensures.1 h.0) ∙ w.if-is_leaf.false)))) c.loop-q.invariant)
]

pub returns : goal.returns
returns c = first_all (λ from d. IsLeaf c.args.nodes.now from × (d ≡ from)) (λ q. IsLeaf c.args.nodes.now q × Contains c.args.met.now q)
    c.args.met.now c.args.all.now c.loop-q.all c.loop-q.q-index (omega arith)
    (λ d from has h. (subst (IsLeaf c.args.nodes.now) (sym h.1) h.0, subst (Contains c.args.met.now) (sym h.1) has))
    (λ d v. of_all (λ from d. IsLeaf c.args.nodes.now from × (d ≡ from)) c.args.met.now d d v.1 (v.0, refl)) c.loop-q.invariant
