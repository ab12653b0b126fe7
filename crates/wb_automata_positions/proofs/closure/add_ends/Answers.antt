use Rattle.std.proofs.Common.{◌≡◌, ◌+◌, ◌-◌, arith, get_or, refl, subst}
use Rattle.std.specs.Prelude.{Contains}
use Rattle.wb_automata_positions.proofs.ClosureLemmas.{adds_as, adds_none, adds_one, first_all, first_more, first_none, of_all}
use Rattle.wb_automata_positions.proofs.closure.add_ends.Goals as goal
use Rattle.wb_automata_positions.proofs.closure.add_ends.Goals.{then-q-first+in_ok-push, else-q-first}

pub loop-q-init : goal.loop-q-init
loop-q-init c = first_none (λ from d. from ≡ c.args.first + d) c.args.met.now c.args.all.now

pub loop-q-preserved : goal.loop-q-preserved
loop-q-preserved c = elim c.if-q-first.branch [
  | then-q-first+in_ok-push w ↦ rw (w.all-is) (first_more (λ from d. from ≡ c.args.first + d) c.args.met.now c.args.all.now
      c.loop-q.all _ c.loop-q.q-index (omega arith)
      (adds_as (λ d. d ≡ get_or c.args.met.now c.loop-q.q-index 0 - c.args.first)
      (λ d. get_or c.args.met.now c.loop-q.q-index 0 ≡ c.args.first + d) c.loop-q.all _
      (λ d. (λ e. omega (arith, e, w.if-q-first.true), λ e. omega (arith, e)))
      (adds_one c.loop-q.all _ (get_or c.args.met.now c.loop-q.q-index 0 - c.args.first) w.in_ok-push.ensures)) c.loop-q.invariant)
  | else-q-first w ↦ rw (w.all-is) (first_more (λ from d. from ≡ c.args.first + d) c.args.met.now c.args.all.now
      c.loop-q.all c.loop-q.all c.loop-q.q-index (omega arith)
      (adds_none (λ d. get_or c.args.met.now c.loop-q.q-index 0 ≡ c.args.first + d)
      c.loop-q.all (λ d h. absurd (omega (arith, h, w.if-q-first.false)))) c.loop-q.invariant)
]

pub returns : goal.returns
returns c = first_all (λ from d. from ≡ c.args.first + d) (λ k. Contains c.args.met.now (c.args.first + k))
    c.args.met.now c.args.all.now c.loop-q.all c.loop-q.q-index (omega arith)
    (λ d from has h. subst (Contains c.args.met.now) h has)
    (λ d v. of_all (λ from d. from ≡ c.args.first + d) c.args.met.now (c.args.first + d) d v refl) c.loop-q.invariant
