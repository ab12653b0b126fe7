use Rattle.std.proofs.Common.{◌≡◌, [], length, sym, subst, arith, below_more}
use Rattle.std.specs.BinaryHeap.{heap_items}
use Rattle.std.proofs.lemmas.Grind.{common_steps}
use Rattle.wb_lemmas.proofs.Members.{contains_first}
use Rattle.wb_lemmas.proofs.Parts.{no_elements}
use Rattle.wb_generate.specs.Inner.Lowerings.{IsLowering, state_of}
use Rattle.wb_generate.proofs.LoweringLemmas.{least_settled, lowering_start, settled_all}
use Rattle.wb_generate.proofs.counts.lowered_counts.Goals as goal

pub productions-init : goal.productions-init
productions-init c =
    record {
      lowering = subst (IsLowering c.args.grammar.now 100001) (sym c.in_ok-lowering.ensures)
          (rw c.nonterminals.ensures (lowering_start c.args.grammar.now 100001));
      settled = λ p lt. absurd (omega arith);
    }

pub productions-preserved : goal.productions-preserved
productions-preserved c =
    let step = c.in_ok-lower.ensures in
    record {
      lowering = step.lowering;
      settled = below_more _ _ (λ p lt. step.keeps p (c.productions.invariant.settled p lt))
          (step.here c.productions.production (contains_first c.productions.production []));
    }

pub waiting-init : goal.waiting-init
waiting-init c = record {
  lowering = c.productions.invariant.lowering;
  settled = settled_all c.args.grammar.now 100001 (state_of c.productions.lowering) c.productions.production (omega arith)
      c.productions.invariant.settled;
}

pub waiting-preserved : goal.waiting-preserved
waiting-preserved c = record { lowering = c.in_ok-advance.ensures.lowering; settled = c.in_ok-advance.ensures.settled }

pub returns : goal.returns
returns c =
    let none : length (heap_items c.waiting.lowering.waiting) ≡ 0 = grind (arith, common_steps, c.is_empty.ensures, c.waiting-test.false) in
    least_settled c.args.grammar.now 100001 (state_of c.waiting.lowering) c.waiting.invariant.lowering c.waiting.invariant.settled
    (no_elements (heap_items c.waiting.lowering.waiting) none)
