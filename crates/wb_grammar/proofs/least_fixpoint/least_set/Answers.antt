use Rattle.std.proofs.Common.{◌≡◌, [], sym, subst, arith, below_more}
use Rattle.std.proofs.lemmas.Grind.{common_steps}
use Rattle.wb_grammar.specs.Inner.Worklists.{state_of, IsWorklist}
use Rattle.wb_grammar.proofs.WorklistLemmas.{worklist_start, worklist_end, passed_none, settled_all}
use Rattle.wb_grammar.proofs.least_fixpoint.least_set.Goals as goal

pub productions-init : goal.productions-init
productions-init c =
    let g = c.args.grammar.now in
    record {
      worklist = subst (IsWorklist g c.args.terminals) (sym c.in_ok-worklist.ensures)
          (rw c.nonterminals.ensures (worklist_start g c.args.terminals));
      settled = λ p lt. absurd (omega arith);
    }

pub pass-requires-clause-passed : goal.pass-requires-clause-passed
pass-requires-clause-passed c = passed_none c.args.grammar.now c.args.terminals c.productions.worklist.set c.productions.production
    (omega arith)

pub productions-preserved : goal.productions-preserved
productions-preserved c =
    let step = c.in_ok-pass.ensures in
    record {
      worklist = step.worklist;
      settled = below_more _ _ (λ p lt. step.keeps p (c.productions.invariant.settled p lt)) step.settled;
    }

pub waiting-init : goal.waiting-init
waiting-init c = (
  c.productions.invariant.worklist,
  settled_all c.args.grammar.now c.args.terminals (state_of c.productions.worklist) c.productions.production
      (omega arith) c.productions.invariant.settled,
)

pub returns : goal.returns
returns c =
    let empty : c.waiting.worklist.waiting.items ≡ [] = grind (arith, common_steps, c.is_empty.ensures, c.waiting-test.false) in
    worklist_end c.args.grammar.now c.args.terminals (state_of c.waiting.worklist) c.waiting.invariant.0 c.waiting.invariant.1 empty
