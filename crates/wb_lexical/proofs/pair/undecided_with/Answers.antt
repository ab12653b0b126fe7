use Rattle.std.proofs.Common.{arith, sym, ◌∙◌}
use Rattle.std.proofs.lemmas.Bool.{true≢false}
use Rattle.wb_lexical.proofs.ClashLemmas.{right_more, right_end}
use Rattle.wb_lexical.proofs.pair.undecided_with.Goals as goal

pub loop-right-preserved : goal.loop-right-preserved
loop-right-preserved c = right_more c.args.accepted.now c.args.preferences.now c.args.left c.loop-right.right-index
    (λ u. true≢false (sym (c.is_undecided.ensures.1 (u.less, u.unordered)) ∙ c.if-is_undecided.false)) c.loop-right.invariant

pub returns-clause-none : goal.returns-clause-none
returns-clause-none c e right u = right_end c.args.accepted.now c.args.preferences.now c.args.left c.loop-right.right-index
    (omega arith) c.loop-right.invariant right u
