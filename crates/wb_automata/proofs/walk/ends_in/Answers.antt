use Rattle.std.proofs.Common.{◌∙◌, arith, sym}
use Rattle.wb_automata.proofs.AnswerLemmas.{ends_all, ends_more, ends_some}
use Rattle.wb_automata.proofs.walk.ends_in.Goals as goal

pub returns-then-is_some-clause-some : goal.returns-then-is_some-clause-some
returns-then-is_some-clause-some c = ends_some c.args.places.now c.args.pairs.now c.loop-pair.pair-index c.ends_of-ends.result
    c.loop-pair-test.true c.ends_of-ends.ensures

pub loop-pair-preserved : goal.loop-pair-preserved
loop-pair-preserved c = ends_more c.args.places.now c.args.pairs.now c.loop-pair.pair-index c.ends_of-ends.result c.loop-pair-test.true
    c.ends_of-ends.ensures (sym c.is_some.ensures ∙ c.if-is_some.false) c.loop-pair.invariant

pub returns-clause-none : goal.returns-clause-none
returns-clause-none c none = ends_all c.args.places.now c.args.pairs.now c.loop-pair.pair-index (omega arith) c.loop-pair.invariant
