use Rattle.wb_generate.specs.Inner.Lowerings.{state_of}
use Rattle.wb_generate.proofs.LoweringLemmas.{settles_all, settles_more, settles_none}
use Rattle.wb_generate.proofs.counts.Lowering.lower_all.Goals as goal

pub productions-init : goal.productions-init
productions-init c = settles_none c.args.grammar.now 100001 (state_of c.args.self.now) c.requires.lowering

pub lower-requires-clause-production : goal.lower-requires-clause-production
lower-requires-clause-production c = c.requires.productions c.productions.production-index _ c.productions-test.true

pub productions-preserved : goal.productions-preserved
productions-preserved c =
    settles_more c.args.grammar.now 100001 c.args.productions.now c.productions.production-index _ (state_of c.args.self.now)
    (state_of c.productions.self) (state_of c.lower.new.self) c.productions-test.true c.productions.invariant c.in_ok-lower.ensures

pub returns : goal.returns
returns c = settles_all c.args.grammar.now 100001 c.args.productions.now c.productions.production-index (state_of c.args.self.now)
    (state_of c.productions.self) c.productions-test.false c.productions.invariant
