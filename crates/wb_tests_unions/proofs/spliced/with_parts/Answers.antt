-- Lookaheads at new kernels can be found.
use Rattle.wb_tests_unions.proofs.UnionLemmas.{all_ready}
use Rattle.wb_tests_unions.proofs.spliced.with_parts.Goals as goal

pub sets_of-requires-clause-ready : goal.sets_of-requires-clause-ready
sets_of-requires-clause-ready c = all_ready c.args.own.now c.args.extensions.now c.args.parts.now c.requires.parts
