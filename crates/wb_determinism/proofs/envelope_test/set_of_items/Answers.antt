use Rattle.wb_determinism.proofs.ConsideredLemmas.{own_indexable}
use Rattle.wb_determinism.proofs.envelope_test.set_of_items.Goals as goal

pub envelope_of-requires-clause-own : goal.envelope_of-requires-clause-own
envelope_of-requires-clause-own c =
    own_indexable c.args.context.now c.requires.context c.args.state c.args.own.now c.requires.own c.requires.state
