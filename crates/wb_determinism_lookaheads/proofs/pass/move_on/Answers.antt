use Rattle.wb_determinism_lookaheads.proofs.TrueLemmas.{true_moved}
use Rattle.wb_determinism_lookaheads.proofs.pass.move_on.Goals as goal

pub unite-requires-clause-holds : goal.unite-requires-clause-holds
unite-requires-clause-holds c =
    true_moved c.requires.context c.args.place c.args.item c.args.set.now c.requires.holds c.in-Some-new_place.to c.in-Some.next
    c.args.symbol (c.requires.symbol.0) (c.requires.symbol.1) c.in-Some.ensures c.in-Some-new_place.ensures
