use Rattle.wb_automata.proofs.PairLemmas.{stuck_is}
use Rattle.wb_automata.proofs.stuck.is_stuck.Goals as goal

pub returns : goal.returns
returns c = stuck_is c.args.places.now c.args.pair _ _ c.are_stuck.result c.requires c.are_stuck.ensures
