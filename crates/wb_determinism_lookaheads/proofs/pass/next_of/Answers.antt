use Rattle.wb_determinism_lookaheads.proofs.PassedLemmas.{leads_by}
use Rattle.wb_determinism_lookaheads.proofs.pass.next_of.Goals as goal

pub returns : goal.returns
returns c =
    leads_by c.requires.context c.args.place c.moves.result.now c.args.symbol c.target_of.result c.moves.ensures c.target_of.ensures
