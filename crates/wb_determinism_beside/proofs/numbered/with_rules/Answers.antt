use Rattle.wb_determinism_beside.proofs.AskedLemmas.{given_is}
use Rattle.wb_determinism_beside.proofs.numbered.with_rules.Goals as goal

pub find-requires-clause-given : goal.find-requires-clause-given
find-requires-clause-given c = given_is c.args.fit.now c.requires.fit c.args.beside.now c.requires.beside
