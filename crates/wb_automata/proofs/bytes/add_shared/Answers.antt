use Rattle.wb_automata.proofs.ByteLemmas.{has_both, kept_both}
use Rattle.wb_automata.proofs.bytes.add_shared.Goals as goal

pub returns-clause-kept : goal.returns-clause-kept
returns-clause-kept c = kept_both c.args.words.now c.args.lefts.now c.args.rights.now

pub returns-clause-both : goal.returns-clause-both
returns-clause-both c = has_both c.args.words.now c.args.lefts.now c.args.rights.now
