use Rattle.wb_recheck_entries.proofs.FaultLemmas.{entry_told}
use Rattle.wb_recheck_entries.proofs.compared.test_listed.Goals as goal

pub returns-in-Err-clause-refused : goal.returns-in-Err-clause-refused
returns-in-Err-clause-refused c =
    entry_told c.args.reference.now.grammar.now c.args.reference.now.lines.now c.args.entries.now c.in-Err.refusal c.requires.good
    c.in-Err.ensures.refused c.of_entries.result c.of_entries.ensures
