use Rattle.wb_recheck.proofs.ExtensionLemmas.{facts_beside}
use Rattle.wb_recheck.proofs.beside.test_facts.Goals as goal

pub returns-in-Err-clause-refused : goal.returns-in-Err-clause-refused
returns-in-Err-clause-refused c =
    facts_beside c.args.resolved.now c.args.certificate.now c.args.host.now.grammar c.requires.markers c.in-Err.refusal
    c.of_determinism.result c.of_determinism.ensures c.requires.beside.grammar c.in-Err.ensures.refused c.in-Err.ensures.early
