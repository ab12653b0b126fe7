use Rattle.wb_recheck.proofs.ExtensionLemmas.{marks_beside}
use Rattle.wb_recheck.proofs.beside.test_marked.Goals as goal

pub returns-in-Err-clause-refused : goal.returns-in-Err-clause-refused
returns-in-Err-clause-refused c =
    marks_beside c.args.resolved.now c.args.certificate.now c.args.host.now.grammar c.in-Err.refusal c.of_determinism.result
    c.of_determinism.ensures c.requires.grammar c.in-Err.ensures.refused c.in-Err.ensures.early
