use Rattle.wb_recheck.proofs.HandedLemmas.{kind_fault}
use Rattle.wb_recheck.proofs.value.test_kinds.Goals as goal

pub returns-in-Err-clause-refused : goal.returns-in-Err-clause-refused
returns-in-Err-clause-refused g c =
    kind_fault c.args.resolved.now c.args.operations.now.signatures c.in-Err.refusal c.of_certify.result c.of_certify.ensures
    c.in-Err.ensures.refused
