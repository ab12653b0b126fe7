use Rattle.wb_tests_evaluation.proofs.CertifiedLemmas.{Certified, certified_read}
use Rattle.wb_tests_evaluation.proofs.answers.host_answers.Goals as goal

pub all_answer-requires-clause-productions : goal.all_answer-requires-clause-productions
all_answer-requires-clause-productions g c =
    (certified_read c.args.host.now.resolved c.resolved.result.now c.parts.result.now c.args.host.now.operations c.args.operations.now.signatures
    c.resolved.ensures.resolved c.parts.ensures.parts c.requires.over c.resolved.ensures.certified).0

pub all_answer-requires-clause-kinds : goal.all_answer-requires-clause-kinds
all_answer-requires-clause-kinds g c =
    (certified_read c.args.host.now.resolved c.resolved.result.now c.parts.result.now c.args.host.now.operations c.args.operations.now.signatures
    c.resolved.ensures.resolved c.parts.ensures.parts c.requires.over c.resolved.ensures.certified).1
