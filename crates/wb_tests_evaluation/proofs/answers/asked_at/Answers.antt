use Rattle.wb_values.specs.ValuesIn.{tree_in}
use Rattle.wb_tests_evaluation.proofs.AskedLemmas.{asked_read}
use Rattle.wb_tests_evaluation.proofs.answers.asked_at.Goals as goal

pub returns-then-production-len : goal.returns-then-production-len
returns-then-production-len c =
    asked_read c.args.attributes.now c.parts.result.now c.parts-then-production-len.result.now c.parts.ensures.whole c.parts.ensures.parts
    c.parts-then-production-len.ensures.parts (tree_in c.args.store.now c.args.root.0) c.requires.fits c.left.result
    c.production-production.result c.production-production.ensures c.left.ensures c.asked_of.result c.asked_of.ensures.goes
    c.asked_of.ensures.flow_type
