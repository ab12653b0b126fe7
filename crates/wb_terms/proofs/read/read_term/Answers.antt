use Rattle.wb_terms.specs.TermAnswer.{stands, answer_of}
use Rattle.wb_values.specs.ValuesIn.{tree_in}
use Rattle.wb_terms.proofs.AnswerLemmas.{one_answer}
use Rattle.wb_terms.proofs.FitLemmas.{tree_fits}
use Rattle.wb_terms.proofs.ReadLemmas.{refusal_only}
use Rattle.wb_terms.proofs.read.read_term.Goals as goal

pub returns-in-Ok-clause-only : goal.returns-in-Ok-clause-only
returns-in-Ok-clause-only c =
    λ answer is. one_answer c.args.signatures.now c.args.bytes.now answer
    (stands (tree_in c.add_term.new.store c.in-Ok.tree.0)) is c.in-Ok.ensures.ok

pub returns-in-Err-clause-only : goal.returns-in-Err-clause-only
returns-in-Err-clause-only c =
    λ answer is. refusal_only c.args.signatures.now c.args.bytes.now (answer_of c.in-Err.refusal) answer c.in-Err.ensures.refused is

pub returns-in-Ok-clause-fits : goal.returns-in-Ok-clause-fits
returns-in-Ok-clause-fits c =
    let is = c.in-Ok.ensures.ok in
    tree_fits c.args.signatures.now is.term (tree_in c.add_term.new.store c.in-Ok.tree.0) is.its
