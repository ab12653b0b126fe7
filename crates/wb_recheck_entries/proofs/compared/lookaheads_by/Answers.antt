use Rattle.std.proofs.Common.{IfErr, IfOk, subst}
use Rattle.wb_recheck_theory.specs.Certificates.{IsCertificate}
use Rattle.wb_recheck_theory.specs.Lines.{AreGoodLines}
use Rattle.wb_recheck_lines.specs.Faults.{IsLineRefusal}
use Rattle.wb_recheck_entries.specs.Inner.Faults.{IsFaultIn}
use Rattle.wb_recheck_entries.proofs.FaultLemmas.{line_told}
use Rattle.wb_recheck_entries.proofs.compared.lookaheads_by.Goals as goal

pub lookaheads_after-answer-requires : goal.lookaheads_after-answer-requires
lookaheads_after-answer-requires c = record {
  facts = c.requires.facts;
  of_grammar = c.requires.of_grammar;
  kernels = c.requires.kernels;
  good = subst (λ z. AreGoodLines z c.as_slice-lines.result.now) c.requires.of_grammar c.in-Ok.ensures.good;
  states = c.in-Ok.ensures.states;
}

pub returns-in-Ok-clause-certificate : goal.returns-in-Ok-clause-certificate
returns-in-Ok-clause-certificate c =
    let g = c.args.grammar.now in
    subst (λ z. IfOk c.lookaheads_after-answer.result (λ lookaheads. IsCertificate g z c.args.certificate.now.entries))
    c.as_slice-lines.ensures
    (subst (λ z. IfOk c.lookaheads_after-answer.result (λ lookaheads. IsCertificate g c.as_slice-lines.result.now z)) c.as_slice.ensures
    c.lookaheads_after-answer.ensures.certificate)

pub returns-in-Ok-clause-refused : goal.returns-in-Ok-clause-refused
returns-in-Ok-clause-refused c =
    let g = c.args.grammar.now in
    subst (λ z. IfErr c.lookaheads_after-answer.result (IsFaultIn g z c.args.certificate.now.entries)) c.as_slice-lines.ensures
    (subst (λ z. IfErr c.lookaheads_after-answer.result (IsFaultIn g c.as_slice-lines.result.now z)) c.as_slice.ensures
    c.lookaheads_after-answer.ensures.refused)

pub returns-in-Err-clause-refused : goal.returns-in-Err-clause-refused
returns-in-Err-clause-refused c =
    line_told c.args.grammar.now c.args.certificate.now.lines c.args.certificate.now.entries c.in-Err.refusal
    (subst (λ z. IsLineRefusal z c.args.certificate.now.lines c.in-Err.refusal) c.requires.of_grammar
    (subst (λ z. IsLineRefusal c.args.kernels.now.grammar z c.in-Err.refusal) c.as_slice-lines.ensures c.in-Err.ensures.refused))
    c.of_lines.result c.of_lines.ensures
