use Rattle.wb_explain_mismatches.proofs.StepLemmas.{WouldLead}
use Rattle.wb_explain_mismatches.proofs.steps.leads.Given as goal

abbrev pub invariant-steps : goal.invariant-steps
invariant-steps l = WouldLead l.signatures l.operations l.steps l.from l.fn.to l.step-index l.kind
