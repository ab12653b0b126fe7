use Rattle.std.proofs.Common.{◌≡◌, Contains, refl, sym, subst}
use Rattle.wb_lemmas.proofs.Refusals.{handed_on}
use Rattle.wb_flow_theory.specs.Occurrences.{ForwardNeeds}
use Rattle.wb_flow.specs.declared.refusal.AttributeRefusal.TheVariants.{NoMemory}
use Rattle.wb_flow.proofs.ReachLemmas.{selection_as}
use Rattle.wb_complete.specs.Inner.ForwardTests.{RefusesProduction}
use Rattle.wb_complete.proofs.equations.check_reach.Goals as goal

pub returns-in_err-allowed-clause-refused : goal.returns-in_err-allowed-clause-refused
returns-in_err-allowed-clause-refused c =
    let t = c.args.tested.now in
    let refuses = RefusesProduction t.scope.now.attributes.now t.number t.production.now in
    handed_on (λ f. f ≡ NoMemory c.in_err-allowed.field-0.0) refuses c.from_residual.result (NoMemory c.in_err-allowed.field-0.0)
    c.from_residual.ensures.1 (λ f same. subst refuses (sym same) tt) refl

pub check_allowed-answer-requires : goal.check_allowed-answer-requires
check_allowed-answer-requires c =
    let t = c.args.tested.now in record {
      tested = c.requires.tested;
      reach = c.requires.reach;
      allowed = selection_as c.args.reach.now (Contains c.forward_needs-listed.result.now)
          (ForwardNeeds t.scope.now.attributes.now t.production.now.left) c.in_ok-allowed.allowed c.forward_needs-listed.ensures
          c.in_ok-allowed.ensures;
    }
