use Rattle.std.proofs.Common.{◌≡◌, refl, sym, subst}
use Rattle.wb_lemmas.proofs.Refusals.{handed_on}
use Rattle.wb_flow.specs.declared.refusal.AttributeRefusal.TheVariants.{NoMemory}
use Rattle.wb_complete.specs.Inner.ForwardTests.{RefusesProduction}
use Rattle.wb_complete.proofs.equations.check_allowed.Goals as goal

pub returns-in_err-defined-clause-refused : goal.returns-in_err-defined-clause-refused
returns-in_err-defined-clause-refused c =
    let t = c.args.reading.now.tested.now in
    let refuses = RefusesProduction t.scope.now.attributes.now t.number t.production.now in
    handed_on (λ f. f ≡ NoMemory c.in_err-defined.field-0.0) refuses c.from_residual.result (NoMemory c.in_err-defined.field-0.0)
    c.from_residual.ensures.1 (λ f same. subst refuses (sym same) tt) refl
