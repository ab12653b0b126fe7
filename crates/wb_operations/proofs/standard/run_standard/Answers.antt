use Rattle.std.proofs.Common.{ℕ, subst, sym}
use Rattle.wb_operations.specs.Given.{IsGiven, plains_of}
use Rattle.wb_operations.specs.Standard.{standard}
use Rattle.wb_operations.proofs.standard.run_standard.Goals as goal

pub returns-in-1 : goal.returns-in-1
returns-in-1 c = subst (λ (n : ℕ). IsGiven (standard n (plains_of c.args.arguments.now)) c.standard_sub.result)
    (sym c.in-1.is) c.standard_sub.ensures.answer
