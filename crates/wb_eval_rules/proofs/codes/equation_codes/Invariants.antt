use Rattle.std.proofs.Common.{take}
use Rattle.wb_eval_rules.specs.Codes.{AreEquationCodes}
use Rattle.wb_eval_rules.proofs.codes.equation_codes.Given as goal

abbrev pub invariant-equations : goal.invariant-equations
invariant-equations l = AreEquationCodes l.signatures (take l.equation-index l.equations) l.made.items
