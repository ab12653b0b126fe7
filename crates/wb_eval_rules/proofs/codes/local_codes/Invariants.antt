use Rattle.std.proofs.Common.{take}
use Rattle.wb_eval_rules.specs.Codes.{AreLocalCodes}
use Rattle.wb_eval_rules.proofs.codes.local_codes.Given as goal

abbrev pub invariant-locals : goal.invariant-locals
invariant-locals l = AreLocalCodes l.signatures (take l.local-index l.locals) l.made.items
