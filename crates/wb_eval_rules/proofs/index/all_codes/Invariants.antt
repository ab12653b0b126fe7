use Rattle.std.proofs.Common.{take}
use Rattle.wb_eval_rules.specs.Codes.{AreCoded}
use Rattle.wb_eval_rules.proofs.index.all_codes.Given as goal

abbrev pub invariant-productions : goal.invariant-productions
invariant-productions l = AreCoded l.signatures (take l.production-index l.productions) l.made.items
