use Rattle.std.proofs.Common.{◌≡◌}
use Rattle.wb_explain_values.proofs.certified.add_all.Given as goal

abbrev pub invariant-files : goal.invariant-files
invariant-files g l = l.certified.host ≡ l.initial.certified.host
