use Rattle.std.proofs.Common.{◌≡◌}
use Rattle.wb_scan.specs.Bare.{bare_forms}
use Rattle.wb_scan.proofs.forms.bare_forms.Given as goal

abbrev pub invariant-terminals : goal.invariant-terminals
invariant-terminals l = l.forms.items ≡ bare_forms l.terminal
