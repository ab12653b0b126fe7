use Rattle.std.proofs.Common.{◌<◌, length}
use Rattle.wb_tests_formats.proofs.terms.shared.Given as goal

abbrev pub invariant-loop-step : goal.invariant-loop-step
invariant-loop-step l = l.last.0 < length l.store
