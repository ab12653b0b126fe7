use Rattle.std.proofs.Common.{◌-◌, ◌^◌}
use Rattle.wb_recheck_writer.specs.Inner.Reached.{AreReached, grammar_of, lines_of}
use Rattle.wb_recheck_writer.proofs.entries.write_entries.Given as goal

abbrev pub invariant-entries : goal.invariant-entries
invariant-entries l = AreReached (grammar_of l.context) (lines_of l.context) l.entries l.place

abbrev pub decreases-entries : goal.decreases-entries
decreases-entries l = 2 ^ 64 - l.place
