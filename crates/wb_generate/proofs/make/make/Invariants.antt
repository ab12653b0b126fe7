use Rattle.std.proofs.Common.{◌+◌}
use Rattle.std.specs.Prelude.{slice_index}
use Rattle.wb_generate.specs.Inner.Runs.{IsUnderWay, bound, start_of, steps}
use Rattle.wb_generate.specs.Inner.States.{state_of}
use Rattle.wb_generate.proofs.make.make.Given as goal

abbrev pub invariant-steps : goal.invariant-steps
invariant-steps l =
    IsUnderWay l.grammar l.choices.counts.items 100000 (bound l.grammar (l.spare + (slice_index l.choices.counts.items l.grammar.start + 0)))
    (start_of l.grammar l.spare l.number) (state_of l.making)

abbrev pub decreases-steps : goal.decreases-steps
decreases-steps l =
    steps l.grammar l.choices.counts.items (bound l.grammar (l.spare + (slice_index l.choices.counts.items l.grammar.start + 0)))
    (state_of l.making)
