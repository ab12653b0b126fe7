use Rattle.std.proofs.Common.{length, ◌-◌}
use Rattle.wb_compose_language.specs.Inner.TextMachines.{IsFollowed}
use Rattle.wb_compose_language.proofs.text_machine.is_match.Given as goal

abbrev pub invariant-bytes : goal.invariant-bytes
invariant-bytes l = IsFollowed l.machine l.number l.text l.place l.state

abbrev pub decreases-bytes : goal.decreases-bytes
decreases-bytes l = length l.text - l.place
