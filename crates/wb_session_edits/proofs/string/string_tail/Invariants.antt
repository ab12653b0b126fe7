use Rattle.std.proofs.Common.{length}
use Rattle.wb_session_edits.specs.Inner.Strings.{HasDecoded}
use Rattle.wb_session_edits.proofs.string.string_tail.Given as goal

abbrev pub invariant-parts : goal.invariant-parts
invariant-parts l = HasDecoded l.text l.left l.decoded.items

abbrev pub decreases-parts : goal.decreases-parts
decreases-parts l = length l.left
