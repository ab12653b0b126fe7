use Rattle.std.proofs.Common.{◌≡◌, ◌≤◌, ◌-◌, length, drop, map}
use Rattle.wb_program_words.specs.Rows.{name_of}
use Rattle.wb_program_words.specs.Asked.{texts}
use Rattle.wb_program_words.specs.Inner.Parts.{IsBegun}
use Rattle.wb_program_words.proofs.options.options_of.Given as goal

abbrev pub invariant-parts : goal.invariant-parts
invariant-parts l = (l.rest ≤ length l.words) × IsBegun (map name_of l.names) (texts l.words) (drop l.rest (texts l.words)) l.slots × (length l.slots ≡ 3)

abbrev pub decreases-parts : goal.decreases-parts
decreases-parts l = length l.words - l.rest
