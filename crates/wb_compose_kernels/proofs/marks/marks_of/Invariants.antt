use Rattle.wb_compose_kernels.specs.Inner.Moves.{AreMarksUpTo}
use Rattle.wb_compose_kernels.proofs.marks.marks_of.Given as goal

abbrev pub invariant-parts : goal.invariant-parts
invariant-parts l = AreMarksUpTo l.splice l.blocks l.numbers l.new l.part l.marks.items
