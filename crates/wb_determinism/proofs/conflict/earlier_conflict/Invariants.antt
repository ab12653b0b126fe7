use Rattle.wb_determinism.specs.Conflicts.{AreApartBefore}
use Rattle.wb_determinism.proofs.conflict.earlier_conflict.Given as goal

abbrev pub invariant-places : goal.invariant-places
invariant-places l = AreApartBefore l.grammar l.row l.other l.looks
