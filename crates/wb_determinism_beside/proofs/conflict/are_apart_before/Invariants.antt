use Rattle.wb_determinism.specs.Conflicts.{AreApartBefore}
use Rattle.wb_determinism_beside.proofs.conflict.are_apart_before.Given as goal

abbrev pub invariant-places : goal.invariant-places
invariant-places l = AreApartBefore l.grammar l.row l.other l.looks
