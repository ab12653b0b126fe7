use Rattle.std.proofs.Common.{◌≡◌, Some}
use Rattle.std.specs.Prelude.{slice_get}
use Rattle.wb_recheck_writer.specs.Inner.Lines.{AreNumberedUpTo}
use Rattle.wb_recheck_writer.proofs.MoveLemmas.{AreInBelow}
use Rattle.wb_recheck_writer.proofs.lines.add_moves.Given as goal

abbrev pub invariant-places : goal.invariant-places
invariant-places l = record {
  up : AreNumberedUpTo l.kernels l.numbered l.from;
  at : slice_get l.numbered.states.states l.from ≡ Some l.state;
  below : AreInBelow l.moves l.numbered.states.states l.place;
}
