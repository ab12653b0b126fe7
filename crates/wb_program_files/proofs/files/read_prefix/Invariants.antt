-- The loop keeps a prefix of the file, and what the shelf promises since the call began.
use Rattle.std.proofs.Common.{◌≡◌, ◌≤◌, ◌-◌, ◌+◌, vec_len}
use Rattle.wb_program_files.specs.Inner.Prefixes.{KnownPrefix}
use Rattle.wb_program_files.specs.Stopped.{outside, GoesOn}
use Rattle.wb_program_files.proofs.files.read_prefix.Given as goal

abbrev pub invariant-loop-bytes : goal.invariant-loop-bytes
invariant-loop-bytes g l = record {
  within : vec_len l.bytes ≤ l.limit + 1;
  room : vec_len l.piece ≡ 65536;
  goes_on : GoesOn (outside (g.S.Shelf.files l.fn.shelf) (g.S.Shelf.absences l.fn.shelf) (g.S.Shelf.faults l.fn.shelf))
      (outside (g.S.Shelf.files l.shelf) (g.S.Shelf.absences l.shelf) (g.S.Shelf.faults l.shelf));
  part : KnownPrefix (g.S.Shelf.files l.fn.shelf) l.name l.bytes.items;
}

abbrev pub decreases-loop-bytes : goal.decreases-loop-bytes
decreases-loop-bytes g l = l.limit + 1 - vec_len l.bytes
