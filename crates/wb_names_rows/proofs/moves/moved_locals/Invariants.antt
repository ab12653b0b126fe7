use Rattle.std.proofs.Common.{take}
use Rattle.std.specs.List.{AllZip}
use Rattle.wb_names_rows.specs.Moves.{IsLocalNow}
use Rattle.wb_names_rows.proofs.moves.moved_locals.Given as goal

abbrev pub invariant-loop-local : goal.invariant-loop-local
invariant-loop-local l = AllZip (IsLocalNow l.moves) (take l.local-index l.locals) l.made.items
