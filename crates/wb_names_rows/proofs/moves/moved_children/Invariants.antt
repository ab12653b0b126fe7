use Rattle.std.proofs.Common.{take}
use Rattle.std.specs.List.{AllZip}
use Rattle.wb_names_rows.specs.Moves.{IsChildNow}
use Rattle.wb_names_rows.proofs.moves.moved_children.Given as goal

abbrev pub invariant-loop-child : goal.invariant-loop-child
invariant-loop-child l = AllZip (IsChildNow l.moves) (take l.child-index l.children) l.made.items
