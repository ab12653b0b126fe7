use Rattle.std.proofs.Common.{take}
use Rattle.std.specs.List.{AllZip}
use Rattle.wb_names_rows.specs.Nodes.{IsAt}
use Rattle.wb_names_rows.proofs.plains.written_needs.Given as goal

abbrev pub invariant-loop-name : goal.invariant-loop-name
invariant-loop-name l = AllZip (IsAt l.scope.attributes) (take l.name-index l.names) l.made.items
