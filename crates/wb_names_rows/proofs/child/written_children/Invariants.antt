use Rattle.std.proofs.Common.{take}
use Rattle.std.specs.List.{AllZip}
use Rattle.wb_names_numbers_theory.specs.Numbering.{Numbering}
use Rattle.wb_names_rows.specs.Scope.{IsFoundChild}
use Rattle.wb_names_rows.proofs.child.written_children.Given as goal

abbrev pub invariant-loop-child : goal.invariant-loop-child
invariant-loop-child l = (n : Numbering) → AllZip (IsFoundChild l.scope n) (take l.child-index l.children) l.made.items
