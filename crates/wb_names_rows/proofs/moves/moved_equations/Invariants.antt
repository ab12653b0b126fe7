use Rattle.std.proofs.Common.{take}
use Rattle.std.specs.List.{AllZip}
use Rattle.wb_names_rows.specs.Moves.{IsEquationNow}
use Rattle.wb_names_rows.proofs.moves.moved_equations.Given as goal

abbrev pub invariant-loop-equation : goal.invariant-loop-equation
invariant-loop-equation l = AllZip (IsEquationNow l.moves) (take l.equation-index l.equations) l.made.items
