use Rattle.std.proofs.Common.{sym, subst, take, ◌+◌}
use Rattle.std.specs.List.{AllZip}
use Rattle.wb_names_rows.specs.Moves.{IsEquationNow, EquationIsWithin}
use Rattle.wb_names_rows.proofs.ZipLemmas.{zip_more, zip_all}
use Rattle.wb_names_rows.proofs.moves.moved_equations.Goals as goal

pub loop-equation-preserved : goal.loop-equation-preserved
loop-equation-preserved c =
    subst (AllZip (IsEquationNow c.args.moves.now) (take (c.loop-equation.equation-index + 1) c.args.equations.now)) (sym
    c.in_ok-push.ensures.ok)
    (zip_more (IsEquationNow c.args.moves.now) c.args.equations.now c.loop-equation.made.items c.loop-equation.equation-index
    c.equation-item.result c.in_ok-found.found c.loop-equation.invariant c.loop-equation-test.true
    c.equation-item.is c.in_ok-found.ensures)

pub moved_equation-requires : goal.moved_equation-requires
moved_equation-requires c =
    subst (EquationIsWithin c.args.moves.now) (sym c.equation-item.is)
    (c.requires c.loop-equation.equation-index c.equation-item.result c.loop-equation-test.true)

pub returns : goal.returns
returns c =
    zip_all (IsEquationNow c.args.moves.now) c.args.equations.now c.loop-equation.made.items c.loop-equation.equation-index
    c.loop-equation.invariant c.loop-equation-test.false
