use Rattle.std.proofs.Common.{refl, sym, subst}
use Rattle.wb_recheck_lines.specs.Inner.Walks.{IsNextLine}
use Rattle.wb_recheck_lines.proofs.LineStateLemmas.{next_none_listed, next_none_symbol, next_some}
use Rattle.wb_recheck_lines.proofs.line_states.next_state.Goals as goal

pub returns-in_err-next : goal.returns-in_err-next
returns-in_err-next c =
    subst (IsNextLine c.args.kernels.now c.args.found.now.states c.args.line) (sym c.from_residual.ensures)
    (next_none_symbol c.args.kernels.now c.requires.kernels c.args.found.now.states c.args.line c.state.result c.state.ensures
    (c.in_err-next.ensures.none.0 refl))

pub returns-in-None : goal.returns-in-None
returns-in-None c =
    next_some c.args.kernels.now c.requires.kernels c.args.found.now.states c.args.line c.state.result c.in_ok-next.next c.state.ensures
    c.in_ok-next.ensures.some c.in-None.ensures

pub returns-in-Some : goal.returns-in-Some
returns-in-Some c =
    next_none_listed c.args.kernels.now c.requires.kernels c.args.found.now.states c.args.line c.state.result c.in_ok-next.next _
    c.state.ensures c.in_ok-next.ensures.some c.in-Some.ensures
