use Rattle.std.proofs.Common.{◌≤◌, arith, length, sym}
use Rattle.std.proofs.lemmas.List.{length-take-le, take_all}
use Rattle.wb_explain_stops.proofs.stop.first_of.Goals as goal

pub returns-then-terminals-le-MOST : goal.returns-then-terminals-le-MOST
returns-then-terminals-le-MOST c = sym (take_all 40 c.args.terminals.now c.if-terminals-le-MOST.true)

pub slice_bounds-result-end : goal.slice_bounds-result-end
slice_bounds-result-end c =
    let some : 40 ≤ length c.args.terminals.now = omega (arith, c.if-terminals-le-MOST.false) in
    sym (length-take-le 40 c.args.terminals.now some)
