use Rattle.std.proofs.Common.{◌≤◌, arith, length, sym}
use Rattle.std.proofs.lemmas.List.{length-take-le, take_all}
use Rattle.wb_explain_flows_lists.proofs.lists.first_of.Goals as goal

pub returns-then-found-le-MOST : goal.returns-then-found-le-MOST
returns-then-found-le-MOST g c = sym (take_all 40 c.args.found.now c.if-found-le-MOST.true)

pub slice_bounds-result-end : goal.slice_bounds-result-end
slice_bounds-result-end g c =
    let some : 40 ≤ length c.args.found.now = omega (arith, c.if-found-le-MOST.false) in
    sym (length-take-le 40 c.args.found.now some)
