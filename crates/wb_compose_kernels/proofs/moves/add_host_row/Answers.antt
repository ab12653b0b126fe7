use Rattle.std.proofs.Common.{arith}
use Rattle.wb_compose_kernels.proofs.RowLemmas.{host_moves}
use Rattle.wb_compose_kernels.proofs.moves.add_host_row.Goals as goal

pub add_row-requires : goal.add_row-requires
add_row-requires c move has =
    let b = ((c.moves-row.ensures.exact move.symbol move.state).0 has).1 in
    let l = c.requires.lists in
    omega (arith, b, l)

pub returns : goal.returns
returns c =
    let taken = c.args.taken.now in
    host_moves c.args.splice.now taken.host taken.numbers.now taken.marks.now c.args.state c.number_at-from.result
    c.moves-row.result.now c.args.moves.now.items c.add_row.new.moves.items c.number_at-from.ensures c.moves-row.ensures.exact
    c.in_ok-add_row.ensures
