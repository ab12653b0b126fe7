use Rattle.wb_compose_kernels.proofs.RowLemmas.{part_moves, row_there, rows_within}
use Rattle.wb_compose_kernels.proofs.moves.add_new_row.Goals as goal

pub moves-row-requires : goal.moves-row-requires
moves-row-requires c =
    row_there c.args.splice.now c.requires.given c.args.part c.args.place c.part_at-found.result c.part_at-found.ensures c.requires.place

pub add_row-requires : goal.add_row-requires
add_row-requires c =
    rows_within c.args.splice.now c.requires.given c.args.to.now.host.now c.args.to.now.new.now c.args.part c.args.place
    c.part_at-found.result c.moves-row.result.now c.requires.host c.requires.new c.part_at-found.ensures c.moves-row.ensures

pub returns : goal.returns
returns c =
    let to = c.args.to.now in
    part_moves c.args.splice.now to.names to.host.now to.new.now to.marks.now c.args.part c.args.place c.number_in-from.result
    c.part_at-found.result c.moves-row.result.now c.args.moves.now.items c.add_row.new.moves.items c.part_at-found.ensures
    c.moves-row.ensures c.number_in-from.ensures c.in_ok-add_row.ensures
