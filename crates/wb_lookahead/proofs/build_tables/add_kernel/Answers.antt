use Rattle.std.proofs.Common.{◌∙◌}
use Rattle.wb_lookahead.proofs.PartLemmas.{parts_more}
use Rattle.wb_lookahead.proofs.RowLemmas.{row_valid}
use Rattle.wb_lookahead.proofs.build_tables.add_kernel.Goals as goal

pub returns-clause-ok : goal.returns-clause-ok
returns-clause-ok c =
    let (gotos, goto_row, gotos_are) = c.in_ok-add_gotos.ensures in
    let row = c.in_ok-row.row in
    let is = c.in_ok-row.ensures.ok in
    parts_more c.args.parts.now c.add_row.new.parts c.args.state row.codes.items gotos row.valid
    c.in_ok-add_row.ensures.actions (c.in_ok-add_row.ensures.gotos ∙ gotos_are) c.in_ok-add_row.ensures.valid is.actions goto_row
    (row_valid c.requires.kernels c.requires.state is.actions row.valid is.valid.len is.valid.each) c.requires.before
