use Rattle.std.proofs.Common.{length, ◌∙◌, ap}
use Rattle.wb_items.proofs.RowLemmas.{entry_set, set_read}
use Rattle.wb_items.proofs.lookaheads.Lookaheads.union_at.Goals as goal

pub union_with-requires : goal.union_with-requires
union_with-requires c =
    let n = c.number_at-number.result in
    let (looks, there, is) = entry_set c.args.self.now c.args.state c.args.place n c.requires.place c.number_at-number.ensures.number in
    let read = set_read c.self.view_is n c.number_at-number.ensures.below c.index_mut.result.now c.index_mut.ensures.value in
    ap length (read ∙ is) ∙ c.requires.len looks there
