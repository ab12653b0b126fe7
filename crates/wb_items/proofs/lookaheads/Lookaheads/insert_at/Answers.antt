use Rattle.std.proofs.Common.{◌<◌, length, sym, ◌∙◌, subst}
use Rattle.wb_items.proofs.RowLemmas.{entry_set, set_read}
use Rattle.wb_items.proofs.lookaheads.Lookaheads.insert_at.Goals as goal

pub insert-requires : goal.insert-requires
insert-requires c =
    let n = c.number_at-number.result in
    let (looks, there, is) = entry_set c.args.self.now c.args.state c.args.place n c.requires.place c.number_at-number.ensures.number in
    let read = set_read c.self.view_is n c.number_at-number.ensures.below c.index_mut.result.now c.index_mut.ensures.value in
    subst (λ z. c.args.terminal < length z) (sym (read ∙ is)) (c.requires.terminal looks there)
