use Rattle.std.proofs.Common.{length, sym, ◌∙◌, ap, subst}
use Rattle.wb_items.specs.Lookaheads.{AreNumbered}
use Rattle.wb_items.proofs.RowLemmas.{items_read, row_len}
use Rattle.wb_items.proofs.lookaheads.Lookaheads.len.Goals as goal

pub returns : goal.returns
returns c =
    let h : AreNumbered c.args.self.now = subst AreNumbered c.self.view_is c.self.invariant in
    let read = items_read c.self.view_is c.args.state c.requires c.index.result.now c.index.ensures in
    ap length (c.as_slice.ensures ∙ read) ∙ sym (row_len h c.args.state)
