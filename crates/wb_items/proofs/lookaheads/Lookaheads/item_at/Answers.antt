use Rattle.std.proofs.Common.{length, sym, ◌∙◌, ap, subst, arith}
use Rattle.std.specs.Prelude.{slice_get}
use Rattle.wb_items.specs.Lookaheads.{AreNumbered}
use Rattle.wb_items.proofs.RowLemmas.{items_read, row_items_are, row_len}
use Rattle.wb_items.proofs.lookaheads.Lookaheads.item_at.Goals as goal

pub item_at-requires : goal.item_at-requires
item_at-requires c =
    let h : AreNumbered c.args.self.now = subst AreNumbered c.self.view_is c.self.invariant in
    let read = items_read c.self.view_is c.args.state c.requires.state c.index.result.now c.index.ensures in
    let e = ap length (c.as_slice.ensures ∙ read) in
    omega (arith, e, row_len h c.args.state, c.requires.place)

pub returns : goal.returns
returns c =
    let h : AreNumbered c.args.self.now = subst AreNumbered c.self.view_is c.self.invariant in
    let read = items_read c.self.view_is c.args.state c.requires.state c.index.result.now c.index.ensures in
    ap (λ z. slice_get z c.args.place) (row_items_are h c.args.state ∙ sym (c.as_slice.ensures ∙ read)) ∙ c.item_at.ensures
