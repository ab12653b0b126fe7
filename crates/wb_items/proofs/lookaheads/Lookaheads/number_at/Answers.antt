use Rattle.std.proofs.Common.{length, ap, subst, arith}
use Rattle.wb_items.specs.Lookaheads.{AreNumbered}
use Rattle.wb_items.proofs.RowLemmas.{numbers_read, row_numbers_len}
use Rattle.wb_items.proofs.lookaheads.Lookaheads.number_at.Goals as goal

pub at-requires : goal.at-requires
at-requires c =
    let h : AreNumbered c.args.self.now = subst AreNumbered c.self.view_is c.self.invariant in
    let read = numbers_read c.self.view_is h c.args.state c.requires.state c.index.result.now c.index.ensures in
    let e = ap length read in
    omega (arith, e, row_numbers_len h c.args.state, c.requires.place)
