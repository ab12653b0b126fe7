use Rattle.std.proofs.Common.{length, ap, subst, arith}
use Rattle.wb_items.specs.Lookaheads.{AreNumbered}
use Rattle.wb_items.proofs.PutLemmas.{put_kept}
use Rattle.wb_items.proofs.RowLemmas.{numbers_read, row_numbers_len}
use Rattle.wb_items.proofs.lookaheads.Lookaheads.put_at.Goals as goal

pub put-requires : goal.put-requires
put-requires c =
    let h : AreNumbered c.args.self.now = subst AreNumbered c.self.view_is c.self.invariant in
    let read = numbers_read c.self.view_is h c.args.state c.requires.state c.index_mut.result.now c.index_mut.ensures.value in
    let e = ap length read in
    omega (arith, e, row_numbers_len h c.args.state, c.requires.place)

pub invariant_of-self : goal.invariant_of-self
invariant_of-self c =
    put_kept c.self.view_is c.self.invariant c.args.state c.args.place c.args.number c.requires.state c.requires.place c.requires.number
    c.index_mut.result.now c.put.new.self c.index_mut.ensures.value c.put.ensures
