use Rattle.std.proofs.Common.{subst}
use Rattle.wb_items.specs.Inner.Searches.{IsLeastAfter}
use Rattle.wb_items.proofs.CompareLemmas.{least_lesser}
use Rattle.wb_items.proofs.compare.least_more.Goals as goal

pub returns-then-precedes : goal.returns-then-precedes
returns-then-precedes c =
    least_lesser c.args.kernel.now c.args.items.now c.args.place c.args.at c.item_at-item.result c.in-Some.found
    (subst (IsLeastAfter c.args.kernel.now c.args.place c.args.items.now c.args.at) c.in-Some.is c.requires.before)
    c.item_at-item.ensures (c.is_after.ensures.0 c.if-not-is_after.false) (c.precedes.ensures.0 c.if-precedes.true)
