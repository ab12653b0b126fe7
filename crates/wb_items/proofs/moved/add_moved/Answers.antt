use Rattle.wb_lemmas.proofs.Places.{at_within}
use Rattle.wb_items.proofs.AdvanceLemmas.{run_rises}
use Rattle.wb_items.proofs.MovedLemmas.{moved_more}
use Rattle.wb_items.proofs.moved.add_moved.Goals as goal

pub kernel_after-requires : goal.kernel_after-requires
kernel_after-requires c =
    run_rises c.args.list.now c.symbol_at-symbol.result c.args.place c.run_end-end.result c.requires.rising c.run_end-end.ensures

pub returns-clause-moved : goal.returns-clause-moved
returns-clause-moved c =
    let (b, here) = at_within c.args.list.now c.args.place c.requires.place in
    moved_more c.args.list.now c.args.moved.now.items c.push.new.list.items c.args.place c.run_end-end.result c.symbol_at-symbol.result b
    c.in_ok-kernel.kernel here (c.symbol_at-symbol.ensures b here) c.requires.rising c.run_end-end.ensures c.requires.before
    c.in_ok-kernel.ensures.same c.in_ok-kernel.ensures.in_order c.in_ok-push.ensures.ok
