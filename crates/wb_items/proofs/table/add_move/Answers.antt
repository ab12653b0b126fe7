use Rattle.wb_lemmas.proofs.Places.{at_within}
use Rattle.wb_items.proofs.AdvanceLemmas.{run_rises}
use Rattle.wb_items.proofs.MoveLemmas.{run_kernel, moves_more}
use Rattle.wb_items.proofs.table.add_move.Goals as goal

pub kernel_after-requires : goal.kernel_after-requires
kernel_after-requires c =
    run_rises c.args.list.now c.symbol_at-symbol.result c.args.place c.run_end-end.result c.requires.rising c.run_end-end.ensures

pub number_of-requires-clause-kernel : goal.number_of-requires-clause-kernel
number_of-requires-clause-kernel c = λ prefix at.
    let (b, here) = at_within c.args.list.now c.args.place c.requires.place in
    run_kernel c.args.grammar.now c.requires.live c.args.found.now c.args.found.now c.args.list.now c.args.state c.args.row.now.items
    c.args.place c.run_end-end.result c.symbol_at-symbol.result b prefix c.in_ok-kernel.kernel
    here (c.symbol_at-symbol.ensures b here) c.requires.rising c.run_end-end.ensures c.requires.before at
    c.in_ok-kernel.ensures.same c.in_ok-kernel.ensures.in_order

pub returns-clause-moves : goal.returns-clause-moves
returns-clause-moves c =
    let (b, here) = at_within c.args.list.now c.args.place c.requires.place in
    moves_more c.args.grammar.now c.args.found.now c.args.found.now c.number_of.new.found c.args.list.now c.args.state c.args.row.now.items
    c.push.new.list.items c.args.place c.run_end-end.result c.symbol_at-symbol.result b c.in_ok-next.next
    here (c.symbol_at-symbol.ensures b here) c.run_end-end.ensures c.requires.before c.in_ok-next.ensures.kernels c.in_ok-next.ensures.grows
    c.in_ok-next.ensures.leads c.in_ok-push.ensures.ok
