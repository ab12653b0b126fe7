use Rattle.wb_items.proofs.PartsLemmas.{closures_more, none_closed}
use Rattle.wb_items.proofs.parts.closures_of.Goals as goal

pub states-init : goal.states-init
states-init c = rw c.in_ok-closures.ensures.items (none_closed c.args.grammar.now c.args.kernels.now)

pub states-preserved : goal.states-preserved
states-preserved c =
    closures_more c.args.grammar.now c.args.kernels.now c.states.closures.items c.push.new.list.items c.states.state c.items_at.result.now
    c.in_ok-closure.closure c.items_at.ensures
    (record { exact = c.in_ok-closure.ensures.exact; in_order = c.in_ok-closure.ensures.in_order }) c.in_ok-push.ensures.ok
    c.states.invariant
