use Rattle.std.proofs.Common.{arith, length, refl}
use Rattle.std.proofs.lemmas.Option.{slice_get_read}
use Rattle.wb_automata_positions.proofs.JoinLemmas.{join_begin, join_step}
use Rattle.wb_automata_positions.proofs.concatenated.concatenate.Goals as goal

pub loop-regex-init : goal.loop-regex-init
loop-regex-init c = rw (c.new-nodes.ensures.items, c.new-roots.ensures.items) (join_begin c.args.terminals.now)

pub loop-regex-preserved : goal.loop-regex-preserved
loop-regex-preserved c =
    let trees = c.args.terminals.now in
    let i = c.loop-regex.regex-index in
    rw (c.in_ok-push.ensures.ok)
    (join_step trees c.loop-regex.nodes.items c.add_nodes.new.nodes.items c.loop-regex.roots.items i c.in_ok-root.root
    c.regex-item.result (slice_get_read trees (length trees) i c.regex-item.result refl
    (omega arith) c.regex-item.is) c.loop-regex.invariant c.in_ok-root.ensures)
