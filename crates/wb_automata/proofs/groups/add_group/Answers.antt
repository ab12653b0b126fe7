use Rattle.wb_automata.proofs.AnswerLemmas.{grown_add}
use Rattle.wb_automata.proofs.groups.add_group.Goals as goal

pub returns : goal.returns
returns c = grown_add c.args.places.now c.args.groups.now
    (record { alloc = c.args.groups.now.alloc; met = c.close.new.met; pairs = c.push.new.self; predecessors = c.push-2.new.list }) c.args.next
    c.close.new.next c.args.predecessor c.push-2.result c.in_ok-close.ensures (rw (c.as_slice.ensures) at c.in_ok-push.ensures)
    c.push-2.ensures.ok
