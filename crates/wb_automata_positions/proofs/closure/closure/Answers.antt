use Rattle.wb_automata_positions.proofs.ClosureLemmas.{closure_exact}
use Rattle.wb_automata_positions.proofs.closure.closure.Goals as goal

pub returns : goal.returns
returns c = closure_exact c.args.tables.now c.args.set.now c.meet_entries.new.met c.close.new.met
    (rw (c.clear.ensures) at c.in_ok-meet_entries.ensures)
    (rw (c.as_slice.ensures.value, c.as_slice-2.ensures.value) at c.in_ok-close.ensures)
