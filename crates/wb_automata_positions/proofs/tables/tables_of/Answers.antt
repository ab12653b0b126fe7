use Rattle.wb_automata_positions.proofs.ParentLemmas.{one_parent}
use Rattle.wb_automata_positions.proofs.TableLemmas.{tables_whole}
use Rattle.wb_automata_positions.proofs.tables.tables_of.Goals as goal

pub next_of-requires : goal.next_of-requires
next_of-requires c = rw (c.as_slice.ensures.value, c.as_slice-2.ensures.value)
    (one_parent c.args.terminals.now c.in_ok-all.all.nodes.items c.in_ok-all.all.roots.items c.in_ok-all.ensures)

pub returns : goal.returns
returns c = tables_whole c.args.terminals.now c.args.sets.now _ c.in_ok-all.ensures
    (rw (c.as_slice.ensures.value, c.as_slice-2.ensures.value) at c.in_ok-next.ensures)
    (rw (c.len.ensures, c.in_ok-all.all.nodes.ok.0) at c.in_ok-starts.ensures)
