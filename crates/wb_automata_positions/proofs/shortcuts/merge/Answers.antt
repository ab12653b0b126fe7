use Rattle.wb_automata_positions.proofs.ShortcutLemmas.{shorter}
use Rattle.wb_automata_positions.proofs.shortcuts.merge.Goals as goal

pub returns : goal.returns
returns c = shorter c.args.places.now c.merge_all.new.places.items c.retarget.new.places c.merge_all.new.entry.items c.args.starts.now
    c.move_starts.new.starts c.merge_all.ensures.prepared (rw (c.deref.ensures.value) at c.retarget.ensures)
    (rw (c.deref-2.ensures.value) at c.move_starts.ensures)
