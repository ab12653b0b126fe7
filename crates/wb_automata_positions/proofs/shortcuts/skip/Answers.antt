use Rattle.wb_automata_positions.proofs.EntryLemmas.{handing_prepared}
use Rattle.wb_automata_positions.proofs.ShortcutLemmas.{below, shorter}
use Rattle.wb_automata_positions.proofs.shortcuts.skip.Goals as goal

pub returns-clause-shorter : goal.returns-clause-shorter
returns-clause-shorter c = shorter c.args.places.now c.args.places.now.items c.retarget.new.places c.in_ok-entry.entry.items
    c.args.starts.now
    c.move_starts.new.starts
    (handing_prepared c.args.places.now.items c.in_ok-entry.entry.items c.requires.below
    (rw (c.deref.ensures.value) at c.in_ok-entry.ensures))
    (rw (c.deref-2.ensures.value) at c.retarget.ensures) (rw (c.deref-3.ensures.value) at c.move_starts.ensures)

pub returns-clause-below : goal.returns-clause-below
returns-clause-below c = below c.args.places.now.items c.args.places.now.items c.retarget.new.places.items c.in_ok-entry.entry.items
    (handing_prepared c.args.places.now.items c.in_ok-entry.entry.items c.requires.below
    (rw (c.deref.ensures.value) at c.in_ok-entry.ensures))
    (rw (c.deref-2.ensures.value) at c.retarget.ensures)
