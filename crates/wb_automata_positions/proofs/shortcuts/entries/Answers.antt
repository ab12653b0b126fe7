use Rattle.std.proofs.Common.{arith}
use Rattle.wb_automata_positions.proofs.EntryLemmas.{entries_push}
use Rattle.wb_automata_positions.proofs.shortcuts.entries.Goals as goal

pub places-preserved : goal.places-preserved
places-preserved c = entries_push c.args.places.now c.places.entry.items c.push.new.list.items c.deref.result.now c.places.i
    c.entry_at-at.result
    _ (omega (arith, c.places-test.true)) c.in_ok-push.ensures.ok c.entry_at-at.ensures c.deref.ensures.value c.places.invariant
