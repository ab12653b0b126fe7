use Rattle.std.proofs.Common.{length, arith, refl}
use Rattle.std.proofs.lemmas.Option.{slice_get_read}
use Rattle.wb_automata_positions.proofs.StartLemmas.{starts_none, starts_more}
use Rattle.wb_automata_positions.proofs.terminals.all_starts.Goals as goal

pub loop-set-init : goal.loop-set-init
loop-set-init c = rw (c.new-starts.ensures) (starts_none c.args.n c.args.count c.args.sets.now)

pub loop-set-preserved : goal.loop-set-preserved
loop-set-preserved c =
    let sets = c.args.sets.now in
    let i = c.loop-set.set-index in
    rw (c.in_ok-push.ensures, c.in_ok-places.ensures) (starts_more c.args.n c.args.count sets c.loop-set.starts c.set-item.result c.find_starts.new.places i
    (slice_get_read sets (length sets) i c.set-item.result refl
    (omega arith) c.set-item.is) c.in_ok-find_starts.ensures.exact c.in_ok-find_starts.ensures.places c.loop-set.invariant)
