use Rattle.std.proofs.Common.{arith, length, subst, sym}
use Rattle.wb_automata.specs.Inner.Accepted.{AreAccepted}
use Rattle.wb_automata.specs.Inner.Exploring.{RowsPass}
use Rattle.wb_automata.proofs.AcceptedLemmas.{accepted_extends}
use Rattle.wb_automata.proofs.PlaceLemmas.{place_extends}
use Rattle.wb_automata.proofs.StateLemmas.{start_rows, explored_more}
use Rattle.wb_automata.proofs.explore.explore_set.Goals as goal

pub start_of-requires-clause-count : goal.start_of-requires-clause-count
start_of-requires-clause-count c = c.requires.before.rows.found_ok.len

pub close-requires-clause-before : goal.close-requires-clause-before
close-requires-clause-before c = subst (RowsPass c.args.tables.now c.args.bytes.now c.start_of.new.states c.args.explored.now.rows.moves)
    (sym c.len-from.ensures.count)
    (start_rows c.args.tables.now c.args.bytes.now c.args.explored.now.states c.start_of.new.states c.args.explored.now.rows.moves
    c.args.explored.now.starts.items c.args.set c.in_ok-state.state c.requires.table c.requires.set c.requires.before
    c.in_ok-state.ensures)

pub close-requires-clause-accepted : goal.close-requires-clause-accepted
close-requires-clause-accepted c =
    let old = c.args.explored.now.states in
    subst (AreAccepted c.args.tables.now c.start_of.new.states.sets c.args.explored.now.rows.accepted) (sym c.len-from.ensures.count)
    (accepted_extends c.args.tables.now old c.start_of.new.states c.args.explored.now.rows.accepted (length old.sets) (omega arith)
    (place_extends old c.start_of.new.states _ _ c.in_ok-state.state c.in_ok-state.ensures) c.requires.accepted)

pub returns-clause-explored : goal.returns-clause-explored
returns-clause-explored c = rw (c.in_ok-push.ensures.ok)
    (explored_more c.args.tables.now c.args.bytes.now c.args.explored.now.states c.start_of.new.states c.close.new.states
    c.args.explored.now.rows.moves c.close.new.rows.moves c.args.explored.now.starts.items c.args.set c.in_ok-state.state
    c.requires.before c.in_ok-state.ensures c.in_ok-close.ensures.rows c.in_ok-close.ensures.few)

pub returns-clause-accepted : goal.returns-clause-accepted
returns-clause-accepted c = c.in_ok-close.ensures.accepted
