use Rattle.std.proofs.Common.{◌≡◌, [], arith, length, subst, sym}
use Rattle.wb_automata.specs.Inner.Accepted.{AreAccepted}
use Rattle.wb_automata.specs.Inner.Exploring.{AreExplored}
use Rattle.wb_automata.proofs.AcceptedLemmas.{accepted_none}
use Rattle.wb_automata.proofs.StateLemmas.{explored_none}
use Rattle.wb_automata.proofs.explore.explore.Goals as goal

pub loop-set-init : goal.loop-set-init
loop-set-init c = record {
  explored = rw (c.nothing-explored.ensures.moves, c.nothing-explored.ensures.starts)
      (explored_none c.args.tables.now c.args.bytes.now c.nothing-explored.result.states c.nothing-explored.ensures.sets
      c.nothing-explored.ensures.paths);
  accepted = rw (c.nothing-explored.ensures.accepted) (subst (λ z. AreAccepted c.args.tables.now z [] (length z))
      (sym c.nothing-explored.ensures.sets) (accepted_none c.args.tables.now []));
}

pub loop-set-preserved : goal.loop-set-preserved
loop-set-preserved c = record { explored = c.in_ok-explore_set.ensures.explored; accepted = c.in_ok-explore_set.ensures.accepted }

pub returns-clause-explored : goal.returns-clause-explored
returns-clause-explored c =
    let found = c.loop-set.explored in
    let count = c.len-set-end.ensures in
    let e : c.loop-set.set ≡ length c.args.tables.now.starts = omega arith in
    subst (AreExplored c.args.tables.now c.args.bytes.now found.states found.rows.moves found.starts.items) e c.loop-set.invariant.explored
