use Rattle.std.proofs.Common.{◌≡◌, ◌+◌, [], arith, subst}
use Rattle.wb_automata_positions.proofs.StartLemmas.{StartPass, start_more, start_none, start_places, start_skip}
use Rattle.wb_automata_positions.proofs.terminals.find_starts.Goals as goal

pub starts-init : goal.starts-init
starts-init c = record {
  within = c.next_start-k.ensures.within;
  member = c.next_start-k.ensures.member;
  pass = rw (c.clear.ensures) (start_skip c.args.n c.args.set.now [] 0 c.next_start-k.result c.next_start-k.ensures.from
      c.next_start-k.ensures.none (start_none c.args.n c.args.set.now));
}

pub starts-preserved : goal.starts-preserved
starts-preserved c = record {
  within = c.next_start-k-in-starts.ensures.within;
  member = c.next_start-k-in-starts.ensures.member;
  pass = rw (c.in_ok-push.ensures) (start_skip c.args.n c.args.set.now _ (c.starts.k + 1) c.next_start-k-in-starts.result c.next_start-k-in-starts.ensures.from
      c.next_start-k-in-starts.ensures.none
      (start_more c.args.n c.args.set.now c.starts.places c.starts.k (c.starts.invariant.member c.starts-test.true) c.starts.invariant.pass));
}

pub starts-smaller : goal.starts-smaller
starts-smaller c = (let further = c.next_start-k-in-starts.ensures.from in omega (arith, c.starts-test.true))

pub returns-clause-exact : goal.returns-clause-exact
returns-clause-exact c = (let e : c.starts.k ≡ c.args.count = (let le = c.starts.invariant.within in omega (arith, c.starts-test.false)) in subst
    (StartPass c.args.n c.args.set.now c.starts.places) e c.starts.invariant.pass).exact

pub returns-clause-places : goal.returns-clause-places
returns-clause-places c = (let e : c.starts.k ≡ c.args.count = (let le = c.starts.invariant.within in omega (arith, c.starts-test.false)) in
    start_places c.args.n c.args.set.now c.starts.places c.args.count
    (subst (StartPass c.args.n c.args.set.now c.starts.places) e c.starts.invariant.pass))
