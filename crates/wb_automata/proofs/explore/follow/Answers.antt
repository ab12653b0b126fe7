use Rattle.wb_automata.proofs.explore.follow.Goals as goal

pub find-requires-clause-set : goal.find-requires-clause-set
find-requires-clause-set c = c.requires.set.below

pub read-requires-clause-places : goal.read-requires-clause-places
read-requires-clause-places c = rw (c.as_slice-ahead.ensures, c.as_slice-2.ensures.value) c.in_ok-find.ensures.places

pub returns-clause-ready : goal.returns-clause-ready
returns-clause-ready c = record {
  ahead = c.find.new.self.ahead;
  is = c.in_ok-find.ensures.ahead;
  places = c.in_ok-find.ensures.places;
  ways = rw (c.as_slice-ahead.ensures, c.as_slice-2.ensures.value) at c.in_ok-read.ensures;
}

pub returns-clause-accepted : goal.returns-clause-accepted
returns-clause-accepted c = record {
  all = c.find.new.self.ends;
  last = rw (c.as_slice.ensures) at c.in_ok-push.ensures;
  rising = c.in_ok-find.ensures.rising;
  exact = c.in_ok-find.ensures.ends;
}
