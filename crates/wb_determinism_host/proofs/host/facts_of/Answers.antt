use Rattle.wb_determinism_host.proofs.HostLemmas.{holes_are}
use Rattle.wb_determinism_host.proofs.host.facts_of.Goals as goal

pub facts_with_holes-requires-clause-sound : goal.facts_with_holes-requires-clause-sound
facts_with_holes-requires-clause-sound c = record {
  acyclic = c.in_ok-test_preferences.ensures.ok;
  reduced = c.in_ok-test_reduced.ensures.ok;
}

pub facts_with_holes-requires-clause-holes : goal.facts_with_holes-requires-clause-holes
facts_with_holes-requires-clause-holes c =
    holes_are c.args.host.now.resolved.now c.args.host.now.grammar.now c.in_ok-holes.holes c.requires c.in_ok-holes.ensures

pub returns-in-Ok-clause-ok : goal.returns-in-Ok-clause-ok
returns-in-Ok-clause-ok c = record {
  sound = record { acyclic = c.in_ok-test_preferences.ensures.ok; reduced = c.in_ok-test_reduced.ensures.ok };
  holes_are = holes_are c.args.host.now.resolved.now c.args.host.now.grammar.now c.in_ok-holes.holes c.requires c.in_ok-holes.ensures;
  facts_are = c.in-Ok.ensures.ok;
}
