use Rattle.wb_determinism_host.proofs.host.with_grammar.Goals as goal

pub returns-in-Ok-clause-ok : goal.returns-in-Ok-clause-ok
returns-in-Ok-clause-ok c = record {
  sound = c.in_ok-grammar.ensures.ok.sound;
  holes_are = c.in_ok-grammar.ensures.ok.holes_are;
  facts_are = c.in_ok-grammar.ensures.ok.facts_are;
  of_holes = c.in-Ok.ensures.kernels;
  lookaheads_are = c.in-Ok.ensures.lookaheads;
}
