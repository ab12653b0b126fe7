use Rattle.wb_determinism_lookaheads.proofs.open.join.Goals as goal

pub unite-more-requires-clause-holds : goal.unite-more-requires-clause-holds
unite-more-requires-clause-holds c = c.requires.passed c.if-not-rest.false
