use Rattle.wb_determinism.proofs.rules.test_scanner.Goals as goal

pub test_with_lexicon-requires-clause-sets : goal.test_with_lexicon-requires-clause-sets
test_with_lexicon-requires-clause-sets c = c.requires.sets
