use Rattle.wb_tests_languages.proofs.generating.makes_by.Goals as goal

pub generate-requires-clause-grammar : goal.generate-requires-clause-grammar
generate-requires-clause-grammar c = record { unit = c.requires.no_unit_cycle; hidden = c.requires.no_hidden_left_recursion }
