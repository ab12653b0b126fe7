use Rattle.wb_names_rules.proofs.kinds.check_kinds.Goals as goal

pub returns-clause-refused : goal.returns-clause-refused
returns-clause-refused c = c.check_usages.ensures.refused c.args.unplaced.now
