use Rattle.wb_names_rules.proofs.KindLemmas.{shows_first}
use Rattle.wb_names_rules.proofs.kinds.check_placed.Goals as goal

pub returns-clause-refused : goal.returns-clause-refused
returns-clause-refused c =
    shows_first c.args.unplaced.now c.is_empty.result c.index-unplaced-0.result c.wrong_kind.result c.is_empty.ensures c.if-is_empty.false
    c.index-unplaced-0.is c.wrong_kind.ensures
