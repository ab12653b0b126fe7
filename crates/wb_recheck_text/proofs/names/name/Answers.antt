use Rattle.wb_recheck_text.proofs.NameLemmas.{name_stopped_word}
use Rattle.wb_recheck_text.proofs.names.name.Goals as goal

pub returns-then-is_reserved-clause-stopped : goal.returns-then-is_reserved-clause-stopped
returns-then-is_reserved-clause-stopped c =
    name_stopped_word _ _ _ _ _ c.requires c.in-Some.ensures c.rest-after.ensures c.front-name.ensures c.if-is_reserved.ensures
