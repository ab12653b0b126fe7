use Rattle.wb_compose_language.proofs.TableLemmas.{no_conflict}
use Rattle.wb_compose_language.proofs.tables.parts_in.Goals as goal

pub unreachable-requires : goal.unreachable-requires
unreachable-requires c =
    no_conflict c.args.grammar.now c.requires c.in-Err-Conflict.field-0-0
    (rw c.in-Err-Conflict.field-0-is at c.in-Err-Conflict.ensures.refused)
