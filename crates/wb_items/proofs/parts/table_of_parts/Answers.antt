use Rattle.wb_items.proofs.PartsLemmas.{from_listed, listed_table}
use Rattle.wb_items.proofs.parts.table_of_parts.Goals as goal

pub move_rows-requires : goal.move_rows-requires
move_rows-requires c = from_listed c.requires

pub returns-clause-table : goal.returns-clause-table
returns-clause-table c =
    listed_table c.requires c.in_ok-found.ensures c.in_ok-closures.ensures c.in_ok-rows.ensures
