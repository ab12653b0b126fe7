use Rattle.wb_operations.proofs.KeptLemmas.{kept-standard}
use Rattle.wb_operations.proofs.table.standard_table.Goals as goal

pub returns-clause-kept : goal.returns-clause-kept
returns-clause-kept g c = kept-standard _ _ _ _ c.in_ok-signatures.ensures c.new.ensures.items
