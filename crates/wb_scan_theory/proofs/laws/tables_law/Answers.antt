use Rattle.wb_scan_theory.proofs.TablesExist.{tables_exist}
use Rattle.wb_scan_theory.proofs.laws.tables_law.Goals as goal

pub returns : goal.returns
returns c = tables_exist
