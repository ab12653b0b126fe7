use Rattle.wb_names_rules.proofs.IndexLemmas.{symbols_indexed}
use Rattle.wb_names_rules.proofs.table.add_passes.Goals as goal

pub add_pass-requires-2 : goal.add_pass-requires-2
add_pass-requires-2 c = symbols_indexed c.args.declarations.now _ _ c.in_ok-add_pass.ensures.ok
