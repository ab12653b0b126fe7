use Rattle.wb_recheck.proofs.FitLemmas.{no_hidden_cycle, no_unit_cycle}
use Rattle.wb_recheck.proofs.text.facts_of.Goals as goal

pub unreachable-requires-in-Err-UnitCycle : goal.unreachable-requires-in-Err-UnitCycle
unreachable-requires-in-Err-UnitCycle c =
    no_unit_cycle c.args.grammar.now c.requires c.in-Err-UnitCycle.field-0-0
    (rw c.in-Err-UnitCycle.field-0-is at c.in-Err-UnitCycle.ensures.refused).1

pub unreachable-requires-in-Err-HiddenLeftRecursion : goal.unreachable-requires-in-Err-HiddenLeftRecursion
unreachable-requires-in-Err-HiddenLeftRecursion c =
    no_hidden_cycle c.args.grammar.now c.requires c.in-Err-HiddenLeftRecursion.field-0-0
    (rw c.in-Err-HiddenLeftRecursion.field-0-is at c.in-Err-HiddenLeftRecursion.ensures.refused).2
