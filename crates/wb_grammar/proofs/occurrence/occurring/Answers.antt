use Rattle.wb_grammar.proofs.OccurrenceLemmas.{whole_is}
use Rattle.wb_grammar.proofs.occurrence.occurring.Goals as goal

pub returns-in-Any : goal.returns-in-Any
returns-in-Any c = rw c.in-Any.is (whole_is c.args.nullable.now c.args.symbols.now)

pub returns-in-LeftCorner : goal.returns-in-LeftCorner
returns-in-LeftCorner c = rw c.in-LeftCorner.is c.left_corner.ensures

pub returns-in-HiddenLeft : goal.returns-in-HiddenLeft
returns-in-HiddenLeft c = rw c.in-HiddenLeft.is c.hidden_left.ensures

pub returns-in-Unit : goal.returns-in-Unit
returns-in-Unit c = rw c.in-Unit.is c.unit.ensures
