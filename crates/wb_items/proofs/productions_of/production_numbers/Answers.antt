use Rattle.std.proofs.Common.{arith}
use Rattle.wb_items.proofs.ProductionRows.{rows_start, rows_done}
use Rattle.wb_items.proofs.productions_of.production_numbers.Goals as goal

pub productions-init : goal.productions-init
productions-init c = rw (c.in_ok-rows.ensures, c.nonterminals.ensures) (rows_start c.args.grammar.now)

pub returns : goal.returns
returns c = rows_done c.args.grammar.now c.productions.rows.items c.productions.production (omega arith) c.productions.invariant
