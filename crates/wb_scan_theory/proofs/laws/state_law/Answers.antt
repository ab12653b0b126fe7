use Rattle.wb_scan_theory.proofs.NumberingLemmas.{same_state}
use Rattle.wb_scan_theory.proofs.PartLemmas.{considered_at, state_of}
use Rattle.wb_scan_theory.proofs.laws.state_law.Goals as goal

pub returns-clause-kernel : goal.returns-clause-kernel
returns-clause-kernel c g tables state prefix other ok one two = same_state ok one two

pub returns-clause-considered : goal.returns-clause-considered
returns-clause-considered c l tables state prefix other ok one two place = considered_at ok one two place

pub returns-clause-every : goal.returns-clause-every
returns-clause-every c g tables tables_of prefix viable = state_of tables_of prefix viable
