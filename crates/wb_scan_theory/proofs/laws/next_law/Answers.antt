use Rattle.std.proofs.Common.{length, arith}
use Rattle.wb_scan_theory.proofs.TokenLemmas.{one_next, some_next}
use Rattle.wb_scan_theory.proofs.PartLemmas.{considers}
use Rattle.wb_scan_theory.proofs.laws.next_law.Goals as goal

pub returns-clause-one : goal.returns-clause-one
returns-clause-one c l ok text prefix at next other n m = one_next ok.written ok.winners prefix text n m

pub returns-clause-some : goal.returns-clause-some
returns-clause-some c l tables ok tables_of text prefix viable at within =
    some_next ok.written ok.winners prefix text viable (considers ok.written tables_of prefix viable) (length text) at within (omega arith)
