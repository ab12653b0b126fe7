use Rattle.std.proofs.Common.{length, subst, arith}
use Rattle.wb_scan_theory.specs.Tokens.{NextToken}
use Rattle.wb_scan_theory.proofs.TokenLemmas.{one_next, some_next}
use Rattle.wb_scan_theory.proofs.PartLemmas.{considers}
use Rattle.wb_scan_theory.proofs.SeenLemmas.{looked_piece, scan_next}
use Rattle.wb_session_theory.proofs.ScanLemmas.{scan_kept, scan_on, next_scan}
use Rattle.wb_session_theory.proofs.SeenLemmas.{same_scanned}
use Rattle.wb_session_theory.proofs.SessionLemmas.{agrees}
use Rattle.wb_session_theory.proofs.laws.examined_law.Goals as goal

pub returns-clause-same : goal.returns-clause-same
returns-clause-same c l ok text other prefix at e (found, scan) front next =
    let there = scan_next (scan_kept scan (agrees front)) in (
      λ n. subst (NextToken l other prefix at) (one_next ok.written ok.winners prefix text (scan_next scan) n) there,
      λ n. subst (NextToken l text prefix at) (one_next ok.written ok.winners prefix other there n) (scan_next scan),
    )

pub returns-clause-on : goal.returns-clause-on
returns-clause-on c l text prefix at e (found, scan) = scan_on scan

pub returns-clause-some : goal.returns-clause-some
returns-clause-some c l tables ok tables_of text prefix viable at within =
    let (next, n) = some_next ok.written ok.winners prefix text viable (considers ok.written tables_of prefix viable) (length text)
    at within
    (omega arith) in (next, next_scan ok.written n)

pub returns-clause-scanned : goal.returns-clause-scanned
returns-clause-scanned c count text other at one two e a b = same_scanned count text other at at one two e a b

pub returns-clause-seen : goal.returns-clause-seen
returns-clause-seen c l tables automaton parts state below prefix of text at e lt within none =
    looked_piece parts state below of text at e lt within none
