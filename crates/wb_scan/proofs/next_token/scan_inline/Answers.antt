use Rattle.wb_scan_theory.proofs.SeenLemmas.{scan_next}
use Rattle.wb_scan.proofs.next_token.scan_inline.Goals as goal

pub returns-clause-next : goal.returns-clause-next
returns-clause-next c prefix of = scan_next (c.scan_examined.ensures.next prefix of)
