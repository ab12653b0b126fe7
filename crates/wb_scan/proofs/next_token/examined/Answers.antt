use Rattle.wb_scan.specs.Scans.{next_in}
use Rattle.wb_scan.proofs.next_token.examined.Goals as goal

pub returns-clause-examined : goal.returns-clause-examined
returns-clause-examined c prefix of = (next_in c.args.text.now c.scan_examined.result.scanned, c.scan_examined.ensures.next prefix of)
