use Rattle.wb_scan.proofs.LandingLemmas.{turned}
use Rattle.wb_scan.proofs.landing.ends_at.Goals as goal

pub returns : goal.returns
returns c e = c.goes_on.ensures (turned c.goes_on.result e)
