use Rattle.std.proofs.Common.{refl}
use Rattle.wb_scan.specs.Inner.Rankings.{ranked_by}
use Rattle.wb_scan.proofs.LandingLemmas.{won_is}
use Rattle.wb_scan.proofs.won.won_of.Goals as goal

pub returns-in-Some : goal.returns-in-Some
returns-in-Some c =
    won_is (ranked_by c.args.ranking.now) c.args.places.now c.in-Some.place c.won_by.result c.in-Some.ensures.some c.won_by.ensures

pub returns-in-None : goal.returns-in-None
returns-in-None c = c.in-None.ensures.none refl
