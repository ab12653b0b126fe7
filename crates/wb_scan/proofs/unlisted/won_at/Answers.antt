use Rattle.std.proofs.Common.{length}
use Rattle.wb_scan_theory.specs.Languages.{forms_of}
use Rattle.wb_scan.specs.Inner.Rankings.{ranked_by}
use Rattle.wb_scan.proofs.LandingLemmas.{accepted_below}
use Rattle.wb_scan.proofs.unlisted.won_at.Goals as goal

pub won_of-requires : goal.won_of-requires
won_of-requires c =
    accepted_below c.args.automaton.now c.args.state (length (forms_of (ranked_by c.args.ranking.now))) c.accepted.result.now
    c.requires.state c.accepted.ensures.exact c.requires.ranked

pub returns : goal.returns
returns c = record { accepted = c.accepted.result.now; exact = c.accepted.ensures.exact; wins = c.won_of.ensures }
