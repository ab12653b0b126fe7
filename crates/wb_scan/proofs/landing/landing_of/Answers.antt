use Rattle.std.proofs.Common.{length, subst}
use Rattle.wb_scan_theory.specs.Languages.{forms_of}
use Rattle.wb_scan.specs.Landings.{IsWon}
use Rattle.wb_scan.specs.Inner.Rankings.{ranked_by}
use Rattle.wb_scan.proofs.LandingLemmas.{accepted_below, kept_is, marked}
use Rattle.wb_scan.proofs.landing.landing_of.Goals as goal

pub won_of-won-requires : goal.won_of-won-requires
won_of-won-requires c =
    accepted_below c.args.automaton.now c.args.state (length (forms_of (ranked_by c.args.ranking.now))) c.accepted-places.result.now
    c.requires.state c.accepted-places.ensures.exact c.requires.ranked

pub returns : goal.returns
returns c = record {
  marked = marked c.args.automaton.now c.args.state c.accepted-places.result.now c.is_empty-accepts.result c.ends_at-ends.result
      (record { word = c.word_of.result }) c.accepted-places.ensures.exact c.is_empty-accepts.ensures c.ends_at-ends.ensures
      c.word_of.ensures.accepts c.word_of.ensures.ends;
  wins = λ won e. subst (IsWon (ranked_by c.args.ranking.now) c.accepted-places.result.now)
      (kept_is _ c.won_of-won.result won c.word_of.ensures.won e) c.won_of-won.ensures;
}
