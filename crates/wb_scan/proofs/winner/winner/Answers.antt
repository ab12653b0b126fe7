use Rattle.std.proofs.Common.{arith, sym, ◌∙◌}
use Rattle.std.proofs.lemmas.Bool.{true≢false}
use Rattle.wb_scan.specs.Inner.Rankings.{ranked_by}
use Rattle.wb_scan.proofs.BeatLemmas.{none_more, none_end}
use Rattle.wb_scan.proofs.winner.winner.Goals as goal

pub places-preserved : goal.places-preserved
places-preserved c = none_more (ranked_by c.args.ranking.now) c.args.places.now c.places.place-index
    (λ champion. true≢false (sym (c.beats_others.ensures.1 champion.beats) ∙ c.if-beats_others.false)) c.places.invariant

pub returns-clause-none : goal.returns-clause-none
returns-clause-none c e = none_end (ranked_by c.args.ranking.now) c.args.places.now c.places.place-index (omega arith) c.places.invariant
