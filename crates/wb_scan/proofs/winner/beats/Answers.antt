use Rattle.wb_scan.specs.Inner.Rankings.{ranked_by}
use Rattle.wb_scan.proofs.BeatLemmas.{beats_differ, beats_same, beq_differs, beq_same}
use Rattle.wb_scan.proofs.winner.beats.Goals as goal

pub returns-then-one-two : goal.returns-then-one-two
returns-then-one-two c =
    beats_differ (ranked_by c.args.ranking.now) c.args.place c.args.other c.is_prefixed-one.result c.is_prefixed-two.result c.requires.place
    c.requires.other c.is_prefixed-one.ensures c.is_prefixed-two.ensures
    (beq_differs c.is_prefixed-one.result c.is_prefixed-two.result c.if-one-two.true)

pub returns : goal.returns
returns c =
    beats_same (ranked_by c.args.ranking.now) c.args.place c.args.other c.is_prefixed-one.result c.is_prefixed-two.result c.prefers.result
    c.terminal_at.result c.terminal_at-2.result c.requires.place c.requires.other c.is_prefixed-one.ensures c.is_prefixed-two.ensures
    (beq_same c.is_prefixed-one.result c.is_prefixed-two.result c.if-one-two.false) c.terminal_at.ensures c.terminal_at-2.ensures
    c.prefers.ensures
