use Rattle.std.proofs.Common.{arith}
use Rattle.wb_recheck_entries.specs.Inner.Steps.{AreFollowersIn, IsFollowerOut}
use Rattle.wb_recheck_entries.proofs.UnlistedLemmas.{known_nothing, match_false, match_true}
use Rattle.wb_recheck_entries.proofs.MissingLemmas.{followers_done, followers_more, lacks_entry}
use Rattle.wb_recheck_entries.proofs.WrongLemmas.{right_in_range}
use Rattle.wb_recheck_entries.proofs.missing.lacking.Goals as goal

pub entries-init : goal.entries-init
entries-init c = (
  known_nothing c.args.listing.now.reference.now.grammar.now c.args.listing.now.keys.now c.new-known.result c.new-known.ensures.opened
      c.new-known.ensures.rests,
  λ n e lt. absurd (omega (arith, lt)),
)

pub lacks_follower-requires-clause-kernel : goal.lacks_follower-requires-clause-kernel
lacks_follower-requires-clause-kernel c =
    (right_in_range c.args.listing.now.reference.now.grammar.now c.args.listing.now.reference.now.lines.now c.args.entries.now
    c.entries.place c.entry_at-entry.result (c.requires.right c.entries.place c.entry_at-entry.result c.entry_at-entry.ensures)).kernel

pub returns-then-lacks : goal.returns-then-lacks
returns-then-lacks c =
    lacks_entry c.args.listing.now.reference.now.grammar.now c.args.listing.now.reference.now.lines.now c.args.entries.now
    c.args.listing.now.keys.now c.requires.keys c.entries.place c.entry_at-entry.result c.entry_at-entry.ensures (match_true
    (IsFollowerOut c.args.listing.now.reference.now.grammar.now c.args.listing.now.reference.now.lines.now
    c.args.listing.now.keys.now c.entry_at-entry.result.kernel c.entry_at-entry.result.item c.entry_at-entry.result.terminal)
    (AreFollowersIn c.args.listing.now.reference.now.grammar.now c.args.listing.now.reference.now.lines.now c.args.listing.now.keys.now
    c.entry_at-entry.result.kernel c.entry_at-entry.result.item c.entry_at-entry.result.terminal) c.in_ok-lacks.lacks c.if-lacks.true
    c.in_ok-lacks.ensures.lacks)

pub entries-preserved : goal.entries-preserved
entries-preserved c = (
  c.in_ok-lacks.ensures.known,
  followers_more c.args.listing.now.reference.now.grammar.now c.args.listing.now.reference.now.lines.now c.args.entries.now
      c.args.listing.now.keys.now c.entries.place c.entry_at-entry.result c.entries.invariant.1 c.entry_at-entry.ensures
      (match_false (IsFollowerOut c.args.listing.now.reference.now.grammar.now c.args.listing.now.reference.now.lines.now
      c.args.listing.now.keys.now c.entry_at-entry.result.kernel c.entry_at-entry.result.item c.entry_at-entry.result.terminal)
      (AreFollowersIn c.args.listing.now.reference.now.grammar.now c.args.listing.now.reference.now.lines.now c.args.listing.now.keys.now
      c.entry_at-entry.result.kernel c.entry_at-entry.result.item c.entry_at-entry.result.terminal) c.in_ok-lacks.lacks
      c.if-lacks.false c.in_ok-lacks.ensures.lacks),
)

pub returns : goal.returns
returns c =
    followers_done c.args.listing.now.reference.now.grammar.now c.args.listing.now.reference.now.lines.now c.args.entries.now
    c.args.listing.now.keys.now c.requires.keys c.entries.place c.entries.invariant.1
    (let past = c.entries-test.false in omega (arith, past))
