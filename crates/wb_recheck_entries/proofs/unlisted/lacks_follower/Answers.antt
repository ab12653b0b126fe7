use Rattle.std.proofs.Common.{Bool}
use Rattle.std.specs.Prelude.{MatchBool}
use Rattle.std.proofs.lemmas.Result.{IfOk-weaker}
use Rattle.wb_recheck_entries.specs.Inner.Steps.{AreFollowersIn, AreOpenersListed, IsFollowerOut, IsOpenerUnlisted}
use Rattle.wb_recheck_entries.proofs.UnlistedLemmas.{followers_all, followers_none, match_weaker, moved_out, opened_out}
use Rattle.wb_recheck_entries.proofs.unlisted.lacks_follower.Goals as goal

pub returns-in-None-clause-lacks : goal.returns-in-None-clause-lacks
returns-in-None-clause-lacks c =
    followers_none c.args.listing.now.reference.now.grammar.now c.args.listing.now.keys.now c.args.entry.kernel c.args.entry.item
    c.args.entry.terminal c.args.listing.now.reference.now.lines.now c.in-None.ensures.symbol

pub returns-then-lacks_moved-clause-lacks : goal.returns-then-lacks_moved-clause-lacks
returns-then-lacks_moved-clause-lacks c =
    moved_out c.args.listing.now.reference.now.grammar.now c.args.listing.now.keys.now c.args.entry.kernel c.args.entry.item
    c.args.entry.terminal c.args.listing.now.reference.now.lines.now c.in-Some.symbol c.in-Some.ensures.symbol c.if-lacks_moved.ensures

pub returns-else-lacks_moved-clause-lacks : goal.returns-else-lacks_moved-clause-lacks
returns-else-lacks_moved-clause-lacks c =
    let g = c.args.listing.now.reference.now.grammar.now in
    let lines = c.args.listing.now.reference.now.lines.now in
    let keys = c.args.listing.now.keys.now in
    let k = c.args.entry.kernel in
    let item = c.args.entry.item in
    let t = c.args.entry.terminal in
    let moved = c.if-lacks_moved.ensures in
    let f : (lacks : Bool) → MatchBool lacks (IsOpenerUnlisted g keys k item t) (AreOpenersListed g keys k item t) →
    MatchBool lacks (IsFollowerOut g lines keys k item t) (AreFollowersIn g lines keys k item t) =
    λ lacks. match_weaker lacks (opened_out g keys k item t lines)
    (followers_all g keys k item t lines c.in-Some.symbol c.in-Some.ensures.symbol moved) in
    IfOk-weaker c.lacks_opened.result _ _ f c.lacks_opened.ensures.lacks
