use Rattle.std.proofs.Common.{refl, arith}
use Rattle.wb_termset.proofs.CallerLemmas.{has_below}
use Rattle.wb_recheck_entries.specs.Inner.Steps.{AreOpenedListed, IsOpenedUnlisted}
use Rattle.wb_recheck_entries.proofs.UnlistedLemmas.{match_false, match_true, members_done, members_more}
use Rattle.wb_recheck_entries.proofs.opened.lacks_members.Goals as goal

pub members-init : goal.members-init
members-init c = (c.requires.known, λ u lt. absurd (omega (arith, lt)))

pub returns-then-lacks-clause-lacks : goal.returns-then-lacks-clause-lacks
returns-then-lacks-clause-lacks c = record {
  terminal = c.in-Some.terminal;
  member = c.in-Some.ensures.some.member;
  unlisted = (match_true (IsOpenedUnlisted c.args.listing.now.reference.now.grammar.now c.args.listing.now.keys.now c.args.kernel
      c.args.nonterminal c.in-Some.terminal)
      (AreOpenedListed c.args.listing.now.reference.now.grammar.now c.args.listing.now.keys.now c.args.kernel c.args.nonterminal
      c.in-Some.terminal) c.in_ok-lacks.lacks c.if-lacks.true c.in_ok-lacks.ensures.lacks);
}

pub members-preserved : goal.members-preserved
members-preserved c = (
  c.in_ok-lacks.ensures.known,
  members_more c.args.listing.now.reference.now.grammar.now c.args.listing.now.keys.now c.args.kernel c.args.nonterminal c.args.set.now
      c.members.from c.in-Some.terminal c.members.invariant.1 c.in-Some.ensures.some (match_false (IsOpenedUnlisted
      c.args.listing.now.reference.now.grammar.now c.args.listing.now.keys.now c.args.kernel c.args.nonterminal c.in-Some.terminal)
      (AreOpenedListed c.args.listing.now.reference.now.grammar.now c.args.listing.now.keys.now c.args.kernel c.args.nonterminal
      c.in-Some.terminal) c.in_ok-lacks.lacks c.if-lacks.false c.in_ok-lacks.ensures.lacks),
)

pub members-smaller : goal.members-smaller
members-smaller c =
    let next = c.in-Some.ensures.some in
    let le = next.from_on in
    let lt = has_below c.args.set.now c.in-Some.terminal next.member in
    omega arith

pub returns-clause-lacks : goal.returns-clause-lacks
returns-clause-lacks c =
    members_done c.args.listing.now.reference.now.grammar.now c.args.listing.now.keys.now c.args.kernel c.args.nonterminal c.args.set.now
    c.members.from c.members.invariant.1 (c.in_default.ensures.none.0 refl)
