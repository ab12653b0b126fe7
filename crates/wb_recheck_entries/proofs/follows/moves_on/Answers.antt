use Rattle.std.proofs.Common.{sym, ◌∙◌}
use Rattle.std.proofs.lemmas.Bool.{true≢false}
use Rattle.wb_recheck_entries.proofs.FollowLemmas.{moved_follows, none_follows}
use Rattle.wb_recheck_entries.proofs.follows.moves_on.Goals as goal

pub returns-in-None : goal.returns-in-None
returns-in-None c =
    let s = c.args.source in
    let e = c.args.entry in (
      λ t. absurd (true≢false (sym t)),
      λ f. absurd (none_follows c.args.reference.now.grammar.now c.args.reference.now.lines.now s.kernel s.item s.terminal e.kernel e.item
          e.terminal c.in-None.ensures.symbol f),
    )

pub returns-else-not-is_moved : goal.returns-else-not-is_moved
returns-else-not-is_moved c =
    let s = c.args.source in
    let e = c.args.entry in
    let follows = moved_follows c.args.reference.now.grammar.now c.args.reference.now.lines.now s.kernel s.item s.terminal e.kernel e.item
    e.terminal c.in-Some.symbol c.in-Some.ensures.symbol.0 c.in-Some.ensures.symbol.1 c.requires.dot in (
      λ t. follows.1 (c.is_moved.ensures.0 c.if-not-is_moved.false, c.leads.ensures.0 t),
      λ f. c.leads.ensures.1 (follows.0 f).1,
    )

pub returns-then-not-is_moved : goal.returns-then-not-is_moved
returns-then-not-is_moved c =
    let s = c.args.source in
    let e = c.args.entry in
    let follows = moved_follows c.args.reference.now.grammar.now c.args.reference.now.lines.now s.kernel s.item s.terminal e.kernel e.item
    e.terminal c.in-Some.symbol c.in-Some.ensures.symbol.0 c.in-Some.ensures.symbol.1 c.requires.dot in (
      λ t. absurd (true≢false (sym t)),
      λ f. absurd (true≢false (sym (c.is_moved.ensures.1 (follows.0 f).0) ∙ c.if-not-is_moved.true)),
    )
