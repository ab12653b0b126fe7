use Rattle.std.proofs.Common.{Contains, sym, ◌∙◌, subst, arith}
use Rattle.std.proofs.lemmas.Bool.{true≢false}
use Rattle.wb_recheck_entries.proofs.WrongLemmas.{first_right, right_follows, right_in_range, wrong_again, wrong_later, wrong_none}
use Rattle.wb_recheck_entries.proofs.first_wrong.is_right.Goals as goal

pub returns-then-place-eq0 : goal.returns-then-place-eq0
returns-then-place-eq0 c =
    first_right c.args.reference.now.grammar.now c.args.reference.now.lines.now c.args.entries.now c.args.place c.args.entry
    c.is_first.result c.if-place-eq0.true c.is_first.ensures

pub returns-in-None : goal.returns-in-None
returns-in-None c = (
  λ t. absurd (true≢false (sym t)),
  λ r. absurd (wrong_none c.args.reference.now.grammar.now c.args.reference.now.lines.now c.args.entries.now c.args.place c.args.entry
      (let other = c.if-place-eq0.false in omega (arith, other)) c.in-None.is r),
)

pub returns-then-origin-place : goal.returns-then-origin-place
returns-then-origin-place c = (
  λ t. absurd (true≢false (sym t)),
  λ r. absurd (wrong_later c.args.reference.now.grammar.now c.args.reference.now.lines.now c.args.entries.now c.args.place c.in-Some.origin
      c.args.entry (let other = c.if-place-eq0.false in omega (arith, other)) c.in-Some.is
      (let past = c.if-origin-place.true in omega (arith, past)) r),
)

pub returns-then-has : goal.returns-then-has
returns-then-has c = (
  λ t. absurd (true≢false (sym t)),
  λ r. absurd (wrong_again c.args.reference.now.grammar.now c.args.reference.now.lines.now c.args.entries.now c.args.keys.now c.args.place
      c.requires.before c.args.entry (subst (Contains c.args.keys.now) c.key.ensures (c.has.ensures.0 c.if-has.true)) r),
)

pub follows-requires-clause-source : goal.follows-requires-clause-source
follows-requires-clause-source c =
    (right_in_range c.args.reference.now.grammar.now c.args.reference.now.lines.now c.args.entries.now c.in-Some.origin c.entry_at.result
    (c.requires.before.right c.in-Some.origin c.entry_at.result (let less = c.if-origin-place.false in omega (arith, less))
    c.entry_at.ensures)).kernel

pub returns-else-has : goal.returns-else-has
returns-else-has c =
    let right = right_follows c.args.reference.now.grammar.now c.args.reference.now.lines.now c.args.entries.now c.args.keys.now
    c.args.place
    c.requires.before c.args.entry c.productions-count.ensures.in_range c.in-Some.origin c.entry_at.result
    (let other = c.if-place-eq0.false in omega (arith, other)) c.in-Some.is (let less = c.if-origin-place.false in omega (arith, less))
    c.entry_at.ensures
    (λ has. true≢false (sym (c.has.ensures.1 (subst (Contains c.args.keys.now) (sym c.key.ensures) has)) ∙ c.if-has.false)) in
    (λ t. right.0 (c.follows.ensures.0 t), λ r. c.follows.ensures.1 (right.1 r))
