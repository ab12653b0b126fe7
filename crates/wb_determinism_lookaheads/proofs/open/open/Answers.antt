use Rattle.std.proofs.Common.{sym, subst}
use Rattle.wb_determinism_lookaheads.specs.Inner.Spreading.{AreTrueFor}
use Rattle.wb_determinism_lookaheads.proofs.TrueLemmas.{true_begun, true_passed}
use Rattle.wb_determinism_lookaheads.proofs.open.open.Goals as goal

pub join-requires-clause-begun : goal.join-requires-clause-begun
join-requires-clause-begun c =
    let (rest, is) = c.requires.symbol in
    let (p, e, of) = c.in-Some.ensures in
    let r = c.in-Some-rest_after.rest.now in
    subst (λ z. AreTrueFor c.args.context.now c.args.place z r.set) (sym e)
    (true_begun c.requires.context c.args.place c.args.item c.args.set.now c.requires.holds c.args.nonterminal p rest r is of
    c.requires.member (c.in-Some-rest_after.ensures _ rest is))

pub join-requires-clause-passed : goal.join-requires-clause-passed
join-requires-clause-passed c = λ empty.
    let (rest, is) = c.requires.symbol in
    let (p, e, of) = c.in-Some.ensures in
    subst (λ z. AreTrueFor c.args.context.now c.args.place z c.args.set.now) (sym e)
    (true_passed c.requires.context c.args.place c.args.item c.args.set.now c.requires.holds c.args.nonterminal p rest is of
    ((c.in-Some-rest_after.ensures _ rest is).empty.0 empty))
