use Rattle.std.proofs.Common.{◌≡◌, length, subst, arith}
use Rattle.wb_marking.specs.Inner.Begun.{AreBegun}
use Rattle.wb_marking.proofs.places.begun.Goals as goal

pub returns : goal.returns
returns c =
    let r = c.args.scope.now.parts.now in
    let g = c.args.scope.now.grammar.now in
    let all : c.productions.number ≡ length g.productions = omega arith in
    subst (λ z. AreBegun r g z c.productions.table.items) all c.productions.invariant

pub put-requires-clause-number : goal.put-requires-clause-number
put-requires-clause-number c = omega (arith, c.productions-test.true, c.productions-number-end.ensures.count)
