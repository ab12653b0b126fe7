use Rattle.std.proofs.Common.{arith}
use Rattle.wb_marking.specs.Inner.Begun.{IsOpen}
use Rattle.wb_marking.proofs.PlaceLemmas as p
use Rattle.wb_marking.proofs.bridges.check_left_sides.Goals as goal

pub returns-then-is_closed-clause-refused : goal.returns-then-is_closed-clause-refused
returns-then-is_closed-clause-refused c =
    record { begin = c.requires.begin; once = c.requires.once; closed = c.is_closed.ensures.closed c.if-is_closed.true }

pub productions-preserved : goal.productions-preserved
productions-preserved c =
    p.each_more (IsOpen c.args.scope.now.parts.now c.args.scope.now.grammar.now) c.productions.number c.productions.invariant
    (c.is_closed.ensures.open c.if-is_closed.false)

pub returns-clause-ok : goal.returns-clause-ok
returns-clause-ok c number marked =
    let within = p.at_below c.args.scope.now.grammar.now marked.marker number 0 marked.begins in
    c.productions.invariant number (omega (arith, within)) marked
