use Rattle.std.proofs.Common.{arith}
use Rattle.wb_marking.specs.Inner.Begun.{BeginsAll}
use Rattle.wb_marking.proofs.PlaceLemmas as p
use Rattle.wb_marking.proofs.places.elsewhere.Goals as goal

pub productions-preserved : goal.productions-preserved
productions-preserved c =
    p.each_more (BeginsAll c.args.scope.now.parts.now c.args.scope.now.grammar.now c.args.table.now) c.productions.number
    c.productions.invariant c.in_default.ensures.none

pub returns-clause-none : goal.returns-clause-none
returns-clause-none c number marker place is at =
    let within = p.at_below c.args.scope.now.grammar.now marker number place at in
    let count = c.productions-number-end.ensures.count in
    c.productions.invariant number (omega (arith, within, count)) marker place is at
