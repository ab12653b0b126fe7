use Rattle.std.proofs.Common.{◌+◌, ◌<◌, ◌^◌, length, arith}
use Rattle.wb_digraph.specs.Inner.Numbers.{HasNumber}
use Rattle.wb_digraph.proofs.FillLemmas.{holds_later}
use Rattle.wb_digraph.proofs.fill.filled.Goals as goal

pub put_all-requires-clause-flows : goal.put_all-requires-clause-flows
put_all-requires-clause-flows c =
    let small = c.args.sets.small in
    let ok = c.args.sets.ok in
    let room : length c.args.sets.items + 1 < 2 ^ 64 = omega (arith, small, ok.0) in
    holds_later c.args.numbers.now c.args.sets.items c.in_ok-lookaheads.lookaheads c.requires.flows c.in_ok-lookaheads.ensures.sets room
