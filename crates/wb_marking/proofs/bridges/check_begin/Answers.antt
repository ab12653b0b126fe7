use Rattle.std.proofs.Common.{ℕ, arith}
use Rattle.std.proofs.lemmas.Option.{slice_get_within}
use Rattle.wb_marking.specs.Bridges.{IsOnHost, BeginsWithMarker}
use Rattle.wb_marking.proofs.PlaceLemmas.{each_more}
use Rattle.wb_marking.proofs.bridges.check_begin.Goals as goal

pub productions-preserved : goal.productions-preserved
productions-preserved c =
    let r = c.args.scope.now.parts.now in
    let g = c.args.scope.now.grammar.now in
    each_more (λ (n : ℕ). IsOnHost r g n → BeginsWithMarker r g n) c.productions.number c.productions.invariant
    (c.is_no_bridge.ensures.begins c.if-is_no_bridge.false)

pub returns-then-is_no_bridge-clause-refused : goal.returns-then-is_no_bridge-clause-refused
returns-then-is_no_bridge-clause-refused c = c.is_no_bridge.ensures.lacks c.if-is_no_bridge.true

pub returns-clause-ok : goal.returns-clause-ok
returns-clause-ok c number on =
    let within = slice_get_within c.args.scope.now.grammar.now.productions number (on.left, on.right) on.production in
    let count = c.productions-number-end.ensures.count in
    c.productions.invariant number (omega (arith, within, count)) on
