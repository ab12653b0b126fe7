use Rattle.std.proofs.Common.{arith}
use Rattle.std.proofs.lemmas.Option.{slice_get_within}
use Rattle.wb_marking.proofs.PlaceLemmas as p
use Rattle.wb_marking.proofs.places.elsewhere_in.Goals as goal

pub places-preserved : goal.places-preserved
places-preserved c =
    p.place_more c.args.scope.now.parts.now c.args.scope.now.grammar.now c.args.table.now c.args.number c.places.place
    c.right-right.result.now
    c.right-right.ensures.right c.places.invariant c.misplaced-found.result _ c.if-is_some.ensures c.misplaced-found.ensures.none

pub returns-clause-none : goal.returns-clause-none
returns-clause-none c marker place is at =
    let right = c.right-right.ensures.right in
    let there = p.right_at c.args.scope.now.grammar.now c.args.number c.right-right.result.now right marker place at in
    let within = slice_get_within c.right-right.result.now place _ there in
    c.places.invariant marker place (omega (arith, within)) is at

pub misplaced-found-requires : goal.misplaced-found-requires
misplaced-found-requires c = c.requires.table

pub returns-then-is_some-clause-some : goal.returns-then-is_some-clause-some
returns-then-is_some-clause-some c =
    p.misplaced_at c.args.scope.now.parts.now c.args.scope.now.grammar.now c.args.table.now c.args.number c.places.place
    c.right-right.result.now c.requires.number c.right-right.ensures.right c.places-test.true _ c.misplaced-found.result
    c.misplaced-found.ensures.some
