use Rattle.std.proofs.Common.{◌≡◌, ◌≢◌, arith}
use Rattle.std.specs.Prelude.{slice_index}
use Rattle.std.proofs.lemmas.Grind.{common_steps}
use Rattle.wb_grammar.proofs.PathLemmas.{not_reached, path_of, place_within}
use Rattle.wb_grammar.proofs.paths.path_by.Goals as goal

pub returns-then-places-from-eq0 : goal.returns-then-places-from-eq0
returns-then-places-from-eq0 c edges to trail closed =
    let none : slice_index c.args.places.now c.args.from ≡ 0 = grind (arith, common_steps) in
    not_reached edges c.args.from to c.args.places.now c.args.trail.now closed trail none

pub walk_back-requires-clause-place : goal.walk_back-requires-clause-place
walk_back-requires-clause-place c =
    let (edges, to, trail) = c.requires.trail in
    let met : slice_index c.args.places.now c.args.from ≢ 0 = λ z. (let h = c.if-places-from-eq0.false in grind (arith, common_steps)) in
    place_within edges c.args.from to c.args.places.now c.args.trail.now trail met

pub walk_back-requires-clause-lower : goal.walk_back-requires-clause-lower
walk_back-requires-clause-lower c i link at ne = let (edges, to, trail) = c.requires.trail in (trail.each i link at ne).lower

pub returns : goal.returns
returns c edges to trail closed =
    let met : slice_index c.args.places.now c.args.from ≢ 0 = λ z. (let h = c.if-places-from-eq0.false in grind (arith, common_steps)) in
    path_of edges c.args.from to c.args.places.now c.args.trail.now c.in_ok-back.back.items trail met c.in_ok-back.ensures
