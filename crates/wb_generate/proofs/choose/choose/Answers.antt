use Rattle.std.proofs.Common.{◌<◌, subst, arith}
use Rattle.wb_generate.proofs.RoomLemmas.{found_number, some_low}
use Rattle.wb_generate.proofs.choose.choose.Goals as goal

pub place_of-place-requires : goal.place_of-place-requires
place_of-place-requires c =
    let some = some_low c.args.totals.now c.args.numbers.now c.args.least c.args.spare c.args.number c.count-growing.result c.lowest-low.result
    c.count-growing.ensures c.lowest-low.ensures c.requires.some in
    omega (arith, some, c.count-many.ensures)

pub find-requires-clause-place : goal.find-requires-clause-place
find-requires-clause-place c = subst (λ z. c.place_of-place.result < z) c.count-many.ensures c.place_of-place.ensures.below

pub returns : goal.returns
returns c =
    found_number c.args.totals.now c.args.numbers.now c.args.least c.args.spare c.args.number c.count-growing.result c.lowest-low.result
    c.count-growing.ensures c.lowest-low.ensures c.count-many.result c.place_of-place.result c.find.result c.count-many.ensures
    c.place_of-place.ensures.is c.find.ensures
