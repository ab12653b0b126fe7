use Rattle.std.proofs.Common.{◌≡◌, ◌<◌, Some, length, ap, subst, refl, arith}
use Rattle.std.specs.Prelude.{slice_get}
use Rattle.std.proofs.lemmas.Option.{slice_get_within}
use Rattle.wb_digraph.proofs.NumberLemmas.{number_read, stands_there}
use Rattle.wb_digraph.proofs.numbers.number_of.Goals as goal

pub place_of-place-requires-clause-there : goal.place_of-place-requires-clause-there
place_of-place-requires-clause-there c =
    (c.closure-items.ensures.exact c.stand_in-one.result).1
    (stands_there c.requires.context.are_kernels c.args.context.now.productions.now c.requires.context.in_range
    c.requires.context.are_productions c.args.state c.stand_in-one.result c.args.item c.requires.has c.stand_in-one.ensures)

pub overflow_sub-result : goal.overflow_sub-result
overflow_sub-result c =
    let w = slice_get_within c.closure-items.result.now c.place_of-place.result c.stand_in-one.result c.place_of-place.ensures in
    omega (arith, w)

pub returns : goal.returns
returns c =
    let w = slice_get_within c.closure-items.result.now c.place_of-place.result c.stand_in-one.result c.place_of-place.ensures in
    record {
      within = c.requires.state;
      one = c.stand_in-one.result;
      place = c.place_of-place.result;
      stands = c.stand_in-one.ensures;
      at = subst (λ z. slice_get z c.place_of-place.result ≡ Some c.stand_in-one.result) c.closure-items.ensures.is c.place_of-place.ensures;
      is = number_read c.args.context.now.kernels.now c.args.context.now.bases.now c.requires.context.are_bases c.args.state
          c.place_of-place.result _ _ c.requires.state (ap length c.closure-items.ensures.is) w refl;
    }
