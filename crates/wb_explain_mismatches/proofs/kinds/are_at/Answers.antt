use Rattle.std.proofs.Common.{◌<◌, subst, arith}
use Rattle.std.proofs.lemmas.Option.{slice_get-get_or, slice_get_within}
use Rattle.wb_explain_mismatches.proofs.AtLemmas.{each_more}
use Rattle.wb_explain_mismatches.proofs.kinds.are_at.Goals as goal

pub places-preserved : goal.places-preserved
places-preserved c =
    each_more c.args.kinds.now c.args.places.now c.args.wanted.now c.places.number _ _ c.places.invariant
    (slice_get-get_or c.args.places.now c.places.number _ c.places-test.true)
    (slice_get-get_or c.args.wanted.now c.places.number _
    (subst (λ z. c.places.number < z) c.if-places-wanted.false c.places-test.true))
    (c.is_at.ensures c.if-not-is_at.false)

pub returns : goal.returns
returns c = λ e. record {
  count = c.if-places-wanted.false;
  each = λ i at is here there.
      let within = slice_get_within c.args.places.now i at here in
      let ended = c.places-test.false in
      c.places.invariant i at is (omega (arith, within, ended)) here there;
}
