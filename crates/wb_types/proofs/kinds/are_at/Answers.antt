use Rattle.std.proofs.Common.{◌<◌, refl, subst, arith, false}
use Rattle.std.proofs.lemmas.Option.{slice_get-get_or, slice_get_within}
use Rattle.wb_types.proofs.AtLemmas.{each_more, never_both}
use Rattle.wb_types.proofs.kinds.are_at.Goals as goal

pub returns-then-not-is_at : goal.returns-then-not-is_at
returns-then-not-is_at c = (
  λ e. absurd (never_both false refl e),
  λ parts. absurd (
      let within : c.places.number < _ = subst (λ z. c.places.number < z) c.if-places-wanted.false c.places-test.true in
      never_both c.is_at.result c.if-not-is_at.true (c.is_at.ensures.1 (parts.each c.places.number _ _
      (slice_get-get_or c.args.places.now c.places.number _ c.places-test.true)
      (slice_get-get_or c.args.wanted.now c.places.number _ within)))),
)

pub places-preserved : goal.places-preserved
places-preserved c =
    each_more c.args.kinds.now c.args.places.now c.args.wanted.now c.places.number _ _ c.places.invariant
    (slice_get-get_or c.args.places.now c.places.number _ c.places-test.true)
    (slice_get-get_or c.args.wanted.now c.places.number _
    (subst (λ z. c.places.number < z) c.if-places-wanted.false c.places-test.true))
    (c.is_at.ensures.0 c.if-not-is_at.false)

pub returns : goal.returns
returns c = (
  λ e. record {
    count = c.if-places-wanted.false;
    each = λ i at is here there.
        let within = slice_get_within c.args.places.now i at here in
        let ended = c.places-test.false in
        c.places.invariant i at is (omega (arith, within, ended)) here there;
  },
  λ parts. refl,
)
