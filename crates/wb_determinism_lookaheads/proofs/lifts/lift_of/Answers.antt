use Rattle.std.proofs.Common.{◌≡◌, Some, refl, subst}
use Rattle.std.specs.Prelude.{slice_get}
use Rattle.std.proofs.lemmas.Option.{slice_get_within}
use Rattle.wb_lemmas.proofs.Places.{at_once, read_at}
use Rattle.wb_items.specs.Lookaheads.{set_of}
use Rattle.wb_determinism_lookaheads.specs.declared.lifts.Lift.{Lift}
use Rattle.wb_determinism_lookaheads.specs.Inner.Spreading.{IsLifted}
use Rattle.wb_determinism_lookaheads.proofs.lifts.lift_of.Goals as goal

pub returns : goal.returns
returns c =
    let x = c.args.context.now in
    let list = c.args.lifts.now.list.items in
    let place = c.in-Some-place_of_lift.place in
    let n = c.in-Some.number in
    let (lift, at, same) = c.in-Some-place_of_lift.ensures in
    let there : slice_get list place ≡ Some c.index.result.now =
    read_at list list place c.index.result.now refl (slice_get_within list place lift at) c.index.ensures in
    let e : lift ≡ c.index.result.now = at_once list place lift c.index.result.now at there in (
      n,
      c.in-Some.ensures.number,
      subst (λ (z : Lift). IsLifted x (set_of x.known.now n) z.set) e
          (subst (λ z. IsLifted x (set_of x.known.now z) lift.set) same (c.requires.lifts place lift at)),
    )
