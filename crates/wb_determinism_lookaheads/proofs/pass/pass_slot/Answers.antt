use Rattle.std.proofs.Common.{◌≡◌, [], Bool, List, subst, arith}
use Rattle.std.specs.Prelude.{IfSome, Option, slice_index_or}
use Rattle.wb_determinism_lookaheads.proofs.TrueLemmas.{true_slot}
use Rattle.wb_determinism_lookaheads.proofs.pass.pass_slot.Goals as goal

pub pass_set-requires-clause-holds : goal.pass_set-requires-clause-holds
pass_set-requires-clause-holds c =
    let sets = c.args.sets.now.items in
    true_slot c.args.context.now sets c.requires.sound c.args.place c.args.at c.in-Some.one c.in-Some-2.set
    (let e = c.requires.context.new.kernels_len in omega (arith, c.if-place-len.false, e, c.len.ensures)) c.in-Some.ensures
    (subst (λ (z : List (List (List Bool))). c.in-Some-2.set ≡ slice_index_or (slice_index_or z c.args.place []) c.args.at [])
    c.deref.ensures.value
    (subst (λ (o : Option (List Bool)). IfSome o (λ s. s ≡ slice_index_or (slice_index_or c.deref.result.now c.args.place []) c.args.at []))
    c.in-Some-2.is c.in_ok-set.ensures))
