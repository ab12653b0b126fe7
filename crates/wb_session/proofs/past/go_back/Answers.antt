use Rattle.std.proofs.Common.{◌≡◌, ◌<◌, ◌≤◌, ◌+◌, ◌∙◌, ap, arith, length, refl, subst, sym, take, Some}
use Rattle.std.specs.Prelude.{slice_get}
use Rattle.std.proofs.lemmas.List.{length-take-le}
use Rattle.std.proofs.lemmas.Option.{slice_get-get_or}
use Rattle.wb_session.proofs.KeptLemmas.{before_back, kept_within, sound_back, went_back}
use Rattle.wb_session.proofs.VersionLemmas.{common_turned}
use Rattle.wb_session.proofs.past.go_back.Goals as goal

pub truncate-requires : goal.truncate-requires
truncate-requires c =
    let points = c.args.checkpoints.now.items in
    let place = c.last_before-place.result in
    let lt : place < length points = subst (λ z. place < length z) c.deref.ensures.value c.last_before-place.ensures.within in
    let here : slice_get points place ≡ Some c.index-point.result.now =
    slice_get-get_or points place c.index-point.result.now (omega (arith, lt)) ∙ ap Some (sym c.index-point.ensures) in
    let (parts, text, places, kept) = c.requires.kept in
    let le = kept_within parts text (kept.each place c.index-point.result.now here) in
    omega (arith, le, c.requires.same)

pub returns-clause-kept : goal.returns-clause-kept
returns-clause-kept c parts text places are =
    let points = c.args.checkpoints.now.items in
    let place = c.last_before-place.result in
    let lt : place < length points = subst (λ z. place < length z) c.deref.ensures.value c.last_before-place.ensures.within in
    let here : slice_get points place ≡ Some c.index-point.result.now =
    slice_get-get_or points place c.index-point.result.now (omega (arith, lt)) ∙ ap Some (sym c.index-point.ensures) in
    let points_are = ap (λ v. v.items) c.swap.ensures.x_after ∙ c.in_ok-take_first.ensures.ok
    ∙ ap (take (place + 1)) c.deref-2.ensures.value in
    let es_are = ap (λ v. v.items) c.swap-2.ensures.x_after ∙ c.in_ok-take_first-2.ensures.ok
    ∙ ap (take c.index-point.result.now.link) c.deref-3.ensures.value in
    went_back c.args.stacks.now.entries.items c.args.stacks.now.values c.args.stacks.now.store points place c.index-point.result.now here
    c.swap-2.new.x.items c.truncate.new.self c.args.stacks.now.store c.swap.new.x.items points_are es_are
    c.truncate.ensures refl parts text places are

pub returns-clause-sound : goal.returns-clause-sound
returns-clause-sound c parts sound =
    let points = c.args.checkpoints.now.items in
    let place = c.last_before-place.result in
    let lt : place < length points = subst (λ z. place < length z) c.deref.ensures.value c.last_before-place.ensures.within in
    let here : slice_get points place ≡ Some c.index-point.result.now =
    slice_get-get_or points place c.index-point.result.now (omega (arith, lt)) ∙ ap Some (sym c.index-point.ensures) in
    let (parts', text, places, kept) = c.requires.kept in
    let points_are = ap (λ v. v.items) c.swap.ensures.x_after ∙ c.in_ok-take_first.ensures.ok
    ∙ ap (take (place + 1)) c.deref-2.ensures.value in
    let es_are = ap (λ v. v.items) c.swap-2.ensures.x_after ∙ c.in_ok-take_first-2.ensures.ok
    ∙ ap (take c.index-point.result.now.link) c.deref-3.ensures.value in
    sound_back c.args.stacks.now.entries.items c.args.stacks.now.values c.args.stacks.now.store points place c.index-point.result.now here
    c.swap-2.new.x.items c.truncate.new.self c.args.stacks.now.store c.swap.new.x.items points_are es_are c.truncate.ensures refl parts
    (kept_within parts' text (kept.each place c.index-point.result.now here)) sound

pub returns-clause-before : goal.returns-clause-before
returns-clause-before c =
    let points = c.args.checkpoints.now.items in
    let place = c.last_before-place.result in
    let lt : place < length points = subst (λ z. place < length z) c.deref.ensures.value c.last_before-place.ensures.within in
    let here : slice_get points place ≡ Some c.index-point.result.now =
    slice_get-get_or points place c.index-point.result.now (omega (arith, lt)) ∙ ap Some (sym c.index-point.ensures) in
    let (parts, text, places, kept) = c.requires.kept in
    let points_are = ap (λ v. v.items) c.swap.ensures.x_after ∙ c.in_ok-take_first.ensures.ok
    ∙ ap (take (place + 1)) c.deref-2.ensures.value in
    let es_are = ap (λ v. v.items) c.swap-2.ensures.x_after ∙ c.in_ok-take_first-2.ensures.ok
    ∙ ap (take c.index-point.result.now.link) c.deref-3.ensures.value in
    before_back c.args.stacks.now.entries.items c.args.stacks.now.values c.args.stacks.now.store points place c.index-point.result.now here
    c.swap-2.new.x.items c.truncate.new.self c.args.stacks.now.store c.swap.new.x.items points_are es_are
    c.truncate.ensures refl c.args.from kept.rising
    (c.last_before-place.ensures.before c.index-point.result.now
    (subst (λ z. slice_get z place ≡ Some c.index-point.result.now) (sym c.deref.ensures.value) here))

pub returns-clause-at : goal.returns-clause-at
returns-clause-at c =
    let points = c.args.checkpoints.now.items in
    let place = c.last_before-place.result in
    let lt : place < length points = subst (λ z. place < length z) c.deref.ensures.value c.last_before-place.ensures.within in
    let here : slice_get points place ≡ Some c.index-point.result.now =
    slice_get-get_or points place c.index-point.result.now (omega (arith, lt)) ∙ ap Some (sym c.index-point.ensures) in
    let (parts, text, places, kept) = c.requires.kept in
    let before : c.index-point.result.now.at ≤ c.index-point.result.now.reach = (kept.each place c.index-point.result.now here).before in
    omega (
      arith,
      before,
      c.last_before-place.ensures.before c.index-point.result.now
          (subst (λ z. slice_get z place ≡ Some c.index-point.result.now) (sym c.deref.ensures.value) here),
    )

pub returns-clause-some : goal.returns-clause-some
returns-clause-some c =
    let points = c.args.checkpoints.now.items in
    let place = c.last_before-place.result in
    let lt : place < length points = subst (λ z. place < length z) c.deref.ensures.value c.last_before-place.ensures.within in
    let points_are = ap (λ v. v.items) c.swap.ensures.x_after ∙ c.in_ok-take_first.ensures.ok
    ∙ ap (take (place + 1)) c.deref-2.ensures.value in
    omega (arith, lt, ap length points_are, length-take-le (place + 1) points (omega (arith, lt)))

pub returns-clause-few : goal.returns-clause-few
returns-clause-few c =
    let points = c.args.checkpoints.now.items in
    let place = c.last_before-place.result in
    let lt : place < length points = subst (λ z. place < length z) c.deref.ensures.value c.last_before-place.ensures.within in
    let points_are = ap (λ v. v.items) c.swap.ensures.x_after ∙ c.in_ok-take_first.ensures.ok
    ∙ ap (take (place + 1)) c.deref-2.ensures.value in
    omega (arith, lt, ap length points_are, length-take-le (place + 1) points (omega (arith, lt)))

pub take_first-requires-clause-count : goal.take_first-requires-clause-count
take_first-requires-clause-count c =
    let lt = c.last_before-place.ensures.within in
    omega (arith, lt, ap length c.deref.ensures.value, ap length c.deref-2.ensures.value)

pub take_first-requires-2-clause-count : goal.take_first-requires-2-clause-count
take_first-requires-2-clause-count c =
    let points = c.args.checkpoints.now.items in
    let place = c.last_before-place.result in
    let lt : place < length points = subst (λ z. place < length z) c.deref.ensures.value c.last_before-place.ensures.within in
    let here : slice_get points place ≡ Some c.index-point.result.now =
    slice_get-get_or points place c.index-point.result.now (omega (arith, lt)) ∙ ap Some (sym c.index-point.ensures) in
    let (parts, text, places, kept) = c.requires.kept in
    omega (arith, kept_within parts text (kept.each place c.index-point.result.now here), ap length c.deref-3.ensures.value)

pub returns-in_err-take_first-clause-past : goal.returns-in_err-take_first-clause-past
returns-in_err-take_first-clause-past c =
    let lt = c.last_before-place.ensures.within in
    let few = c.in_err-take_first.ensures.few in
    record {
      checkpoints = c.in_err-take_first.ensures.common ∙ ap (take c.take_first.new.common) c.deref-2.ensures.value;
      few = omega (arith, lt, few, ap length c.deref.ensures.value);
      entries = c.requires.past.entries;
      few_entries = c.requires.past.few_entries;
    }

pub returns-in_err-take_first-2-clause-past : goal.returns-in_err-take_first-2-clause-past
returns-in_err-take_first-2-clause-past c =
    let points = c.args.checkpoints.now.items in
    let place = c.last_before-place.result in
    let lt : place < length points = subst (λ z. place < length z) c.deref.ensures.value c.last_before-place.ensures.within in
    let here : slice_get points place ≡ Some c.index-point.result.now =
    slice_get-get_or points place c.index-point.result.now (omega (arith, lt)) ∙ ap Some (sym c.index-point.ensures) in
    let (parts, text, places, kept) = c.requires.kept in
    let within = kept_within parts text (kept.each place c.index-point.result.now here) in
    record {
      checkpoints = c.in_ok-take_first.ensures.common ∙ ap (take c.take_first.new.common) c.deref-2.ensures.value;
      few = let few = c.in_ok-take_first.ensures.few in omega (arith, lt, few);
      entries = c.in_err-take_first-2.ensures.common ∙ ap (take c.take_first-2.new.common) c.deref-3.ensures.value;
      few_entries = let few = c.in_err-take_first-2.ensures.few in omega (arith, few, within);
    }

pub returns-clause-past : goal.returns-clause-past
returns-clause-past c =
    let points = c.args.checkpoints.now.items in
    let es = c.args.stacks.now.entries.items in
    let place = c.last_before-place.result in
    let lt : place < length points = subst (λ z. place < length z) c.deref.ensures.value c.last_before-place.ensures.within in
    let here : slice_get points place ≡ Some c.index-point.result.now =
    slice_get-get_or points place c.index-point.result.now (omega (arith, lt)) ∙ ap Some (sym c.index-point.ensures) in
    let (parts, text, places, kept) = c.requires.kept in
    let within = kept_within parts text (kept.each place c.index-point.result.now here) in
    let points_are = ap (λ v. v.items) c.swap.ensures.x_after ∙ c.in_ok-take_first.ensures.ok
    ∙ ap (take (place + 1)) c.deref-2.ensures.value in
    let es_are = ap (λ v. v.items) c.swap-2.ensures.x_after ∙ c.in_ok-take_first-2.ensures.ok
    ∙ ap (take c.index-point.result.now.link) c.deref-3.ensures.value in
    record {
      checkpoints = ap (λ v. take c.take_first.new.common v.items) c.swap.ensures.y_after
          ∙ common_turned points c.swap.new.x.items (place + 1) c.take_first.new.common points_are c.in_ok-take_first.ensures.count;
      few = omega (arith, c.in_ok-take_first.ensures.count, ap length points_are, length-take-le (place + 1) points (omega (arith, lt)));
      entries = ap (λ v. take c.take_first-2.new.common v.items) c.swap-2.ensures.y_after
          ∙ common_turned es c.swap-2.new.x.items c.index-point.result.now.link c.take_first-2.new.common es_are
          c.in_ok-take_first-2.ensures.count;
      few_entries = omega (
        arith,
        c.in_ok-take_first-2.ensures.count,
        ap length es_are,
        length-take-le c.index-point.result.now.link es within,
      );
    }
