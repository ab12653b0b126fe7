use Rattle.std.proofs.Common.{◌+◌, ◌∙◌, ◌++◌, ap, arith, drop, length, refl, rules, subst, sym, take}
use Rattle.std.proofs.lemmas.List.{length-take-le, take_all}
use Rattle.wb_session.specs.Stacks.{roots_of}
use Rattle.wb_session.specs.Kept.{AreCheckpoints}
use Rattle.wb_session.proofs.KeptLemmas.{checkpoints_edit, checkpoints_first, checkpoints_more, kept_places}
use Rattle.wb_session.proofs.PastLemmas.{edit_older, past_more, shares_past}
use Rattle.wb_session.proofs.VersionLemmas.{common_after}
use Rattle.wb_session.proofs.memory.reread_text.Goals as goal

pub go_on-requires-clause-sound : goal.go_on-requires-clause-sound
go_on-requires-clause-sound c = c.in_ok-point.ensures.sound c.args.language.now c.requires.memory.sound

pub go_on-requires-clause-kept : goal.go_on-requires-clause-kept
go_on-requires-clause-kept c =
    let text = c.args.memory.now.text.items in
    let made = c.in_ok-moved.ensures.ok ∙ ap (λ z. z ++ c.args.with.now ++ drop c.args.to c.deref-2.result.now)
    (c.in_ok-take_first.ensures.ok ∙ ap (take c.args.from) c.deref.ensures.value)
    ∙ ap (λ z. take c.args.from text ++ c.args.with.now ++ drop c.args.to z) c.deref-2.ensures.value in
    let places = c.args.memory.now.places.items in
    let first = c.take_first-2.new.other.items in
    subst (λ z. AreCheckpoints c.args.language.now z (roots_of c.go_back.new.stacks) first c.go_back.new.checkpoints.items)
    (sym (c.deref-8.ensures.value ∙ made))
    (checkpoints_edit c.args.language.now (roots_of c.go_back.new.stacks) text c.args.with.now c.args.from c.args.to c.requires.order
    c.requires.within first c.go_back.new.checkpoints.items c.in_ok-point.ensures.before
    (checkpoints_first c.args.language.now text (roots_of c.go_back.new.stacks) places first c.go_back.new.checkpoints.items
    (search rules) (c.in_ok-point.ensures.kept c.args.language.now text places c.requires.memory.kept)))

pub returns-in_err-read-clause-memory : goal.returns-in_err-read-clause-memory
returns-in_err-read-clause-memory c = record {
  rules = c.requires.memory.rules;
  sound = c.in_err-read.ensures.grows.sound;
  placed = c.requires.memory.placed;
  kept = subst (λ z. AreCheckpoints c.args.language.now c.args.memory.now.text.items (roots_of c.go_on.new.stacks)
      c.args.memory.now.places.items z)
      (sym c.in_err-read.ensures.err)
      (checkpoints_more c.args.language.now c.args.memory.now.text.items
      (c.in_ok-point.ensures.sound c.args.language.now c.requires.memory.sound) c.in_err-read.ensures.grows
      (c.in_ok-point.ensures.kept c.args.language.now c.args.memory.now.text.items c.args.memory.now.places.items
      c.requires.memory.kept));
}

pub returns-clause-kept : goal.returns-clause-kept
returns-clause-kept c =
    kept_places _ c.args.memory.now.places.items c.take_first-2.new.other.items _ (search rules) (search rules) (search rules)

pub returns-in_err-take_first-2-clause-memory : goal.returns-in_err-take_first-2-clause-memory
returns-in_err-take_first-2-clause-memory c = record {
  rules = c.requires.memory.rules;
  sound = c.in_ok-point.ensures.sound c.args.language.now c.requires.memory.sound;
  placed = c.requires.memory.placed;
  kept = c.in_ok-point.ensures.kept c.args.language.now c.args.memory.now.text.items c.args.memory.now.places.items
      c.requires.memory.kept;
}

pub returns-in_err-take_first-clause-common : goal.returns-in_err-take_first-clause-common
returns-in_err-take_first-clause-common c = record {
  past = c.requires.common.past;
  bytes = c.in_err-take_first.ensures.common ∙ ap (take c.take_first.new.common) c.deref.ensures.value;
  places = c.requires.common.places;
}

pub returns-in_err-moved-clause-common : goal.returns-in_err-moved-clause-common
returns-in_err-moved-clause-common c = record {
  past = c.requires.common.past;
  bytes = common_after c.args.memory.now.text.items c.take_first.new.other.items c.add_rest.new.made.items c.args.from
      c.take_first.new.common (omega (arith, c.requires.order, c.requires.within))
      (c.in_ok-take_first.ensures.ok ∙ ap (take c.args.from) c.deref.ensures.value) c.in_err-moved.ensures.first
      c.in_ok-take_first.ensures.count;
  places = c.requires.common.places;
}

pub returns-in_err-take_first-2-clause-common : goal.returns-in_err-take_first-2-clause-common
returns-in_err-take_first-2-clause-common c = record {
  past = c.in_ok-point.ensures.past;
  bytes = common_after c.args.memory.now.text.items c.take_first.new.other.items c.add_rest.new.made.items c.args.from
      c.take_first.new.common (omega (arith, c.requires.order, c.requires.within))
      (c.in_ok-take_first.ensures.ok ∙ ap (take c.args.from) c.deref.ensures.value) c.in_ok-moved.ensures.first
      c.in_ok-take_first.ensures.count;
  places = c.in_err-take_first-2.ensures.common ∙ ap (take c.take_first-2.new.common) c.deref-3.ensures.value;
}

pub returns-in_err-read-clause-common : goal.returns-in_err-read-clause-common
returns-in_err-read-clause-common c = record {
  past = past_more c.go_back.new.checkpoints.items c.go_on.new.checkpoints.items c.go_back.new.stacks.entries.items
      c.go_on.new.stacks.entries.items c.go_back.new.past
      (ap (take (length c.go_back.new.checkpoints.items)) c.in_err-read.ensures.err
      ∙ take_all (length c.go_back.new.checkpoints.items) c.go_back.new.checkpoints.items (omega arith)) c.in_err-read.ensures.grows.entries
      c.in_ok-point.ensures.past;
  bytes = common_after c.args.memory.now.text.items c.take_first.new.other.items c.add_rest.new.made.items c.args.from
      c.take_first.new.common (omega (arith, c.requires.order, c.requires.within))
      (c.in_ok-take_first.ensures.ok ∙ ap (take c.args.from) c.deref.ensures.value) c.in_ok-moved.ensures.first
      c.in_ok-take_first.ensures.count;
  places = common_after c.args.memory.now.places.items c.take_first-2.new.other.items c.go_on.new.places.items _
      c.take_first-2.new.common (search rules)
      (c.in_ok-take_first-2.ensures.ok ∙ ap (take _) c.deref-3.ensures.value) c.in_err-read.ensures.first
      c.in_ok-take_first-2.ensures.count;
}

pub returns-clause-common : goal.returns-clause-common
returns-clause-common c = record {
  past = past_more c.go_back.new.checkpoints.items c.go_on.new.checkpoints.items c.go_back.new.stacks.entries.items
      c.go_on.new.stacks.entries.items c.go_back.new.past c.in_ok-read.ensures.begins c.in_ok-read.ensures.grows.entries
      c.in_ok-point.ensures.past;
  bytes = ap (λ v. take c.take_first.new.common v.items) c.swap.ensures.y_after
      ∙ sym (common_after c.args.memory.now.text.items c.take_first.new.other.items c.add_rest.new.made.items c.args.from
      c.take_first.new.common (omega (arith, c.requires.order, c.requires.within))
      (c.in_ok-take_first.ensures.ok ∙ ap (take c.args.from) c.deref.ensures.value) c.in_ok-moved.ensures.first
      c.in_ok-take_first.ensures.count) ∙ sym (ap (λ v. take c.take_first.new.common v.items) c.swap.ensures.x_after);
  places = ap (λ v. take c.take_first-2.new.common v.items) c.swap-2.ensures.y_after
      ∙ sym (common_after c.args.memory.now.places.items c.take_first-2.new.other.items c.go_on.new.places.items _
      c.take_first-2.new.common (search rules)
      (c.in_ok-take_first-2.ensures.ok ∙ ap (take _) c.deref-3.ensures.value) c.in_ok-read.ensures.first
      c.in_ok-take_first-2.ensures.count) ∙ sym (ap (λ v. take c.take_first-2.new.common v.items) c.swap-2.ensures.x_after);
}

pub returns-in_err-point-clause-common : goal.returns-in_err-point-clause-common
returns-in_err-point-clause-common c = record {
  past = c.in_err-point.ensures.past;
  bytes = common_after c.args.memory.now.text.items c.take_first.new.other.items c.add_rest.new.made.items c.args.from
      c.take_first.new.common (omega (arith, c.requires.order, c.requires.within))
      (c.in_ok-take_first.ensures.ok ∙ ap (take c.args.from) c.deref.ensures.value) c.in_ok-moved.ensures.first
      c.in_ok-take_first.ensures.count;
  places = c.requires.common.places;
}

pub returns-in_err-point-clause-memory : goal.returns-in_err-point-clause-memory
returns-in_err-point-clause-memory c = record {
  rules = c.requires.memory.rules;
  sound = c.in_err-point.ensures.sound c.args.language.now c.requires.memory.sound;
  placed = c.requires.memory.placed;
  kept = c.in_err-point.ensures.kept c.args.language.now c.args.memory.now.text.items c.args.memory.now.places.items
      c.requires.memory.kept;
}

pub go_on-requires-clause-older : goal.go_on-requires-clause-older
go_on-requires-clause-older c =
    let text = c.args.memory.now.text.items in
    let with = c.args.with.now in
    let front = c.in_ok-take_first.ensures.ok ∙ ap (take c.args.from) c.deref.ensures.value in
    let made = c.in_ok-moved.ensures.ok ∙ ap (λ z. z ++ with ++ drop c.args.to c.deref-2.result.now) front
    ∙ ap (λ z. take c.args.from text ++ with ++ drop c.args.to z) c.deref-2.ensures.value in
    let size = ap length front ∙ length-take-le c.args.from text (omega (arith, c.requires.order, c.requires.within)) in
    edit_older c.args.language.now text with _ c.args.from c.args.to c.requires.order c.requires.within (roots_of c.args.memory.now.stacks)
    c.args.memory.now.places.items c.args.memory.now.checkpoints.items _ c.grammar.ensures.language c.requires.memory.kept
    (c.deref-4.ensures.value ∙ c.in_ok-point.ensures.older.0) c.deref-5.ensures.value
    (c.deref-6.ensures.value ∙ c.in_ok-point.ensures.older.1) refl
    (c.in_ok-moved.ensures.moved ∙ ap (λ n. n + length with) size) (c.deref-8.ensures.value ∙ made) (search rules) (search rules)

pub go_on-requires-clause-shares : goal.go_on-requires-clause-shares
go_on-requires-clause-shares c =
    shares_past c.go_back.new.checkpoints.items c.go_back.new.stacks.entries.items c.go_back.new.past _ c.in_ok-point.ensures.past
    c.deref-6.ensures.value refl
