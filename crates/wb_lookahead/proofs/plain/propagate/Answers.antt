use Rattle.wb_lookahead.proofs.WaitingLemmas.{all_passed, first_place, passed_waiting, sound_popped}
use Rattle.wb_lookahead.proofs.plain.propagate.Goals as goal

pub pass_on-requires-clause-sound : goal.pass_on-requires-clause-sound
pass_on-requires-clause-sound c = sound_popped c.in-Some.place c.waiting.invariant.sound c.in-Some.ensures

pub pass_on-requires-clause-place : goal.pass_on-requires-clause-place
pass_on-requires-clause-place c = first_place c.in-Some.place c.waiting.invariant.sound c.in-Some.ensures

pub waiting-preserved : goal.waiting-preserved
waiting-preserved c = record {
  sound = c.in_ok-pass_on.ensures.sound;
  waiting = passed_waiting c.pop.new.self c.in-Some.place c.in-Some.ensures c.waiting.invariant.sound c.waiting.invariant.waiting c.in_ok-pass_on.ensures.spreads
      c.in_ok-pass_on.ensures.passed;
}

pub returns : goal.returns
returns c = all_passed c.requires.context.are_kernels c.waiting.invariant.sound c.waiting.invariant.waiting c.in_default.ensures
