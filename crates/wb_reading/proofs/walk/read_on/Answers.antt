use Rattle.std.proofs.Common.{◌∙◌, length, refl, subst, arith}
use Rattle.wb_reading.specs.Inner.Walks.{IsRound, StaysSound}
use Rattle.wb_reading.proofs.LeafLemmas.{stops_from}
use Rattle.wb_reading.proofs.walk.read_on.Goals as goal

pub leaves-init : goal.leaves-init
leaves-init c = record {
  from = omega arith;
  within = c.requires.from;
  count = c.requires.first;
  length = refl;
  sound = c.requires.sound;
  reductions = c.requires.reductions;
  top = c.top-state.ensures;
  read = c.requires.read;
}

pub leaves-preserved : goal.leaves-preserved
leaves-preserved c =
    let parts = c.args.language.now in
    let text = c.args.text.now in
    let new = c.take_leaf.new.states in
    let sound = subst (StaysSound parts (length text) c.leaves.at new) c.in-Goes.is c.take_leaf.ensures.sound in
    let further = sound.1 in
    let before = c.leaves.invariant.from in
    record {
      from = omega (arith, further, before);
      within = sound.2;
      count = sound.4;
      length = c.take_leaf.ensures.length ∙ c.leaves.invariant.length;
      sound = sound.0;
      reductions = c.take_leaf.ensures.reductions;
      top = sound.3;
      read = subst (IsRound parts c.args.markers.now text new) c.in-Goes.is c.take_leaf.ensures.round;
    }

pub returns-in-Stops-clause-stop : goal.returns-in-Stops-clause-stop
returns-in-Stops-clause-stop c =
    subst (IsRound c.args.language.now c.args.markers.now c.args.text.now c.take_leaf.new.states) c.in-Stops.is c.take_leaf.ensures.round

pub returns-in-Stops-clause-sound : goal.returns-in-Stops-clause-sound
returns-in-Stops-clause-sound c =
    let parts = c.args.language.now in
    let size = length c.args.text.now in
    let new = c.take_leaf.new.states in
    stops_from parts size c.args.from c.leaves.at new c.in-Stops.stop c.leaves.invariant.from
    (subst (StaysSound parts size c.leaves.at new) c.in-Stops.is c.take_leaf.ensures.sound)
