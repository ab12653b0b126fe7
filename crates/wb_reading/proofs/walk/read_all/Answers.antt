use Rattle.std.proofs.Common.{◌<◌, [], length, subst, arith}
use Rattle.std.proofs.lemmas.List.Elements.{All-nil, All-same}
use Rattle.wb_lookahead.specs.Contents.{size_of}
use Rattle.wb_reading.specs.Inner.Walks.{IsTurn, TurnsSound}
use Rattle.wb_reading.proofs.LeafLemmas.{first_read}
use Rattle.wb_reading.proofs.walk.read_all.Goals as goal

pub turns-init : goal.turns-init
turns-init c = record {
  within = omega arith;
  sound = record {
    language = c.tables-tables.ensures.language;
    tables_of = c.tables-tables.ensures.of_grammar;
    states_below = All-same (λ s. s < size_of c.args.language.now.tables) c.args.states.now.items [] c.requires.states
        (All-nil (λ s. s < size_of c.args.language.now.tables));
  };
  reductions = c.requires.reductions;
  read = first_read c.args.language.now c.args.markers.now c.args.text.now c.args.states.now.items c.requires.states;
}

pub turns-preserved : goal.turns-preserved
turns-preserved c =
    let parts = c.args.language.now in
    let text = c.args.text.now in
    let new = c.take_turn.new.states.items in
    let sound = subst (TurnsSound parts (length text) c.turns.at new) c.in-Goes.is c.in_ok-after.ensures.sound in
    record {
      within = sound.2;
      sound = sound.0;
      reductions = c.in_ok-after.ensures.reductions;
      read = subst (IsTurn parts c.args.markers.now text new) c.in-Goes.is c.in_ok-after.ensures.turn;
    }
