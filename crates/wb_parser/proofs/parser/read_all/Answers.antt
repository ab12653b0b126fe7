use Rattle.std.proofs.Common.{◌≤◌, length, sym, subst, arith, [], ◌<◌}
use Rattle.std.proofs.lemmas.List.{take_all}
use Rattle.std.proofs.lemmas.List.Elements.{All-nil, All-same}
use Rattle.wb_lookahead.specs.Contents.{size_of}
use Rattle.wb_values.specs.ValuesIn.{IsIn}
use Rattle.wb_parser.specs.Parses.{Extends}
use Rattle.wb_parser.specs.Inner.Steps.{IsReady, IsRound, IsSound, StaysSound}
use Rattle.wb_parser.proofs.ExtendLemmas.{extends_length, extends_more}
use Rattle.wb_parser.proofs.LeafLemmas.{first_ready}
use Rattle.wb_parser.proofs.parser.read_all.Goals as goal

pub leaves-init : goal.leaves-init
leaves-init c = record {
  within = omega arith;
  sound = record {
    language = c.tables-tables.ensures.language;
    tables_of = c.tables-tables.ensures.of_grammar;
    states_below = All-same (λ s. s < size_of c.args.language.now.tables) c.new-stack.result.states.items [] c.new-stack.ensures.states
        (All-nil (λ s. s < size_of c.args.language.now.tables));
    values_in_store = All-same (IsIn (length c.args.store.now)) c.new-stack.result.values [] c.new-stack.ensures.values
        (All-nil (IsIn (length c.args.store.now)));
  };
  ready = first_ready c.args.language.now c.tables-tables.ensures.language c.args.text.now c.new-stack.result.states.items
      c.new-stack.result.values c.args.store.now c.new-stack.ensures.states c.new-stack.ensures.values;
  extends = take_all (length c.args.store.now) c.args.store.now (omega arith);
  before = omega (arith, c.len-before.ensures);
  reductions = c.in_ok-reductions.ensures;
}

pub leaves-preserved : goal.leaves-preserved
leaves-preserved c =
    let parts = c.args.language.now in
    let text = c.args.text.now in
    let ss = c.take_leaf.new.stack.states.items in
    let vs = c.take_leaf.new.stack.values in
    let same = sym c.make_room-part.ensures in
    let ready = subst (IsRound parts text ss vs c.take_leaf.new.store c.leaves.at) c.in-Goes.is
    (c.in_ok-after.ensures.round c.leaves.invariant.ready) in
    let sound = subst (StaysSound parts (length text) c.leaves.at ss vs c.take_leaf.new.store) c.in-Goes.is c.in_ok-after.ensures.sound in
    let longer = extends_length c.leaves.store c.take_leaf.new.store c.in_ok-after.ensures.extends in
    let within : c.len-before.result ≤ length c.take_leaf.new.store = omega (arith, c.leaves.invariant.before, longer) in
    record {
      within = sound.2;
      sound = subst (IsSound parts ss vs) same sound.0;
      ready = subst (λ store. IsReady parts text ss vs store c.in-Goes.after) same ready;
      extends = subst (Extends c.args.store.now) same
          (extends_more c.args.store.now c.leaves.store c.take_leaf.new.store c.leaves.invariant.extends c.in_ok-after.ensures.extends);
      before = subst (λ store. c.len-before.result ≤ length store) same within;
      reductions = c.in_ok-after.ensures.reductions;
    }
