use Rattle.std.proofs.Common.{subst, sym, refl, ◌∙◌, ap, ◌<◌, slice_range}
use Rattle.wb_lookahead.specs.Contents.{size_of}
use Rattle.wb_scan_theory.specs.Tokens.{token, over, missing}
use Rattle.wb_parser_states.specs.Stacks.{last_or}
use Rattle.wb_parser.specs.Inner.Steps.{IsOutcome}
use Rattle.wb_parser_states.proofs.TableLemmas.{zero_below}
use Rattle.wb_parser_states.proofs.StateLemmas.{last_below}
use Rattle.wb_parser.proofs.LeafLemmas.{scanned_at, nothing_leaf, token_shift, token_stops}
use Rattle.wb_parser.proofs.leaf.take_leaf.Goals as goal

pub scan-requires-clause-state : goal.scan-requires-clause-state
scan-requires-clause-state c =
    subst (λ z. z < size_of c.args.language.now.tables) (sym (c.top.ensures ∙ ap (last_or 0) c.deref.ensures.value))
    (last_below (size_of c.args.language.now.tables) 0 c.args.stack.now.states.items (zero_below c.requires.sound.tables_of)
    c.requires.sound.states_below)

pub returns-in-NoToken-clause-round : goal.returns-in-NoToken-clause-round
returns-in-NoToken-clause-round c r =
    nothing_leaf c.args.language.now c.requires.sound.language c.args.text.now c.args.stack.now.states.items c.args.stack.now.values
    c.args.store.now r.0 c.args.at c.in-NoToken.place r.1
    (scanned_at c.args.language.now c.requires.sound.language c.args.text.now c.requires.sound.tables_of c.args.stack.now.states.items
    c.deref.result.now c.args.stack.now.values c.args.store.now c.args.at c.top.result (missing c.in-NoToken.place) c.top.ensures
    c.deref.ensures.value c.in-NoToken.ensures.next r)

pub returns-in_ok-finish-in-End-clause-round : goal.returns-in_ok-finish-in-End-clause-round
returns-in_ok-finish-in-End-clause-round c r =
    c.in_ok-finish-in-End.ensures.parsed c.args.text.now r.0 c.args.at
    (scanned_at c.args.language.now c.requires.sound.language c.args.text.now c.requires.sound.tables_of c.args.stack.now.states.items
    c.deref.result.now c.args.stack.now.values c.args.store.now c.args.at c.top.result (over c.in-End.place) c.top.ensures
    c.deref.ensures.value c.in-End.ensures.next r) r.1

pub returns-in_ok-push_leaf-in-Shifts-clause-round : goal.returns-in_ok-push_leaf-in-Shifts-clause-round
returns-in_ok-push_leaf-in-Shifts-clause-round c r =
    let n = scanned_at c.args.language.now c.requires.sound.language c.args.text.now c.requires.sound.tables_of
    c.args.stack.now.states.items c.deref.result.now c.args.stack.now.values c.args.store.now c.args.at c.top.result
    (token c.in-Token.place c.in-Token.terminal (slice_range c.args.text.now c.in-Token.lexeme c.in-Token.end) c.in-Token.end)
    c.top.ensures c.deref.ensures.value c.in-Token.ensures.next r in
    token_shift c.args.language.now c.requires.sound.language c.args.text.now c.reduce_all.new.stack.states.items
    c.push_leaf.new.stack.states.items c.reduce_all.new.stack.values c.push_leaf.new.stack.values c.reduce_all.new.store r.0
    c.args.at c.in-Token.place c.in-Token.terminal (slice_range c.args.text.now c.in-Token.lexeme c.in-Token.end) c.in-Token.end
    c.in-Shifts.target c.in_ok-push_leaf-in-Shifts.ensures.states
    c.in_ok-push_leaf-in-Shifts.ensures.values n
    (subst (IsOutcome c.args.language.now c.args.text.now c.in-Token.terminal c.reduce_all.new.stack.states.items
    c.reduce_all.new.stack.values c.reduce_all.new.store r.0 c.args.at c.in-Token.place) c.in-Shifts.is
    (c.in_ok-target-in-Token.ensures.outcome c.args.text.now r.0 c.args.at c.in-Token.place _ n (refl, refl) r.1))

pub returns-in_default : goal.returns-in_default
returns-in_default c = record {
  round = λ r.
      (let n = scanned_at c.args.language.now c.requires.sound.language c.args.text.now c.requires.sound.tables_of
      c.args.stack.now.states.items c.deref.result.now c.args.stack.now.values c.args.store.now c.args.at c.top.result
      (token c.in-Token.place c.in-Token.terminal (slice_range c.args.text.now c.in-Token.lexeme c.in-Token.end) c.in-Token.end)
      c.top.ensures c.deref.ensures.value c.in-Token.ensures.next r in
      token_stops c.args.language.now c.requires.sound.language c.args.text.now c.reduce_all.new.stack.states.items
      c.reduce_all.new.stack.values c.reduce_all.new.store r.0 c.args.at c.in-Token.place c.in-Token.terminal
      (slice_range c.args.text.now c.in-Token.lexeme c.in-Token.end) c.in-Token.end c.in_ok-target-in-Token.field-0
      c.in_default.not-Shifts n
      (c.in_ok-target-in-Token.ensures.outcome c.args.text.now r.0 c.args.at c.in-Token.place _ n (refl, refl) r.1));
  sound = tt;
  extends = c.in_ok-target-in-Token.ensures.extends;
  reductions = c.in_ok-target-in-Token.ensures.reductions;
}
