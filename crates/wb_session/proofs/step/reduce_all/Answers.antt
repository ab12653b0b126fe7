use Rattle.std.proofs.Common.{◌<◌, ◌∙◌, ap, subst, sym}
use Rattle.wb_lookahead.specs.Contents.{TablesView, action_of, size_of}
use Rattle.wb_parser_states.proofs.TableLemmas.{action_below, IsActionBelow, zero_below}
use Rattle.wb_session.specs.Inner.Entries.{state_in}
use Rattle.wb_session.specs.Stacks.{roots_of}
use Rattle.wb_session.proofs.StackLemmas.{grows_none, grows_then, state_below}
use Rattle.wb_session.proofs.StepLemmas.{accept_settled, made_none, made_then, shift_settled, step_made, stop_settled}
use Rattle.wb_session.proofs.step.reduce_all.Goals as goal

pub reductions-init : goal.reductions-init
reductions-init c = record {
  are = made_none c.args.language.now c.args.terminal (roots_of c.args.stacks.now) c.args.from;
  grows = grows_none c.args.language.now c.requires.sound;
  link = c.requires.link;
}

pub action-requires-clause-state : goal.action-requires-clause-state
action-requires-clause-state c =
    let ts = c.args.language.now.tables in
    let top = c.state_at.ensures ∙ ap (λ z. state_in z c.reductions.link) c.deref.ensures.value in
    subst (λ (z : TablesView). c.state_at.result < size_of z) (sym c.tables-tables.ensures.tables)
    (subst (λ s. s < size_of ts) (sym top)
    (state_below c.args.language.now (roots_of c.reductions.stacks) c.reductions.link c.reductions.invariant.grows.sound
    (zero_below c.tables-tables.ensures.of_grammar) c.reductions.invariant.link))

pub returns-in-Shift-clause-settled : goal.returns-in-Shift-clause-settled
returns-in-Shift-clause-settled c =
    let ts = c.args.language.now.tables in
    let top = c.state_at.ensures ∙ ap (λ z. state_in z c.reductions.link) c.deref.ensures.value in
    let act = c.action.ensures ∙ ap (λ (z : TablesView). action_of z c.state_at.result c.args.terminal) c.tables-tables.ensures.tables
    ∙ ap (λ s. action_of ts s c.args.terminal) top in
    shift_settled c.args.language.now c.tables-tables.ensures.language c.tables-tables.ensures.of_grammar c.args.terminal
    c.requires.terminal
    (roots_of c.reductions.stacks) c.reductions.link c.in-Shift.target (sym act ∙ c.in-Shift.is) (roots_of c.args.stacks.now) c.args.from
    c.reductions.invariant.are

pub returns-in-Shift-clause-below : goal.returns-in-Shift-clause-below
returns-in-Shift-clause-below c =
    let ts = c.args.language.now.tables in
    let top = c.state_at.ensures ∙ ap (λ z. state_in z c.reductions.link) c.deref.ensures.value in
    let act = c.action.ensures ∙ ap (λ (z : TablesView). action_of z c.state_at.result c.args.terminal) c.tables-tables.ensures.tables
    ∙ ap (λ s. action_of ts s c.args.terminal) top in
    subst (IsActionBelow c.args.language.now.language.grammar ts) (sym act ∙ c.in-Shift.is)
    (action_below c.tables-tables.ensures.of_grammar (state_in c.reductions.stacks.entries.items c.reductions.link) c.args.terminal
    (state_below c.args.language.now (roots_of c.reductions.stacks) c.reductions.link c.reductions.invariant.grows.sound
    (zero_below c.tables-tables.ensures.of_grammar) c.reductions.invariant.link) c.requires.terminal)

pub returns-in-Accept-clause-settled : goal.returns-in-Accept-clause-settled
returns-in-Accept-clause-settled c =
    let ts = c.args.language.now.tables in
    let top = c.state_at.ensures ∙ ap (λ z. state_in z c.reductions.link) c.deref.ensures.value in
    let act = c.action.ensures ∙ ap (λ (z : TablesView). action_of z c.state_at.result c.args.terminal) c.tables-tables.ensures.tables
    ∙ ap (λ s. action_of ts s c.args.terminal) top in
    accept_settled c.args.language.now c.tables-tables.ensures.language c.tables-tables.ensures.of_grammar c.args.terminal
    c.requires.terminal
    (roots_of c.reductions.stacks) c.reductions.link (sym act ∙ c.in-Accept.is) (roots_of c.args.stacks.now) c.args.from
    c.reductions.invariant.are

pub returns-in-None-clause-settled : goal.returns-in-None-clause-settled
returns-in-None-clause-settled c =
    let ts = c.args.language.now.tables in
    let top = c.state_at.ensures ∙ ap (λ z. state_in z c.reductions.link) c.deref.ensures.value in
    let act = c.action.ensures ∙ ap (λ (z : TablesView). action_of z c.state_at.result c.args.terminal) c.tables-tables.ensures.tables
    ∙ ap (λ s. action_of ts s c.args.terminal) top in
    stop_settled c.args.language.now c.tables-tables.ensures.language c.tables-tables.ensures.of_grammar c.args.terminal c.requires.terminal
    (roots_of c.reductions.stacks) c.reductions.link (sym act ∙ c.in-None.is) (roots_of c.args.stacks.now) c.args.from
    c.reductions.invariant.are

pub reduce-requires-clause-production : goal.reduce-requires-clause-production
reduce-requires-clause-production c =
    let ts = c.args.language.now.tables in
    let top = c.state_at.ensures ∙ ap (λ z. state_in z c.reductions.link) c.deref.ensures.value in
    let act = c.action.ensures ∙ ap (λ (z : TablesView). action_of z c.state_at.result c.args.terminal) c.tables-tables.ensures.tables
    ∙ ap (λ s. action_of ts s c.args.terminal) top in
    subst (IsActionBelow c.args.language.now.language.grammar ts) (sym act ∙ c.in-Reduce.is)
    (action_below c.tables-tables.ensures.of_grammar (state_in c.reductions.stacks.entries.items c.reductions.link) c.args.terminal
    (state_below c.args.language.now (roots_of c.reductions.stacks) c.reductions.link c.reductions.invariant.grows.sound
    (zero_below c.tables-tables.ensures.of_grammar) c.reductions.invariant.link) c.requires.terminal)

pub reductions-preserved : goal.reductions-preserved
reductions-preserved c =
    let ts = c.args.language.now.tables in
    let top = c.state_at.ensures ∙ ap (λ z. state_in z c.reductions.link) c.deref.ensures.value in
    let act = c.action.ensures ∙ ap (λ (z : TablesView). action_of z c.state_at.result c.args.terminal) c.tables-tables.ensures.tables
    ∙ ap (λ s. action_of ts s c.args.terminal) top in
    record {
      are = made_then c.args.language.now c.args.terminal (roots_of c.args.stacks.now) (roots_of c.reductions.stacks)
          (roots_of c.reduce.new.stacks) c.args.from c.reductions.link c.in_ok-link-in-Reduce.link c.reductions.invariant.are
          (step_made c.args.language.now c.tables-tables.ensures.language c.tables-tables.ensures.of_grammar c.args.terminal
          c.requires.terminal c.in-Reduce.production (roots_of c.reductions.stacks) (roots_of c.reduce.new.stacks) c.reductions.link
          c.in_ok-link-in-Reduce.link c.reductions.invariant.grows.sound (sym act ∙ c.in-Reduce.is) c.in_ok-link-in-Reduce.ensures.made);
      grows = grows_then c.args.language.now c.reductions.invariant.grows c.in_ok-link-in-Reduce.ensures.grows;
      link = c.in_ok-link-in-Reduce.ensures.link;
    }
