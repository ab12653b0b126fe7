use Rattle.std.proofs.Common.{◌<◌, ◌∙◌, [], ap, length, refl, subst, sym, arith}
use Rattle.std.proofs.lemmas.List.Elements.{All-nil, All-same}
use Rattle.wb_lookahead.specs.Contents.{action_of, size_of}
use Rattle.wb_parser_states.specs.declared.outcome.Outcome.{Outcome}
use Rattle.wb_parser_states.specs.Stacks.{last_or}
use Rattle.wb_parser_states.specs.Steps.{ShiftsBelow}
use Rattle.wb_parser_states.proofs.StateLemmas.{last_below}
use Rattle.wb_parser_states.proofs.TableLemmas.{IsActionBelow, action_below, zero_below}
use Rattle.wb_parser_expected.specs.Inner.Trials.{HasTables, IsTried, Leads, over}
use Rattle.wb_parser_expected.proofs.TrialLemmas.{accept_tried, leads_itself, leads_reduced, over_all, over_below, shift_tried, stuck_tried}
use Rattle.wb_parser_expected.proofs.trial.try_terminal.Goals as goal

pub reductions-init : goal.reductions-init
reductions-init c =
    let parts = c.args.language.now in
    let has : HasTables parts = record { language = c.tables-tables.ensures.language; tables_of = c.tables-tables.ensures.of_grammar } in
    let whole = over_all (length c.args.states.now) c.args.states.now c.clear.new.self.items refl c.clear.ensures.items in
    record {
      kept = omega arith;
      extra = All-same (λ s. s < size_of parts.tables) c.clear.new.self.items [] c.clear.ensures.items
          (All-nil (λ s. s < size_of parts.tables));
      action = c.action_over-action.ensures ∙ ap (λ z. action_of parts.tables (last_or 0 (over (length c.args.states.now) c.args.states.now z))
          c.args.terminal) c.deref.ensures.value;
      leads = subst (Leads parts c.args.terminal c.args.states.now) (sym whole)
          (leads_itself parts has c.args.terminal c.requires.terminal c.args.states.now);
    }

pub returns-in-Shift-clause-tried : goal.returns-in-Shift-clause-tried
returns-in-Shift-clause-tried c =
    let parts = c.args.language.now in
    let has : HasTables parts = record { language = c.tables-tables.ensures.language; tables_of = c.tables-tables.ensures.of_grammar } in
    let states = over c.reductions.kept c.args.states.now c.reductions.extra.items in
    subst (λ k. IsTried parts c.args.terminal c.args.states.now (over k c.args.states.now c.reductions.extra.items) c.tried.result.outcome)
    (sym c.tried.ensures.kept)
    (subst (IsTried parts c.args.terminal c.args.states.now states) (sym c.tried.ensures.outcome)
    (shift_tried parts has c.args.terminal c.requires.terminal c.args.states.now states c.in-Shift.target c.reductions.invariant.leads
    (sym c.reductions.invariant.action ∙ c.in-Shift.is)))

pub returns-in-Shift-clause-target : goal.returns-in-Shift-clause-target
returns-in-Shift-clause-target c =
    let parts = c.args.language.now in
    let states = over c.reductions.kept c.args.states.now c.reductions.extra.items in
    let n = size_of parts.tables in
    subst (λ (o : Outcome). ShiftsBelow n o) (sym c.tried.ensures.outcome)
    (subst (IsActionBelow parts.language.grammar parts.tables) (sym c.reductions.invariant.action ∙ c.in-Shift.is)
    (action_below c.tables-tables.ensures.of_grammar (last_or 0 states) c.args.terminal
    (last_below n 0 states (zero_below c.tables-tables.ensures.of_grammar)
    (over_below n c.reductions.kept c.args.states.now c.reductions.extra.items c.requires.states c.reductions.invariant.extra))
    c.requires.terminal))

pub returns-in-Accept-clause-tried : goal.returns-in-Accept-clause-tried
returns-in-Accept-clause-tried c =
    let parts = c.args.language.now in
    let has : HasTables parts = record { language = c.tables-tables.ensures.language; tables_of = c.tables-tables.ensures.of_grammar } in
    let states = over c.reductions.kept c.args.states.now c.reductions.extra.items in
    subst (λ k. IsTried parts c.args.terminal c.args.states.now (over k c.args.states.now c.reductions.extra.items) c.tried-in-Accept.result.outcome)
    (sym c.tried-in-Accept.ensures.kept)
    (subst (IsTried parts c.args.terminal c.args.states.now states) (sym c.tried-in-Accept.ensures.outcome)
    (accept_tried parts has c.args.terminal c.requires.terminal c.args.states.now states c.reductions.invariant.leads
    (sym c.reductions.invariant.action ∙ c.in-Accept.is)))

pub returns-in-None-clause-tried : goal.returns-in-None-clause-tried
returns-in-None-clause-tried c =
    let parts = c.args.language.now in
    let has : HasTables parts = record { language = c.tables-tables.ensures.language; tables_of = c.tables-tables.ensures.of_grammar } in
    let states = over c.reductions.kept c.args.states.now c.reductions.extra.items in
    subst (λ k. IsTried parts c.args.terminal c.args.states.now (over k c.args.states.now c.reductions.extra.items) c.tried-in-None.result.outcome)
    (sym c.tried-in-None.ensures.kept)
    (subst (IsTried parts c.args.terminal c.args.states.now states) (sym c.tried-in-None.ensures.outcome)
    (stuck_tried parts has c.args.terminal c.requires.terminal c.args.states.now states c.reductions.invariant.leads
    (sym c.reductions.invariant.action ∙ c.in-None.is)))

pub reduce_by-requires-clause-production : goal.reduce_by-requires-clause-production
reduce_by-requires-clause-production c =
    let parts = c.args.language.now in
    let states = over c.reductions.kept c.args.states.now c.reductions.extra.items in
    let n = size_of parts.tables in
    subst (IsActionBelow parts.language.grammar parts.tables) (sym c.reductions.invariant.action ∙ c.in-Reduce.is)
    (action_below c.tables-tables.ensures.of_grammar (last_or 0 states) c.args.terminal
    (last_below n 0 states (zero_below c.tables-tables.ensures.of_grammar)
    (over_below n c.reductions.kept c.args.states.now c.reductions.extra.items c.requires.states c.reductions.invariant.extra))
    c.requires.terminal)

pub reductions-preserved : goal.reductions-preserved
reductions-preserved c =
    let parts = c.args.language.now in
    let has : HasTables parts = record { language = c.tables-tables.ensures.language; tables_of = c.tables-tables.ensures.of_grammar } in
    let before = over c.reductions.kept c.args.states.now c.reductions.extra.items in
    let after = over c.in_ok-kept-in-Reduce.kept c.args.states.now c.reduce_by.new.extra.items in
    record {
      kept = c.in_ok-kept-in-Reduce.ensures.kept;
      extra = c.in_ok-kept-in-Reduce.ensures.extra;
      action = c.action_over-action-in-Reduce.ensures ∙ ap (λ z. action_of parts.tables
          (last_or 0 (over c.in_ok-kept-in-Reduce.kept c.args.states.now z)) c.args.terminal) c.deref-in-Reduce.ensures.value;
      leads = leads_reduced parts has c.args.terminal c.requires.terminal c.args.states.now before after c.in-Reduce.production
          c.reductions.invariant.leads (sym c.reductions.invariant.action ∙ c.in-Reduce.is) c.in_ok-kept-in-Reduce.ensures.moved;
    }
