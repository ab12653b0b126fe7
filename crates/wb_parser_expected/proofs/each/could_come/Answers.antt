use Rattle.std.proofs.Common.{refl, subst}
use Rattle.wb_parser_expected.specs.Inner.Trials.{HasTables, IsTried, over}
use Rattle.wb_parser_expected.proofs.TrialLemmas.{tried_begins, tried_never}
use Rattle.wb_parser_expected.proofs.each.could_come.Goals as goal

pub returns-in-Stops : goal.returns-in-Stops
returns-in-Stops c stack stands =
    let parts = c.args.language.now in
    let has : HasTables parts = record { language = c.tables-tables.ensures.language; tables_of = c.tables-tables.ensures.of_grammar } in
    let states = c.args.states.now in
    let states' = over c.in_ok-trial.trial.kept states c.try_terminal.new.extra.items in (
      λ e. cc,
      λ b. absurd (tried_never parts has c.args.terminal states states'
          (subst (IsTried parts c.args.terminal states states') c.in-Stops.is c.in_ok-trial.ensures.tried) stack stands b),
    )

pub returns-in_default : goal.returns-in_default
returns-in_default c stack stands =
    let parts = c.args.language.now in
    let has : HasTables parts = record { language = c.tables-tables.ensures.language; tables_of = c.tables-tables.ensures.of_grammar } in
    let states = c.args.states.now in
    let states' = over c.in_ok-trial.trial.kept states c.try_terminal.new.extra.items in (
      λ e. tried_begins parts has c.args.terminal states states' c.in_ok-trial.trial.outcome c.in_ok-trial.ensures.tried c.in_default.not-Stops
          stack stands,
      λ b. refl,
    )
