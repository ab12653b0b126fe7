use Rattle.std.proofs.Common.{◌∙◌, ap, subst}
use Rattle.wb_base.specs.Grammar.{GrammarView}
use Rattle.wb_parser_expected.specs.Inner.Trials.{IsTried, over}
use Rattle.wb_parser_expected.proofs.WalkLemmas.{is_whole, stops_at_end}
use Rattle.wb_parser_expected.proofs.leaf.finish.Goals as goal

pub returns-in-Accepts-clause-round : goal.returns-in-Accepts-clause-round
returns-in-Accepts-clause-round c text at read n =
    let parts = c.args.language.now in
    let t = c.terminals-end.result in
    let states = c.args.states.now in
    let states' = over c.in_ok-trial.trial.kept states c.try_terminal.new.extra.items in
    is_whole parts text c.requires.tables read states' t c.args.place
    (c.terminals-end.ensures ∙ ap (λ (g : GrammarView). g.terminals) c.grammar.ensures.grammar) n
    (subst (IsTried parts t states states') c.in-Accepts.is c.in_ok-trial.ensures.tried)

pub returns-in_default : goal.returns-in_default
returns-in_default c =
    let parts = c.args.language.now in
    let t = c.terminals-end.result in
    let states = c.args.states.now in
    let states' = over c.in_ok-trial.trial.kept states c.try_terminal.new.extra.items in
    record {
      round = λ text at read n. stops_at_end parts text c.requires.tables read states' t c.args.place c.in_ok-trial.trial.outcome
          (c.terminals-end.ensures ∙ ap (λ (g : GrammarView). g.terminals) c.grammar.ensures.grammar) n c.in_ok-trial.ensures.tried
          c.in_default.not-Accepts;
      ends = λ size at. tt;
    }
