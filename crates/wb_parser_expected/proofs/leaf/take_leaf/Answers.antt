use Rattle.std.proofs.Common.{◌<◌, ◌∙◌, ◌++◌, ◌∷◌, [], ap, slice_range, subst, sym}
use Rattle.std.specs.Prelude.{All, IfOk}
use Rattle.std.proofs.lemmas.List.Elements.{All-push}
use Rattle.wb_grammar_theory.specs.Trees.{symbols}
use Rattle.wb_lookahead.specs.Contents.{size_of}
use Rattle.wb_parser_states.specs.declared.outcome.Outcome.TheVariants.{Shifts}
use Rattle.wb_parser_states.specs.Stacks.{last_or}
use Rattle.wb_parser_states.specs.Steps.{ShiftsBelow}
use Rattle.wb_parser_states.proofs.StateLemmas.{last_below}
use Rattle.wb_parser_states.proofs.TableLemmas.{zero_below}
use Rattle.wb_scan_theory.specs.Tokens.{NextToken, missing, over as over_at, token}
use Rattle.wb_parser_expected.specs.Inner.Trials.{IsTried, over}
use Rattle.wb_parser_expected.specs.Inner.Walks.{HasRead, IsRound}
use Rattle.wb_parser_expected.proofs.TrialLemmas.{over_below}
use Rattle.wb_parser_expected.proofs.WalkLemmas.{next_is, read_more, stops_at_nothing, stops_at_token}
use Rattle.wb_parser_expected.proofs.leaf.take_leaf.Goals as goal

pub scan-requires-clause-state : goal.scan-requires-clause-state
scan-requires-clause-state c =
    subst (λ z. z < size_of c.args.language.now.tables) (sym (c.top.ensures ∙ ap (last_or 0) c.deref.ensures.value))
    (last_below (size_of c.args.language.now.tables) 0 c.args.states.now.items (zero_below c.requires.tables.tables_of) c.requires.states)

pub returns-in-NoToken-clause-round : goal.returns-in-NoToken-clause-round
returns-in-NoToken-clause-round c =
    stops_at_nothing c.args.language.now c.args.text.now c.requires.tables c.requires.read c.in-NoToken.place
    (next_is c.args.language.now c.args.text.now c.requires.tables c.requires.read c.deref.result.now c.top.result
    (missing c.in-NoToken.place) c.top.ensures c.deref.ensures.value c.in-NoToken.ensures.next)

pub returns-in-End-clause-round : goal.returns-in-End-clause-round
returns-in-End-clause-round c =
    let parts = c.args.language.now in
    let text = c.args.text.now in
    let moved : (read : HasRead parts text c.args.states.now.items c.args.at) →
    NextToken parts.language text (symbols read.stack) c.args.at (over_at c.in-End.place) →
    IfOk c.finish.result (IsRound parts text c.args.states.now.items) =
    subst (λ z. (read : HasRead parts text z c.args.at) → NextToken parts.language text (symbols read.stack) c.args.at (over_at c.in-End.place) →
    IfOk c.finish.result (IsRound parts text z)) c.deref-in-End.ensures.value (λ read n. c.finish.ensures.round text c.args.at read n) in
    moved c.requires.read
    (next_is parts text c.requires.tables c.requires.read c.deref.result.now c.top.result (over_at c.in-End.place) c.top.ensures
    c.deref.ensures.value c.in-End.ensures.next)

pub returns-in_ok-shift-in-Shifts-clause-round : goal.returns-in_ok-shift-in-Shifts-clause-round
returns-in_ok-shift-in-Shifts-clause-round c =
    let parts = c.args.language.now in
    let text = c.args.text.now in
    let t = c.in-Token.terminal in
    let states = c.args.states.now.items in
    let kept = c.in_ok-trial-in-Token.trial.kept in
    let extra = c.try_terminal.new.extra.items in
    let lexeme = slice_range text c.in-Token.lexeme c.in-Token.end in
    let next = token c.in-Token.place t lexeme c.in-Token.end in
    read_more parts text c.requires.tables c.requires.read (over kept states extra) c.shift.new.states.items c.in-Token.place t lexeme
    c.in-Token.end c.in-Shifts.target
    (next_is parts text c.requires.tables c.requires.read c.deref.result.now c.top.result next c.top.ensures c.deref.ensures.value
    c.in-Token.ensures.next)
    (subst (λ z. IsTried parts t z (over kept z extra) (Shifts c.in-Shifts.target))
    c.deref-in-Token.ensures.value
    (subst (IsTried parts t c.deref-in-Token.result.now (over kept c.deref-in-Token.result.now extra)) c.in-Shifts.is
    c.in_ok-trial-in-Token.ensures.tried))
    (c.in_ok-shift-in-Shifts.ensures ∙ ap (λ z. over kept states z ++ c.in-Shifts.target ∷ []) c.deref-in-Shifts.ensures.value)

pub returns-in_ok-shift-in-Shifts-clause-states : goal.returns-in_ok-shift-in-Shifts-clause-states
returns-in_ok-shift-in-Shifts-clause-states c =
    let n = size_of c.args.language.now.tables in
    let states = c.args.states.now.items in
    let kept = c.in_ok-trial-in-Token.trial.kept in
    let extra = c.try_terminal.new.extra.items in
    subst (All (λ s. s < n))
    (sym (c.in_ok-shift-in-Shifts.ensures ∙ ap (λ z. over kept states z ++ c.in-Shifts.target ∷ []) c.deref-in-Shifts.ensures.value))
    (All-push (λ s. s < n) (over kept states extra) c.in-Shifts.target
    (over_below n kept states extra c.requires.states c.in_ok-trial-in-Token.ensures.extra)
    (subst (ShiftsBelow n) c.in-Shifts.is c.in_ok-trial-in-Token.ensures.target))

pub returns-in_default : goal.returns-in_default
returns-in_default c =
    let parts = c.args.language.now in
    let text = c.args.text.now in
    let t = c.in-Token.terminal in
    let kept = c.in_ok-trial-in-Token.trial.kept in
    let extra = c.try_terminal.new.extra.items in
    let lexeme = slice_range text c.in-Token.lexeme c.in-Token.end in
    let next = token c.in-Token.place t lexeme c.in-Token.end in
    record {
      round = stops_at_token parts text c.requires.tables c.requires.read (over kept c.args.states.now.items extra) c.in-Token.place t lexeme
          c.in-Token.end c.in_ok-trial-in-Token.trial.outcome c.in-Token.ensures.inside.0
          (next_is parts text c.requires.tables c.requires.read c.deref.result.now c.top.result next c.top.ensures c.deref.ensures.value
          c.in-Token.ensures.next)
          (subst (λ z. IsTried parts t z (over kept z extra) c.in_ok-trial-in-Token.trial.outcome) c.deref-in-Token.ensures.value
          c.in_ok-trial-in-Token.ensures.tried)
          c.in_default.not-Shifts;
      states = c.requires.states;
      goes_on = tt;
    }
