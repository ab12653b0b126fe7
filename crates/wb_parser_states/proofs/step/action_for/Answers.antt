use Rattle.std.proofs.Common.{◌<◌, subst, sym}
use Rattle.wb_lookahead.specs.Contents.{size_of}
use Rattle.wb_parser_states.proofs.StateLemmas.{last_below}
use Rattle.wb_parser_states.proofs.TableLemmas.{zero_below}
use Rattle.wb_parser_states.proofs.step.action_for.Goals as goal

pub asked_action-requires-clause-state : goal.asked_action-requires-clause-state
asked_action-requires-clause-state c =
    let n = size_of c.args.language.now.tables in
    subst (λ z. z < n) (sym c.top.ensures) (last_below n 0 c.args.states.now (zero_below c.requires.of_grammar) c.requires.states)
