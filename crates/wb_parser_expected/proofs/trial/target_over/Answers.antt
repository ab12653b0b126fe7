use Rattle.std.proofs.Common.{◌<◌, ℕ, subst, sym}
use Rattle.wb_parser_states.proofs.TableLemmas.{goto_below, nonterminals_of, zero_below}
use Rattle.wb_parser_expected.proofs.TrialLemmas.{top_over_below}
use Rattle.wb_parser_expected.proofs.trial.target_over.Goals as goal

pub goto-requires-clause-state : goal.goto-requires-clause-state
goto-requires-clause-state c =
    let (g, of) = c.requires.tables in
    top_over_below c.args.tables.now of c.args.kept c.args.states.now c.args.extra.now c.top_over.result c.top_over.ensures c.requires.states
    c.requires.extra

pub returns-in-Some-clause-below : goal.returns-in-Some-clause-below
returns-in-Some-clause-below c =
    let (g, of) = c.requires.tables in
    goto_below of c.top_over.result c.args.left c.in-Some.next
    (top_over_below c.args.tables.now of c.args.kept c.args.states.now c.args.extra.now c.top_over.result c.top_over.ensures c.requires.states
    c.requires.extra) (subst (λ (n : ℕ). c.args.left < n) (nonterminals_of of) c.requires.left) (sym c.in-Some.ensures)

pub returns-in-None-clause-below : goal.returns-in-None-clause-below
returns-in-None-clause-below c =
    let (g, of) = c.requires.tables in zero_below of
