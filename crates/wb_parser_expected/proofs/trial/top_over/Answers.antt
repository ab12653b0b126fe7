use Rattle.std.proofs.Common.{rules, ◌≤◌, ◌∙◌, length}
use Rattle.wb_parser_expected.proofs.TrialLemmas.{top_further}
use Rattle.wb_parser_expected.proofs.trial.top_over.Goals as goal

pub returns : goal.returns
returns c =
    let some : 1 ≤ length c.args.extra.now = search rules in
    c.top-2.ensures ∙ top_further c.args.kept c.args.states.now c.args.extra.now some
