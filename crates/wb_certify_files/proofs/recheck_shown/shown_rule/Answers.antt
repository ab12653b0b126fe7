use Rattle.std.proofs.Common.{rules, ◌≡◌, Some}
use Rattle.wb_certify_files.specs.Inner.RecheckShown.{line_of}
use Rattle.wb_certify_files.proofs.RecheckShownLemmas.{rule_shown_as}
use Rattle.wb_certify_files.proofs.recheck_shown.shown_rule.Goals as goal

pub returns-in-Ok-Some : goal.returns-in-Ok-Some
returns-in-Ok-Some c =
    let line = line_of c.args.owner c.args.resolved.now c.args.rule.now in
    let shows : line ≡ Some c.in-Ok-Some.shown = search rules in
    rule_shown_as line c.args.rule.now c.in-Ok-Some.shown shows c.of_sort.result c.of_sort.ensures
