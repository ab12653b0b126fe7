use Rattle.std.proofs.Common.{rules, ◌≡◌, Some}
use Rattle.wb_certify_shown.specs.Shows.{refusal_shown}
use Rattle.wb_certify_files.proofs.HostLemmas.{shown_as}
use Rattle.wb_certify_files.proofs.host_contents.bad_value.Goals as goal

pub returns-in-Ok-Some : goal.returns-in-Ok-Some
returns-in-Ok-Some c =
    let shows : refusal_shown c.args.resolved.now c.args.refusal.now ≡ Some c.in-Ok-Some.shown = search rules in
    shown_as c.args.resolved.now c.args.refusal.now c.in-Ok-Some.shown shows c.of_sort.result c.of_sort.ensures
