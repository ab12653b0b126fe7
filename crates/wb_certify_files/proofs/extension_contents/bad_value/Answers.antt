use Rattle.std.proofs.Common.{rules, ◌≡◌, Some}
use Rattle.wb_certify_shown.specs.Extensions.{extension_refusal_shown}
use Rattle.wb_certify_files.proofs.ExtensionLemmas.{stands_for, value_refused}
use Rattle.wb_certify_files.proofs.extension_contents.bad_value.Goals as goal

pub returns-in-Ok-Some : goal.returns-in-Ok-Some
returns-in-Ok-Some c =
    let shows : extension_refusal_shown c.args.resolved.now c.args.refusal.now ≡ Some c.in-Ok-Some.shown = search rules in
    λ host operations spec is reason contents accepted. value_refused host operations contents c.args.resolved.now
    (stands_for host spec c.args.resolved.now is contents accepted) c.in-Ok-Some.shown c.args.refusal.now reason shows c.of_sort.result
    c.of_sort.ensures
