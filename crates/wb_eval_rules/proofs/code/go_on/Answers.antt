use Rattle.std.proofs.Common.{rules, ◌≡◌, ◌<◌, ◌≤◌, length, get_or, sym}
use Rattle.wb_eval_rules.specs.Code.{job_of}
use Rattle.wb_eval_rules.specs.declared.code.Op.{Op}
use Rattle.wb_eval_rules.proofs.WayLemmas.{way_set, way_past}
use Rattle.wb_eval_rules.proofs.code.go_on.Goals as goal

pub returns-then-at-len : goal.returns-then-at-len
returns-then-at-len c =
    let within : c.args.at < length c.args.ops.now.items = search rules in
    way_set c.args.ops.now.items c.args.at c.index_mut.result.now c.args.after within (search rules)

pub returns-else-at-len : goal.returns-else-at-len
returns-else-at-len c =
    let past : length c.args.ops.now.items ≤ c.args.at = search rules in
    way_past c.args.ops.now.items c.args.at c.args.after past
