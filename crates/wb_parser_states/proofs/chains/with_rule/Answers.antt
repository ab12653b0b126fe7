use Rattle.std.proofs.Common.{◌<◌, length, rules}
use Rattle.wb_parser_states.proofs.RuleLemmas.{no_rule, rule_within}
use Rattle.wb_parser_states.proofs.chains.with_rule.Goals as goal

pub bounds-rules-production : goal.bounds-rules-production
bounds-rules-production c = c.requires c.in-Reduce.production c.in-Reduce.is

pub offset_bounds-rules-production : goal.offset_bounds-rules-production
offset_bounds-rules-production c =
    let within : c.in-Reduce.production < length c.args.rules.now = c.requires c.in-Reduce.production c.in-Reduce.is in
    search rules

pub returns-in-Reduce : goal.returns-in-Reduce
returns-in-Reduce c g are = (
  c.in-Reduce.production,
  c.in-Reduce.is,
  rule_within g c.args.rules.now c.in-Reduce.production no_rule are (c.requires c.in-Reduce.production c.in-Reduce.is),
)
