use Rattle.std.proofs.Common.{rules}
use Rattle.wb_generate.proofs.choices.with_counts.Goals as goal

pub returns : goal.returns
returns c = record {
  grammar = c.in_ok-rules.ensures.grammar;
  least = c.requires;
  rules = c.in_ok-rules.ensures.groups;
  totals = search rules;
}
