use Rattle.std.proofs.Common.{refl, subst, List}
use Rattle.wb_syntax_resolved.specs.Expression.{Node}
use Rattle.wb_explain_flows.specs.Rules.{ReadsVertex}
use Rattle.wb_explain_flows.proofs.rule.forward_rule.Goals as goal

pub returns-then-reads : goal.returns-then-reads
returns-then-reads c = record {
  forward = c.in-Some.forward;
  there = c.in-Some.is;
  reads = subst (λ (z : List Node). ReadsVertex z c.args.to) c.as_slice.ensures (c.if-reads.ensures refl);
  owner = refl;
  offset = refl;
}
