use Rattle.std.proofs.Common.{refl, sym, subst, ◌∙◌, List}
use Rattle.wb_syntax_resolved.specs.Expression.{Node}
use Rattle.wb_explain_flows.specs.Rules.{ReadsVertex}
use Rattle.wb_explain_flows.proofs.rule.is_rule.Goals as goal

pub returns : goal.returns
returns c = λ yes. (
  sym c.defined.ensures ∙ c.if-not-same.ensures refl,
  subst (λ (z : List Node). ReadsVertex z c.args.to) c.as_slice.ensures (c.reads.ensures yes),
)
