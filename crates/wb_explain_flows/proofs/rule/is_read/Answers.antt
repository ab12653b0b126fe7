use Rattle.std.proofs.Common.{Some, ap, sym, ◌∙◌}
use Rattle.wb_explain_flows.proofs.rule.is_read.Goals as goal

pub returns-in-Some : goal.returns-in-Some
returns-in-Some c = λ yes. sym c.read.ensures ∙ c.in-Some.is ∙ ap Some (c.same.ensures yes)
