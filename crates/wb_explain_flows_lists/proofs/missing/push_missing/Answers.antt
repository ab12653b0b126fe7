use Rattle.std.proofs.Common.{List, Contains, subst, sym}
use Rattle.std.specs.Prelude.{◌↔◌}
use Rattle.wb_explain_flows_lists.specs.declared.missing.Missing.{Missing}
use Rattle.wb_explain_flows_lists.specs.Missing.{IsMissing}
use Rattle.std.proofs.lemmas.Result.{on_ok_weaker}
use Rattle.wb_explain_flows_lists.proofs.AllLemmas.{missing_said}
use Rattle.wb_explain_flows_lists.proofs.missing.push_missing.Goals as goal

pub returns : goal.returns
returns c = on_ok_weaker c.push_found-answer.result
    (missing_said c.args.told.now.scope.now.attributes.now c.args.out.now.items c.push_found-answer.new.out.items c.deref.result.now
    (subst (λ (z : List Missing). (m : Missing) → Contains z m ↔ IsMissing c.args.told.now.scope.now.attributes.now m) (sym c.deref.ensures.value)
    c.in_ok-found.ensures)) c.push_found-answer.ensures
