use Rattle.std.proofs.Common.{refl}
use Rattle.wb_lemmas.proofs.Members.{contains_at}
use Rattle.wb_flow.proofs.AddingLemmas.{read_item}
use Rattle.wb_explain_flows.proofs.rule.equation_rule.Goals as goal

pub returns-then-is_rule : goal.returns-then-is_rule
returns-then-is_rule c =
    let e = c.equation-item.result in
    let items = c.args.equations.now in
    let is = c.if-is_rule.ensures refl in
    record {
      equation = e;
      listed = contains_at items e c.equations.equation-index (read_item items c.equations.equation-index e c.equations-test.true c.equation-item.is);
      defines = is.0;
      reads = is.1;
      owner = refl;
      offset = refl;
    }
