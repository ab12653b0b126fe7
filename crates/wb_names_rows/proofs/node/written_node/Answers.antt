use Rattle.std.proofs.Common.{◌≡◌, ℕ, List, subst, sym}
use Rattle.std.specs.Result.{IfOk}
use Rattle.wb_syntax_expressions.specs.declared.node.Node.TheVariants.{Call}
use Rattle.wb_syntax_resolved.specs.Expression as by_number
use Rattle.wb_syntax.specs.Expression as by_name
use Rattle.wb_names_rows.specs.Nodes.{IsFoundNode}
use Rattle.wb_names_rows.proofs.node.written_node.Goals as goal

pub returns-in-Call : goal.returns-in-Call
returns-in-Call c =
    let called = subst (λ (z : List ℕ). IfOk c.called.result (λ (to : by_number.Node). to ≡ Call c.in-Call.operation z))
    c.as_slice-in-Call.ensures c.called.ensures in
    subst (λ (z : by_name.Node). IfOk c.called.result (IsFoundNode c.args.scope.now c.args.labels.now z)) (sym c.in-Call.is) called
