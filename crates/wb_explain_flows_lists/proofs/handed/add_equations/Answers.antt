use Rattle.std.proofs.Common.{List, Contains, refl, subst}
use Rattle.wb_lemmas.proofs.Members.{contains_at}
use Rattle.wb_flow.proofs.AddingLemmas.{read_item}
use Rattle.wb_explain_flows_lists.proofs.LackLemmas.{keeps_both}
use Rattle.wb_explain_flows_lists.specs.Handed.{by_equation}
use Rattle.wb_syntax_resolved.specs.declared.equation.Equation.{Equation}
use Rattle.wb_explain_flows_lists.proofs.handed.add_equations.Goals as goal

pub equations-init : goal.equations-init
equations-init c = λ before. before

pub add_nodes-requires-clause-rule : goal.add_nodes-requires-clause-rule
add_nodes-requires-clause-rule c =
    let items = c.as_slice-equation-items.result.now in
    let e = c.equation-item.result in
    let there = read_item items c.equations.equation-index e c.equations-test.true c.equation-item.is in
    by_equation e
    (subst (λ (z : List Equation). Contains z e) c.as_slice-equation-items.ensures (contains_at items e c.equations.equation-index there))
    refl refl c.as_slice.ensures

pub equations-preserved : goal.equations-preserved
equations-preserved c =
    keeps_both c.args.spot.now.scope.now.attributes.now c.args.found.now.items c.equations.found.items c.add_nodes.new.found.items
    c.equations.invariant c.in_ok-add_nodes.ensures
