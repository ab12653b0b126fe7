use Rattle.std.proofs.Common.{◌-◌, ℕ, suc, List, length, drop, sym, ap, subst, ◌∙◌}
use Rattle.wb_values.specs.declared.node.Node.{Node}
use Rattle.wb_values.specs.Inner.Layouts.{IsWhole}
use Rattle.wb_values.proofs.Laid.{length-trees}
use Rattle.wb_values.proofs.BuildLemmas.{IsOver, built_store, built_trees}
use Rattle.wb_values.proofs.store.TreeStore.add_over.Goals as goal

pub invariant_of-self-2 : goal.invariant_of-self-2
invariant_of-self-2 c =
    let ns = c.self.inside.nodes.items in
    let vs = c.self.inside.children in
    let listed = c.lay_packed.new.cells in
    let cs = drop c.args.start c.args.values.now in
    let nodes_are = c.as_slice-nodes.ensures.value ∙ c.in_ok-reserve.ensures.items in
    let w = subst (λ (ms : List Node). IsWhole ms vs listed cs c.in_ok-layout.layout) nodes_are c.in_ok-layout.ensures.ok in
    let over : IsOver ns listed c.args.production c.in_ok-layout.layout c.node_of-node.result = record {
      production_is = ap (λ (n : Node). n.production) c.node_of-node.ensures;
      size_is = ap (λ (n : Node). n.size) c.node_of-node.ensures
          ∙ ap (λ (k : ℕ). suc k - c.in_ok-layout.layout.top) (c.len.ensures ∙ c.self.inside.nodes.ok.0);
      end_is = ap (λ (n : Node). n.end) c.node_of-node.ensures ∙ c.len-4.ensures;
      inner_is = ap (λ (n : Node). n.inner) c.node_of-node.ensures;
    } in
    rw (c.push_reserved.ensures.items, c.in_ok-reserve.ensures.items)
    (built_store c.args.self.now ns vs listed cs c.args.production c.in_ok-layout.layout c.node_of-node.result c.self.invariant
    c.self.view_is w over c.requires.children)

pub returns-clause-id : goal.returns-clause-id
returns-clause-id c = c.len.ensures ∙ c.self.inside.nodes.ok.0 ∙ sym (length-trees c.self.inside.nodes.items c.self.inside.children)
    ∙ ap length c.self.view_is

pub returns-clause-ok : goal.returns-clause-ok
returns-clause-ok c =
    let ns = c.self.inside.nodes.items in
    let vs = c.self.inside.children in
    let listed = c.lay_packed.new.cells in
    let cs = drop c.args.start c.args.values.now in
    let nodes_are = c.as_slice-nodes.ensures.value ∙ c.in_ok-reserve.ensures.items in
    let w = subst (λ (ms : List Node). IsWhole ms vs listed cs c.in_ok-layout.layout) nodes_are c.in_ok-layout.ensures.ok in
    let over : IsOver ns listed c.args.production c.in_ok-layout.layout c.node_of-node.result = record {
      production_is = ap (λ (n : Node). n.production) c.node_of-node.ensures;
      size_is = ap (λ (n : Node). n.size) c.node_of-node.ensures
          ∙ ap (λ (k : ℕ). suc k - c.in_ok-layout.layout.top) (c.len.ensures ∙ c.self.inside.nodes.ok.0);
      end_is = ap (λ (n : Node). n.end) c.node_of-node.ensures ∙ c.len-4.ensures;
      inner_is = ap (λ (n : Node). n.inner) c.node_of-node.ensures;
    } in
    rw (c.push_reserved.ensures.items, c.in_ok-reserve.ensures.items)
    (built_trees c.args.self.now ns vs listed cs c.args.production c.in_ok-layout.layout c.node_of-node.result c.self.invariant
    c.self.view_is w over)
