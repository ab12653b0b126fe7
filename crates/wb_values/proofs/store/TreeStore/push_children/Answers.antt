use Rattle.std.proofs.Common.{◌≤◌, ◌++◌, List, length, sym, subst, ap, ◌∙◌, arith}
use Rattle.std.proofs.lemmas.Result.{on_ok_weaker}
use Rattle.wb_values.specs.declared.value.Value.{Value}
use Rattle.wb_values.specs.declared.node.Node.{Node}
use Rattle.wb_values.specs.InPlace.{node_at}
use Rattle.wb_values.specs.Inner.Layouts.{backwards}
use Rattle.wb_values.proofs.Laid.{length-trees}
use Rattle.wb_values.proofs.ChildLemmas.{node-there, listed-children}
use Rattle.wb_values.proofs.store.TreeStore.push_children.Goals as goal

pub push_backwards-pushed-requires-clause-tree : goal.push_backwards-pushed-requires-clause-tree
push_backwards-pushed-requires-clause-tree c = omega (
  arith,
  ap length c.self.view_is,
  length-trees c.self.inside.nodes.items c.self.inside.children,
  ap length c.as_slice.ensures.value,
  c.requires,
)

pub push_backwards-pushed-requires-clause-end : goal.push_backwards-pushed-requires-clause-end
push_backwards-pushed-requires-clause-end c =
    subst (λ (ns : List Node). (node_at ns c.args.tree.0).end ≤ length c.self.inside.children) (sym c.as_slice.ensures.value)
    (node-there c.args.self.now c.self.inside.nodes.items c.self.inside.children c.args.tree.0 c.self.invariant c.self.view_is c.requires).ends

pub returns-else-is_err-clause-ok : goal.returns-else-is_err-clause-ok
returns-else-is_err-clause-ok c =
    let ns = c.self.inside.nodes.items in
    let vs = c.self.inside.children in
    let k = c.args.tree.0 in
    let old = c.args.values.now in
    let (children, are, back) = listed-children c.args.self.now ns vs k c.self.invariant c.self.view_is c.requires in
    on_ok_weaker c.push_backwards-pushed.result (λ e. (
      children,
      are,
      e
          ∙ ap (λ (ms : List Node). old ++ backwards ms vs k (node_at ms k)) c.as_slice.ensures.value
          ∙ ap (λ (xs : List Value). old ++ xs) back,
    )) c.push_backwards-pushed.ensures.ok
