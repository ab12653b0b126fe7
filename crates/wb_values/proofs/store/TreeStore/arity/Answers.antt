use Rattle.std.proofs.Common.{◌≡◌, ◌<◌, List, length, ap, ◌∙◌, arith, count_ones}
use Rattle.std.proofs.lemmas.List.{get_or_read}
use Rattle.wb_values.specs.declared.node.Node.{Node}
use Rattle.wb_values.specs.InPlace.{no_node, node_at}
use Rattle.wb_values.specs.Inner.Begin.{begin}
use Rattle.wb_values.proofs.Laid.{length-trees}
use Rattle.wb_values.proofs.ChildLemmas.{node-there, arity-is}
use Rattle.wb_values.proofs.store.TreeStore.arity.Goals as goal

pub begin-first-requires : goal.begin-first-requires
begin-first-requires c = omega (
  arith,
  ap length c.self.view_is,
  length-trees c.self.inside.nodes.items c.self.inside.children,
  ap length
      c.as_slice-nodes.ensures.value,
  c.requires,
)

pub index-node-requires : goal.index-node-requires
index-node-requires c = omega
    (arith, ap length c.self.view_is, length-trees c.self.inside.nodes.items c.self.inside.children, c.self.inside.nodes.ok.0, c.requires)

pub overflow_sub-result : goal.overflow_sub-result
overflow_sub-result c =
    let ns = c.self.inside.nodes.items in
    let k = c.args.tree.0 in
    let lt : k < length ns =
    omega (arith, ap length c.self.view_is, length-trees ns c.self.inside.children, c.requires) in
    let same : c.index-node.result.now ≡ node_at ns k = get_or_read ns k c.index-node.result.now lt c.index-node.ensures no_node in
    let at = node-there c.args.self.now ns c.self.inside.children k c.self.invariant c.self.view_is c.requires in
    let b : c.begin-first.result ≡ begin 0 ns k =
    c.begin-first.ensures ∙ ap (λ (xs : List Node). begin 0 xs k) c.as_slice-nodes.ensures.value in
    omega (arith, at.begins, b, ap (λ (n : Node). n.end) same)

pub returns : goal.returns
returns c =
    let ns = c.self.inside.nodes.items in
    let k = c.args.tree.0 in
    let lt : k < length ns =
    omega (arith, ap length c.self.view_is, length-trees ns c.self.inside.children, c.requires) in
    let same : c.index-node.result.now ≡ node_at ns k = get_or_read ns k c.index-node.result.now lt c.index-node.ensures no_node in
    let b : c.begin-first.result ≡ begin 0 ns k =
    c.begin-first.ensures ∙ ap (λ (xs : List Node). begin 0 xs k) c.as_slice-nodes.ensures.value in
    omega (
      arith,
      arity-is c.args.self.now ns c.self.inside.children k c.self.invariant c.self.view_is c.requires,
      b,
      ap (λ (n : Node). count_ones n.inner) same,
      ap (λ (n : Node). n.end) same,
    )
