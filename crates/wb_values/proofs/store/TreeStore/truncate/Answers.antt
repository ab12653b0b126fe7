use Rattle.std.proofs.Common.{◌≤◌, length, take, ap, ◌∙◌, arith}
use Rattle.wb_values.proofs.Laid.{begin-le, length-trees, trees-take, store-take}
use Rattle.wb_values.proofs.store.TreeStore.truncate.Goals as goal

pub begin-kept-requires : goal.begin-kept-requires
begin-kept-requires c = omega (
  arith,
  ap length c.self.view_is,
  length-trees c.self.inside.nodes.items c.self.inside.children,
  ap length
      c.as_slice-nodes.ensures.value,
)

pub truncate-requires : goal.truncate-requires
truncate-requires c =
    let ns = c.self.inside.nodes.items in
    rw (c.begin-kept.ensures, c.as_slice-nodes.ensures.value)
    (begin-le 0 ns (length c.self.inside.children) c.args.len c.self.invariant.laid)

pub invariant_of-self : goal.invariant_of-self
invariant_of-self c =
    let ns = c.self.inside.nodes.items in
    let vs = c.self.inside.children in
    let le : c.args.len ≤ length ns = omega (arith, ap length c.self.view_is, length-trees ns vs) in
    rw (c.truncate-2.ensures.items, c.truncate.ensures, c.begin-kept.ensures, c.as_slice-nodes.ensures.value)
    (store-take ns vs c.args.len c.self.invariant le)

pub returns : goal.returns
returns c =
    let ns = c.self.inside.nodes.items in
    let vs = c.self.inside.children in
    let le : c.args.len ≤ length ns = omega (arith, ap length c.self.view_is, length-trees ns vs) in
    rw (c.truncate-2.ensures.items, c.truncate.ensures, c.begin-kept.ensures, c.as_slice-nodes.ensures.value)
    (trees-take ns vs c.args.len c.self.invariant le ∙ ap (take c.args.len) c.self.view_is)
