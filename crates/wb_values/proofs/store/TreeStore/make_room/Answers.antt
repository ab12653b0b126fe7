use Rattle.std.proofs.Common.{◌≤◌, length, ap, arith}
use Rattle.wb_values.specs.Inner.Begin.{begin}
use Rattle.wb_values.proofs.Laid.{begin-le, length-trees}
use Rattle.wb_values.proofs.store.TreeStore.make_room.Goals as goal

pub begin-first-requires : goal.begin-first-requires
begin-first-requires c = omega (
  arith,
  c.requires,
  ap length c.self.view_is,
  length-trees c.self.inside.nodes.items c.self.inside.children,
  ap length
      c.as_slice-nodes.ensures.value,
)

pub overflow_sub-len : goal.overflow_sub-len
overflow_sub-len c = omega (
  arith,
  c.requires,
  ap length c.self.view_is,
  length-trees c.self.inside.nodes.items c.self.inside.children,
  c.len.ensures,
  c.self.inside.nodes.ok.0,
)

pub overflow_sub-len-2 : goal.overflow_sub-len-2
overflow_sub-len-2 c =
    let ns = c.self.inside.nodes.items in
    let within : begin 0 ns c.args.from ≤ length c.self.inside.children = begin-le 0 ns _ c.args.from c.self.invariant.laid in
    let first : c.begin-first.result ≤ length c.self.inside.children = rw (c.begin-first.ensures, c.as_slice-nodes.ensures.value) within in
    omega (arith, first, c.len-2.ensures)
