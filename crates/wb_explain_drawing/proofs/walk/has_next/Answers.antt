-- No child is left past the last.
use Rattle.std.proofs.Common.{◌≤◌, arith}
use Rattle.wb_values.specs.Tree.{children_of, count_of}
use Rattle.wb_values.specs.ValuesIn.{tree_in}
use Rattle.wb_explain_drawing.proofs.ListingLemmas.{none_past}
use Rattle.wb_explain_drawing.proofs.walk.has_next.Goals as goal

pub returns-then-top-arity : goal.returns-then-top-arity
returns-then-top-arity c =
    let past : count_of (children_of (tree_in c.args.store.now c.args.top.id.0)) ≤ c.args.top.next = omega
    (arith, c.if-top-arity.true, c.arity.ensures) in
    none_past c.args.store.now c.args.top past
