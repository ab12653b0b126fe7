use Rattle.std.proofs.Common.{◌++◌, arith}
use Rattle.wb_values.specs.Tree.{children_of}
use Rattle.wb_values.specs.ValuesIn.{tree_in}
use Rattle.wb_terms.specs.Inner.Pending.{next_text}
use Rattle.wb_terms.proofs.PendingLemmas.{names_long, names_text, only_weight, tree_weight_is, descended}
use Rattle.wb_terms.proofs.print.print_names.Goals as goal

pub returns-then-closes-gt-LIMIT-clause-refused : goal.returns-then-closes-gt-LIMIT-clause-refused
returns-then-closes-gt-LIMIT-clause-refused c =
    names_long c.args.signatures.now c.args.store.now c.names.out.items
    (c.args.out.now.items ++ next_text c.args.signatures.now c.args.store.now c.args.next.tree.0 c.args.next.closes)
    c.names.tree.0 c.names.closes c.names.invariant.0 (omega (arith, c.if-closes-gt-LIMIT.true))

pub names-preserved : goal.names-preserved
names-preserved c =
    let ss = c.args.signatures.now in
    let ts = c.args.store.now in
    let t = tree_in ts c.names.tree.0 in (
      names_text ss ts (c.args.out.now.items ++ next_text ss ts c.args.next.tree.0 c.args.next.closes) c.names.out.items c.print_name.new.out.items
          c.names.tree.0 c.in-Some.child.0 c.production.result c.names.closes c.production.ensures c.in_ok-print_name.ensures.text
          c.in-Some.ensures.only c.names.invariant.0,
      omega (arith, only_weight (children_of t) (tree_in ts c.in-Some.child.0) c.in-Some.ensures.only, tree_weight_is t, c.names.invariant.1),
      omega (arith, c.in-Some.ensures.below, c.names.invariant.2),
      c.in_ok-print_name.ensures.names,
    )

pub returns-in-None-clause-ok : goal.returns-in-None-clause-ok
returns-in-None-clause-ok c =
    descended c.args.signatures.now c.args.store.now c.args.out.now.items c.names.out.items c.print_name.new.out.items c.args.next c.names.tree
    c.production.result c.names.closes c.production.ensures c.in_ok-print_name.ensures.text c.names.invariant.0 c.names.invariant.1
    c.names.invariant.2
