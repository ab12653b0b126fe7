use Rattle.wb_grammar.proofs.CycleLemmas.{order_no_cycle, unit_cycle_of_edges}
use Rattle.wb_grammar.proofs.unit_cycles.test_unit_cycles.Goals as goal

pub returns-in-Sorted-clause-ok : goal.returns-in-Sorted-clause-ok
returns-in-Sorted-clause-ok c =
    let g = c.args.grammar.now in
    let edges = c.in_ok-edges.edges.items in
    let order = rw c.in-Sorted.is at c.in_ok-order_of.ensures.ok in
    order_no_cycle g c.args.nullable.now edges c.in-Sorted.field-0.items c.in_ok-edges.ensures.grammar c.requires.nullable
    c.in_ok-edges.ensures.exact
    (rw (← c.nonterminals.ensures, ← c.deref.ensures.value) order)

pub returns-clause-refused : goal.returns-clause-refused
returns-clause-refused c =
    let g = c.args.grammar.now in
    let edges = c.in_ok-edges.edges.items in
    let simple = rw c.in-Cycle.is at c.in_ok-order_of.ensures.ok in
    let cycle = simple.cycle_is in (
      c.requires.reduced,
      rw c.from_vec.ensures
          (unit_cycle_of_edges g c.args.nullable.now edges c.in-Cycle.list.items c.requires.nullable c.in_ok-edges.ensures.exact
          (rw (← c.deref.ensures.value) cycle)),
      rw c.from_vec.ensures simple.once,
    )
