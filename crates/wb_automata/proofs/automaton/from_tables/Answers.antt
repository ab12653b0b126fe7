use Rattle.wb_automata.proofs.WalkLemmas.{whole}
use Rattle.wb_automata.proofs.automaton.from_tables.Goals as goal

pub explore-requires-clause-table : goal.explore-requires-clause-table
explore-requires-clause-table c = c.requires.table

pub invariant_of-result : goal.invariant_of-result
invariant_of-result c =
    let t = c.args.tables in
    let e = c.in_ok-explored.explored in
    rw (
      c.into_predecessors.ensures,
      c.in_ok-kept.ensures.terminals,
      c.in_ok-kept.ensures.sets,
      c.len.ensures,
      c.in_ok-classes.classes.firsts.ok.0,
      c.into_codes.ensures,
    )
    (whole c.args.terminals.now c.args.sets.now t c.in_ok-classes.classes.of.items c.in_ok-classes.classes.firsts.items e.states
    e.rows.moves e.starts.items e.rows.accepted (record {
      tables = c.requires;
      are_classes = rw c.as_slice.ensures.value at c.in_ok-classes.ensures;
      explored = rw c.as_slice-2.ensures.value at c.in_ok-explored.ensures.explored;
      are_accepted = c.in_ok-explored.ensures.accepted;
    }))
