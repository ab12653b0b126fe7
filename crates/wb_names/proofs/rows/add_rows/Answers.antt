use Rattle.std.proofs.lemmas.Result.{on_ok_weaker}
use Rattle.wb_names_symbols.proofs.WritersLemmas.{no_items}
use Rattle.wb_names.proofs.rows.add_rows.Goals as goal

pub add_items-requires : goal.add_items-requires
add_items-requires c =
    no_items c.args.file.now.items.now c.args.written.now.writers c.requires.nothing.names c.requires.nothing.places

pub add_productions-requires-clause-context : goal.add_productions-requires-clause-context
add_productions-requires-clause-context c = record {
  right = c.requires.ready.right;
  numbers = c.requires.numbers;
  writers = c.in_ok-add_items.ensures;
}

pub add_productions-requires-clause-concrete : goal.add_productions-requires-clause-concrete
add_productions-requires-clause-concrete c = c.requires.nothing.concrete

pub add_productions-requires-clause-others : goal.add_productions-requires-clause-others
add_productions-requires-clause-others c = c.requires.nothing.others

pub add_rest-requires-clause-nothing : goal.add_rest-requires-clause-nothing
add_rest-requires-clause-nothing c = c.requires.nothing.rest

pub returns : goal.returns
returns c =
    on_ok_weaker c.add_rest.result (λ rest. record { productions = c.in_ok-written.ensures; rest = rest }) c.add_rest.ensures
