use Rattle.std.proofs.Common.{sym, subst}
use Rattle.wb_items.specs.Kernels.{AreKernels}
use Rattle.wb_items.specs.Parts.{AreListed}
use Rattle.wb_items.proofs.KernelsLemmas.{whole}
use Rattle.wb_items.proofs.PartsLemmas.{listed_kernels}
use Rattle.wb_items.proofs.kernels.Kernels.from_parts.Goals as goal

pub table_of_parts-requires : goal.table_of_parts-requires
table_of_parts-requires c = record {
  live = c.requires.live;
  lists = c.requires.lists;
  in_order = c.requires.in_order;
  reached = c.requires.reached;
}

pub returns-clause-exact : goal.returns-clause-exact
returns-clause-exact c =
    let table = c.in_ok-table.table in
    subst (λ g. AreKernels (record { grammar = g; prefixes = table.found.prefixes; closures = table.closures.items }))
    (sym c.in_ok-copy.ensures)
    (whole c.args.grammar.now table.found table.closures.items table.rows.items c.in_ok-table.ensures.table)

pub returns-clause-listed : goal.returns-clause-listed
returns-clause-listed c =
    let table = c.in_ok-table.table in
    subst (λ g. AreListed (record { grammar = g; prefixes = table.found.prefixes; closures = table.closures.items }) c.args.kernels.now)
    (sym c.in_ok-copy.ensures) (listed_kernels table.closures.items c.in_ok-table.ensures.found)
