use Rattle.std.proofs.Common.{sym, subst}
use Rattle.wb_items.specs.Kernels.{AreKernels}
use Rattle.wb_items.proofs.KernelsLemmas.{whole}
use Rattle.wb_items.proofs.kernels.Kernels.build.Goals as goal

pub returns-clause-exact : goal.returns-clause-exact
returns-clause-exact c =
    subst (λ g. AreKernels (record {
      grammar = g;
      prefixes = c.in_ok-table.table.found.prefixes;
      closures =
          c.in_ok-table.table.closures.items;
    })) (sym c.in_ok-copy.ensures)
    (whole c.args.grammar.now c.in_ok-table.table.found c.in_ok-table.table.closures.items c.in_ok-table.table.rows.items
    c.in_ok-table.ensures)
