use Rattle.std.proofs.Common.{◌<◌, ℕ}
use Rattle.wb_marking.specs.Inner.Compared.{Gathers, Lists}
use Rattle.wb_marking.proofs.clashes.add_marker.Given as goal

abbrev pub invariant-terminals : goal.invariant-terminals
invariant-terminals l = record {
  gathers : Gathers l.compared.scanned.now.parts.now l.fn.pairs.items l.pairs.items;
  lists : (o : ℕ) → o < l.other → Lists l.compared.scanned.now.parts.now l.pairs.items l.compared.marker o;
}
