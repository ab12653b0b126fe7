use Rattle.wb_marking.specs.Inner.Compared.{AreGathered}
use Rattle.wb_marking.proofs.clashes.pairs_of.Given as goal

abbrev pub invariant-terminals : goal.invariant-terminals
invariant-terminals l = AreGathered l.scanned.parts.now l.pairs.items l.number
