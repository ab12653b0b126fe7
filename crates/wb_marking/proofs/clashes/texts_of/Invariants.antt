use Rattle.std.proofs.Common.{take}
use Rattle.wb_marking.specs.Inner.Compared.{AreOnlyTexts}
use Rattle.wb_marking.proofs.clashes.texts_of.Given as goal

abbrev pub invariant-terminals : goal.invariant-terminals
invariant-terminals l = AreOnlyTexts (take l.terminal-index l.terminals) l.all.items
