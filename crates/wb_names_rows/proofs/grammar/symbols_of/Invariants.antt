use Rattle.std.proofs.Common.{take}
use Rattle.wb_names_rows.specs.Inner.Grammars.{AreSymbolsOf}
use Rattle.wb_names_rows.proofs.grammar.symbols_of.Given as goal

abbrev pub invariant-children : goal.invariant-children
invariant-children l = AreSymbolsOf (take l.child-index l.children) l.symbols.items
