-- Symbols in order, lists of items as sets in order, and the numbers of kernels by this order.
use Rattle.std.specs.Prelude.{◌<◌}
use Rattle.wb_base.specs.declared.symbol.Symbol.{Symbol}
use Rattle.wb_base.specs.declared.symbol.Symbol.TheVariants.{Terminal, Nonterminal}

-- the one symbol is before the other: terminals before nonterminals, and each by number
abbrev pub SymbolPrecedes : Symbol → Symbol → Type 0
SymbolPrecedes (Terminal t) (Terminal u) = t < u
SymbolPrecedes (Terminal t) (Nonterminal b) = Unit {0}
SymbolPrecedes (Nonterminal a) (Terminal u) = ⊥
SymbolPrecedes (Nonterminal a) (Nonterminal b) = a < b
