-- Right sides of the productions of a grammar.
use Rattle.std.specs.Prelude.{◌≡◌, List, Some, map}
use Rattle.wb_base.specs.declared.symbol.Symbol.{Symbol}
use Rattle.wb_syntax_resolved.specs.declared.production.Child.{Child}
use Rattle.wb_syntax_resolved.specs.Grammar.{symbol_of}

-- the symbols are those of the children
abbrev pub AreSymbolsOf : List Child → List Symbol → Type 0
AreSymbolsOf children symbols = map (λ (s : Symbol). Some s) symbols ≡ map (λ (c : Child). symbol_of c.kind) children
