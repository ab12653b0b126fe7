-- Terminals of a grammar that is a part of a world.
use Rattle.std.specs.Prelude.{◌↔◌, ◌≤◌, ℕ}
use Rattle.wb_base.specs.declared.symbol.Symbol.TheVariants.{Terminal}
use Rattle.wb_base.specs.Grammar.{GrammarView}
use Rattle.wb_grammar_theory.specs.Productions.{end_of}
use Rattle.wb_compose_theory.specs.Renamings.{Renaming}
use Rattle.wb_compose_theory.specs.Worlds.{World, Part, IsSymbolIn}

-- the terminals of the grammar and the end are those of the part, and no others
abbrev pub AreTerminals : GrammarView → World → Part → Renaming → Type 0
AreTerminals k w part s = (t : ℕ) → (t ≤ end_of k) ↔ IsSymbolIn w part (Terminal (s.terminal t))
