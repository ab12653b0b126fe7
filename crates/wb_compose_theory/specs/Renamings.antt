-- New numbers for the symbols and productions of a grammar.
use Rattle.std.specs.Prelude.{ℕ}
use Rattle.wb_base.specs.declared.symbol.Symbol.{Symbol}
use Rattle.wb_base.specs.declared.symbol.Symbol.TheVariants.{Terminal, Nonterminal}
use Rattle.wb_grammar_theory.specs.declared.item.Item.{Item}

-- where the numbers of terminals, nonterminals and productions go; the end of a text is a terminal, and `S' -> S` a production
pub record Renaming : Type 0 where
  pub terminal : ℕ → ℕ
  pub nonterminal : ℕ → ℕ
  pub production : ℕ → ℕ

-- the symbol with its new number
abbrev pub renamed : Renaming → Symbol → Symbol
renamed r (Terminal t) = Terminal (r.terminal t)
renamed r (Nonterminal a) = Nonterminal (r.nonterminal a)

-- the item with the new number of its production
abbrev pub renamed_item : Renaming → Item → Item
renamed_item r item = record { production = r.production item.production; dot = item.dot }
