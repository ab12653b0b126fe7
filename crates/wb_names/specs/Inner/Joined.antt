-- All rows of a value, each sort in the order of its numbers.
use Rattle.std.specs.Prelude.{ℕ, List}
use Rattle.wb_syntax_resolved.specs.declared.attributes.Nonterminal.{Nonterminal}
use Rattle.wb_syntax_resolved.specs.declared.production.Production.{Production}
use Rattle.wb_syntax_resolved.specs.declared.terminal.Terminal.{Terminal}
use Rattle.wb_names_symbols.specs.declared.symbols.Counts.{Counts}
use Rattle.wb_names_symbols.specs.declared.symbols.Symbols.{Symbols}
use Rattle.wb_names.specs.declared.rest.Rest.{Rest}
use Rattle.wb_names.specs.declared.rows.Written.{Written}

-- so many terminals are scanned, so many nonterminals are of the grammar, and so many productions are concrete
pub record Rows : Type 0 where
  pub scanned : ℕ
  pub terminals : List Terminal
  pub of_grammar : ℕ
  pub nonterminals : List Nonterminal
  pub concrete : ℕ
  pub productions : List Production
  pub rest : Rest

-- these symbols' rows, with these counts and what is written
abbrev pub rows_with : Symbols → Counts → Written → Rows
rows_with g counts written = record {
  scanned = counts.scanned;
  terminals = g.terminals.scanned.items;
  of_grammar = counts.of_grammar;
  nonterminals = g.nonterminals.of_grammar.items;
  concrete = written.concrete;
  productions = written.productions.concrete.items;
  rest = written.rest;
}
