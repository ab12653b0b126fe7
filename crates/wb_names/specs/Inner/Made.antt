-- The value that all rows of a file make.
use Rattle.wb_syntax_resolved.specs.declared.resolved.ResolvedParts.{ResolvedParts}
use Rattle.wb_names_numbers_theory.specs.Files.{File}
use Rattle.wb_names_symbols.specs.declared.symbols.Symbols.{Symbols}
use Rattle.wb_names.specs.declared.rows.Written.{Written}

-- the value of a file with these rows
abbrev pub value_with : File → Symbols → Written → ResolvedParts
value_with file g w = record {
  host = file.base.host;
  grammar = w.grammar;
  terminals = g.terminals.scanned.items;
  preferences = w.rest.plains.preferences.items;
  extensible = w.rest.extensible.items;
  attributes = record {
    extensions = file.extensions;
    nonterminals = g.nonterminals.of_grammar.items;
    attributes = w.rest.plains.attributes.items;
    occurrences = w.rest.plains.occurrences.items;
    productions = w.productions.concrete.items;
    signatures = w.signatures;
  };
}
