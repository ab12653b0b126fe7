-- Lists that are joined are the rows of a file, and with what is made of them they make its value.
use Rattle.std.proofs.Common.{◌≡◌, List, Option, map, sym, subst}
use Rattle.wb_base.specs.Grammar.{GrammarView}
use Rattle.wb_syntax_resolved.specs.Numbered.{signature_of}
use Rattle.wb_values.specs.Signature.{Signature}
use Rattle.wb_names_numbers_theory.specs.Files.{File}
use Rattle.wb_names_numbers_theory.specs.Resolves.{Resolves}
use Rattle.wb_names_symbols.specs.declared.symbols.Symbols.{Symbols}
use Rattle.wb_names_symbols.specs.Right.{IsRight}
use Rattle.wb_names_symbols.specs.Symbols.{AreSymbols}
use Rattle.wb_names_symbols.specs.declared.symbols.Counts.{Counts}
use Rattle.wb_names.specs.declared.rows.Written.{Written}
use Rattle.wb_names.specs.Inner.Joined.{rows_with}
use Rattle.wb_names.specs.Inner.Made.{value_with}
use Rattle.wb_names.specs.Inner.Value.{AreRows, AreWritten, IsGrammarFor, made_value}
use Rattle.wb_names.proofs.RowsResolve.{rows_resolve}

pub rows_are : (file : File) (g : Symbols) (counts : Counts) (w : Written) → AreSymbols file counts g
    → AreWritten file g.scope g.moves w.concrete w.productions.concrete.items w.rest → AreRows file (rows_with g counts w)
rows_are file g counts w is are = record {
  scope = g.scope;
  moves = g.moves;
  numbers = is.numbers;
  terminals = is.terminals;
  nonterminals = is.nonterminals;
  written = are;
  terminal_names = is.terminal_names;
  nonterminal_names = is.nonterminal_names;
  attribute_names = is.attribute_names;
  production_names = is.production_names;
}

-- what is written, with this grammar and these signatures
abbrev pub with_made : Written → Option GrammarView → List Signature → Written
with_made w grammar signatures = record {
  writers = w.writers;
  concrete = w.concrete;
  productions = w.productions;
  grammar = grammar;
  signatures = signatures;
  rest = w.rest;
}

-- the value of symbols and of what is written, with the grammar and the signatures of the rows
pub value_is : (file : File) → IsRight file → (g : Symbols) (counts : Counts) (w : Written) → AreSymbols file counts g
    → AreWritten file g.scope g.moves w.concrete w.productions.concrete.items w.rest
    → {grammar : Option GrammarView}
    → IsGrammarFor counts.scanned counts.of_grammar w.concrete w.productions.concrete.items w.rest.start grammar
    → {signatures : List Signature} → signatures ≡ map (signature_of file.extensions) w.productions.concrete.items
    → Resolves file (value_with file g (with_made w grammar signatures))
value_is file right g counts w is are {grammar} grammar_is same =
    let rows = rows_with g counts w in
    subst (λ (z : List Signature). Resolves file (made_value rows file.base.host file.extensions z grammar)) (sym same)
    (rows_resolve file right.is_file right.hold rows (rows_are file g counts w is are) grammar grammar_is)
