-- All rows of a value, and the value that they make.
use Rattle.std.specs.Prelude.{◌≡◌, ◌++◌, ◌<◌, ◌≤◌, ℕ, List, Option, All, IfSome, map, length, option_map, option_to_list, take}
use Rattle.wb_base.specs.Grammar.{GrammarView}
use Rattle.wb_syntax_resolved.specs.declared.attributes.Attribute.{Attribute}
use Rattle.wb_syntax_resolved.specs.declared.attributes.Nonterminal.{Nonterminal}
use Rattle.wb_syntax_resolved.specs.declared.attribution.AttributionParts.{AttributionParts}
use Rattle.wb_syntax_resolved.specs.declared.production.Production.{Production}
use Rattle.wb_syntax_resolved.specs.declared.resolved.ResolvedParts.{ResolvedParts}
use Rattle.wb_syntax_resolved.specs.declared.terminal.Terminal.{Terminal}
use Rattle.wb_syntax_resolved.specs.Numbered.{signature_of}
use Rattle.wb_values.specs.Signature.{Signature}
use Rattle.wb_names_theory.specs.Declarations.{AttributeDeclaration, attributes, lexicals, nonterminals, productions}
use Rattle.wb_names_numbers_theory.specs.Files.{File}
use Rattle.wb_names_theory.specs.NamesOk.{NamesOk}
use Rattle.wb_names_numbers_theory.specs.Resolves.{Resolves, IsScanned, IsInGrammarOf, IsConcrete, IsGrammarRow}
use Rattle.wb_names_numbers_theory.specs.Sources.{sources, AreGrouped}
use Rattle.wb_names_rows.specs.declared.moves.Moves.{Moves}
use Rattle.wb_names_rows.specs.declared.scope.Scope.{Scope}
use Rattle.wb_names_rows.specs.Grammars.{IsGrammarLike}
use Rattle.wb_names_symbols.specs.Symbols.{AreNumbers, IsNameOf}
use Rattle.wb_names_symbols.specs.Rows.{AreGroupedBy, IsTerminalNow, IsNonterminalNow}
use Rattle.wb_names.specs.declared.rest.Rest.{Rest}
use Rattle.wb_names.specs.Inner.Joined.{Rows}
use Rattle.wb_names.specs.Inner.Productions.{AreProductions}
use Rattle.wb_names.specs.Inner.Rest.{AreRest}
use Rattle.wb_names.specs.Resolving.{file_scope}

-- productions, of which so many are concrete, and what else is written
pub record AreWritten (file : File) (s : Scope) (m : Moves) (count : ℕ) (rows : List Production) (others : Rest) : Type 0 where
  pub productions : AreProductions file s m count rows
  pub rest : AreRest file s m others

-- the rows of a file, which were made with these names and tables
pub record AreRows (file : File) (rows : Rows) : Type 0 where
  pub scope : Scope
  pub moves : Moves
  pub numbers : AreNumbers file scope moves
  pub terminals : AreGroupedBy rows.scanned IsScanned (IsTerminalNow file) (sources file.base.terminals (lexicals file.items))
      rows.terminals
  pub nonterminals : AreGroupedBy rows.of_grammar (IsInGrammarOf file) (IsNonterminalNow file scope)
      (sources file.base.attributes.nonterminals (nonterminals file.items)) rows.nonterminals
  pub written : AreWritten file scope moves rows.concrete rows.productions rows.rest
  pub terminal_names : scope.terminals ≡ map (λ (t : Terminal). t.name) rows.terminals
  pub nonterminal_names : scope.nonterminals ≡ map (λ (x : Nonterminal). x.name) rows.nonterminals
  pub attribute_names : scope.attributes ≡ map (λ (a : Attribute). a.name) file.base.attributes.attributes
      ++ map (λ (d : AttributeDeclaration). d.name) (attributes file.items)
  pub production_names : AreGrouped IsConcrete IsNameOf (sources file.base.attributes.productions (productions file.items))
      scope.productions

-- the attribution of rows, with these names of extensions and signatures
abbrev pub made_attribution : Rows → List (List ℕ) → List Signature → AttributionParts
made_attribution rows extensions signatures = record {
  extensions = extensions;
  nonterminals = rows.nonterminals;
  attributes = rows.rest.plains.attributes.items;
  occurrences = rows.rest.plains.occurrences.items;
  productions = rows.productions;
  signatures = signatures;
}

-- the value of rows, for a host of this name, with these names of extensions and signatures, and with a grammar or none
abbrev pub made_value : Rows → List ℕ → List (List ℕ) → List Signature → Option GrammarView → ResolvedParts
made_value rows host extensions signatures grammar = record {
  host = host;
  grammar = grammar;
  terminals = rows.terminals;
  preferences = rows.rest.plains.preferences.items;
  extensible = rows.rest.extensible.items;
  attributes = made_attribution rows extensions signatures;
}

-- the value of the rows of a file, with a grammar or none
abbrev pub value_of : File → Rows → Option GrammarView → ResolvedParts
value_of file rows grammar =
    made_value rows file.base.host file.extensions (map (signature_of file.extensions) rows.productions) grammar

-- the names of a file of this format are right, and it stands for this value
pub record IsValueOf (format : ℕ) (file : File) (r : ResolvedParts) : Type 0 where
  pub names : NamesOk (file_scope format file)
  pub value : Resolves file r

-- the grammar of the first rows, so many of them, where there is a start; they are of so many terminals and nonterminals
pub record IsGrammarFor (t u p : ℕ) (rows : List Production) (first : Option ℕ) (grammar : Option GrammarView) : Type 0 where
  pub start : option_to_list (option_map (λ (g : GrammarView). g.start) grammar) ≡ option_to_list first
  pub made : IfSome grammar (IsGrammarRow t u p rows)

-- the first rows can be those of a grammar with this start
pub record HasGrammar (t u p : ℕ) (rows : List Production) (start : ℕ) : Type 0 where
  pub begins : start < u
  pub concrete : p ≤ length rows
  pub productions : All (IsGrammarLike t u) (take p rows)
