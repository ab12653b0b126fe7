-- What has its numbers before productions are read: names by number, and the numbers of a base's in them.
use Rattle.std.specs.Prelude.{◌≡◌, ◌⊎◌, ◌++◌, ℕ, List, Some, length, map, slice_get}
use Rattle.std.proofs.Common.{inl, inr}
use Rattle.wb_syntax_resolved.specs.declared.attributes.Attribute.{Attribute}
use Rattle.wb_syntax_resolved.specs.declared.attributes.Nonterminal.{Nonterminal}
use Rattle.wb_syntax_resolved.specs.declared.production.Production.{Production}
use Rattle.wb_syntax_resolved.specs.declared.terminal.Terminal.{Terminal}
use Rattle.wb_names_theory.specs.Declarations.{AttributeDeclaration, ProductionDeclaration, attributes, lexicals, nonterminals, productions}
use Rattle.wb_names_theory.specs.Declares.{declarations}
use Rattle.wb_names_numbers_theory.specs.Files.{File}
use Rattle.wb_names_numbers_theory.specs.Resolves.{IsScanned, IsInGrammarOf, IsConcrete}
use Rattle.wb_names_numbers_theory.specs.Sources.{sources, AreGrouped}
use Rattle.wb_names_rows.specs.declared.moves.Moves.{Moves}
use Rattle.wb_names_rows.specs.declared.scope.Scope.{Scope}
use Rattle.wb_names_rows.specs.There.{HasDeclared}
use Rattle.wb_names_symbols.specs.declared.symbols.Counts.{Counts}
use Rattle.wb_names_symbols.specs.declared.symbols.Symbols.{Symbols}
use Rattle.wb_names_symbols.specs.Rows.{AreGroupedBy, IsTerminalNow, IsNonterminalNow}

-- the name of a production that is there or declared
abbrev pub IsNameOf : Production ⊎ ProductionDeclaration → List ℕ → Type 0
IsNameOf (inl p) name = name ≡ p.name
IsNameOf (inr d) name = name ≡ d.production.name

-- the table has a number for each of a base's names, and each number is one of that name
pub record IsTable (before names : List (List ℕ)) (table : List ℕ) : Type 0 where
  pub len : length table ≡ length before
  pub named : (k j : ℕ) → slice_get table k ≡ Some j → (name : List ℕ) × (slice_get before k ≡ Some name) × (slice_get names j ≡ Some name)

-- the tables are those of a base's names among the names of a scope
pub record AreTables (file : File) (s : Scope) (m : Moves) : Type 0 where
  pub terminals : IsTable (map (λ (t : Terminal). t.name) file.base.terminals) s.terminals m.terminals.items
  pub nonterminals : IsTable (map (λ (x : Nonterminal). x.name) file.base.attributes.nonterminals) s.nonterminals m.nonterminals.items
  pub productions : IsTable (map (λ (p : Production). p.name) file.base.attributes.productions) s.productions m.productions.items

-- what functions that look numbers up are lent: the file's owner, names that are there, and tables
pub record AreNumbers (file : File) (s : Scope) (m : Moves) : Type 0 where
  pub owner : s.owner ≡ file.owner
  pub there : HasDeclared s (declarations file.base file.items)
  pub tables : AreTables file s m

-- rows of terminals and nonterminals, of which so many are of the grammar; and the names of all sorts by number
pub record AreSymbols (file : File) (counts : Counts) (g : Symbols) : Type 0 where
  pub numbers : AreNumbers file g.scope g.moves
  pub terminals : AreGroupedBy counts.scanned IsScanned (IsTerminalNow file)
      (sources file.base.terminals (lexicals file.items)) g.terminals.scanned.items
  pub nonterminals : AreGroupedBy counts.of_grammar (IsInGrammarOf file) (IsNonterminalNow file g.scope)
      (sources file.base.attributes.nonterminals (nonterminals file.items)) g.nonterminals.of_grammar.items
  pub terminal_names : g.scope.terminals ≡ map (λ (t : Terminal). t.name) g.terminals.scanned.items
  pub nonterminal_names : g.scope.nonterminals ≡ map (λ (x : Nonterminal). x.name) g.nonterminals.of_grammar.items
  pub attribute_names : g.scope.attributes ≡ map (λ (a : Attribute). a.name) file.base.attributes.attributes
      ++ map (λ (d : AttributeDeclaration). d.name) (attributes file.items)
  pub production_names : AreGrouped IsConcrete IsNameOf (sources file.base.attributes.productions (productions file.items))
      g.scope.productions
