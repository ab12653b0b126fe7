-- The numbers of a base's names, and symbols of which the names are there.
use Rattle.std.specs.Prelude.{◌≡◌, ℕ, List, All, Contains, map}
use Rattle.wb_syntax_resolved.specs.declared.attributes.Nonterminal.{Nonterminal}
use Rattle.wb_syntax_resolved.specs.declared.production.Production.{Production}
use Rattle.wb_syntax_resolved.specs.declared.terminal.Terminal.{Terminal}
use Rattle.wb_names_theory.specs.Declarations.{lexicals, nonterminals, productions}
use Rattle.wb_names_numbers_theory.specs.Files.{File}
use Rattle.wb_names_numbers_theory.specs.Resolves.{IsScanned, IsInGrammarOf, IsConcrete}
use Rattle.wb_names_numbers_theory.specs.Sources.{sources, AreGrouped}
use Rattle.wb_names_rows.specs.declared.moves.Moves.{Moves}
use Rattle.wb_names_rows.specs.declared.scope.Scope.{Scope}
use Rattle.wb_names_rows.specs.declared.terminals.Terminals.{Terminals}
use Rattle.wb_names_rows.specs.Nodes.{IsAt}
use Rattle.wb_names_rows.specs.Plains.{AddsEach}
use Rattle.wb_names_symbols.specs.declared.symbols.Counts.{Counts}
use Rattle.wb_names_symbols.specs.declared.nonterminals.Nonterminals.{Nonterminals}
use Rattle.wb_names_symbols.specs.Empty.{no_names}
use Rattle.wb_names_symbols.specs.Symbols.{IsNameOf}
use Rattle.wb_names_symbols.specs.Inner.Nonterminals.{attribute_names}
use Rattle.wb_names_symbols.specs.Rows.{AreGroupedBy, IsTerminalNow, IsNonterminalNow}

-- a number for each name is added
abbrev pub AddsNumbers : {X : Type 0} → (X → List ℕ) → List (List ℕ) → List X → List ℕ → List ℕ → Type 0
AddsNumbers name names rows old new = AddsEach (λ x. IsAt names (name x)) rows old new

-- a number for each name of the base is added to each table
pub record AddsTables (file : File) (s : Scope) (old new : Moves) : Type 0 where
  pub terminals : AddsNumbers (λ (t : Terminal). t.name) s.terminals file.base.terminals old.terminals.items new.terminals.items
  pub nonterminals : AddsNumbers (λ (x : Nonterminal). x.name) s.nonterminals file.base.attributes.nonterminals old.nonterminals.items
      new.nonterminals.items
  pub productions : AddsNumbers (λ (p : Production). p.name) s.productions file.base.attributes.productions old.productions.items
      new.productions.items

-- each name of the base is there
pub record HasBase (file : File) (s : Scope) : Type 0 where
  pub terminals : All (λ (t : Terminal). Contains s.terminals t.name) file.base.terminals
  pub nonterminals : All (λ (x : Nonterminal). Contains s.nonterminals x.name) file.base.attributes.nonterminals
  pub productions : All (λ (p : Production). Contains s.productions p.name) file.base.attributes.productions

-- the rows of terminals of a base and of a file, of which so many are scanned
abbrev pub AreTerminals : File → ℕ → Terminals → Type 0
AreTerminals file count t =
    AreGroupedBy count IsScanned (IsTerminalNow file) (sources file.base.terminals (lexicals file.items)) t.scanned.items

-- the rows of nonterminals of a base and of a file, of which so many are of the grammar
abbrev pub AreNonterminals : File → ℕ → Nonterminals → Scope → Type 0
AreNonterminals file count n s =
    AreGroupedBy count (IsInGrammarOf file) (IsNonterminalNow file s)
    (sources file.base.attributes.nonterminals (nonterminals file.items)) n.of_grammar.items

-- the rows of both, where attributes alone have their names
pub record HaveRows (file : File) (counts : Counts) (t : Terminals) (n : Nonterminals) (named : Scope) : Type 0 where
  pub scope : named ≡ no_names file.owner (attribute_names file)
  pub terminals : AreTerminals file counts.scanned t
  pub nonterminals : (s : Scope) → s.attributes ≡ attribute_names file → AreNonterminals file counts.of_grammar n s

-- the names of these terminals and nonterminals are added to none, and those of productions
pub record AddsNames (file : File) (ts : List Terminal) (ns : List Nonterminal) (old new : Scope) : Type 0 where
  pub owner : new.owner ≡ old.owner
  pub attributes : new.attributes ≡ old.attributes
  pub terminals : new.terminals ≡ map (λ (x : Terminal). x.name) ts
  pub nonterminals : new.nonterminals ≡ map (λ (x : Nonterminal). x.name) ns
  pub productions : AreGrouped IsConcrete IsNameOf (sources file.base.attributes.productions (productions file.items)) new.productions

-- names by number, and the rows whose names they are
pub record AreNamed (file : File) (counts : Counts) (t : Terminals) (n : Nonterminals) (s : Scope) : Type 0 where
  pub owner : s.owner ≡ file.owner
  pub terminals : AreTerminals file counts.scanned t
  pub nonterminals : AreNonterminals file counts.of_grammar n s
  pub terminal_names : s.terminals ≡ map (λ (x : Terminal). x.name) t.scanned.items
  pub nonterminal_names : s.nonterminals ≡ map (λ (x : Nonterminal). x.name) n.of_grammar.items
  pub attribute_names_are : s.attributes ≡ attribute_names file
  pub production_names : AreGrouped IsConcrete IsNameOf (sources file.base.attributes.productions (productions file.items)) s.productions
