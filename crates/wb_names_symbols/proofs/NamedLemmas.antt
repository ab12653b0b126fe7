-- Where names are those of rows, each name of the base and each that is declared is there; and the numbers of a base's names.
use Rattle.std.proofs.Common.{◌≡◌, ◌++◌, ◌⊎◌, inl, inr, [], ℕ, List, Contains, map, ap, sym, subst, ◌∙◌}
use Rattle.std.specs.Prelude.{option_map}
use Rattle.std.specs.List.{AllZip}
use Rattle.std.proofs.lemmas.List.{length-map}
use Rattle.std.proofs.lemmas.Option.{slice_get-map}
use Rattle.wb_lemmas.proofs.Elements.{all_from_contained}
use Rattle.wb_lemmas.proofs.Members.{contains_at}
use Rattle.wb_lemmas.proofs.Zips.{beside}
use Rattle.wb_syntax_resolved.specs.declared.attributes.Nonterminal.{Nonterminal}
use Rattle.wb_syntax_resolved.specs.declared.production.Production.{Production}
use Rattle.wb_syntax_resolved.specs.declared.terminal.Terminal.{Terminal}
use Rattle.wb_names_theory.specs.declared.declaration.Declaration.{Declaration}
use Rattle.wb_names_theory.specs.declared.declaration.Declaration.TheVariants as d
use Rattle.wb_names_theory.specs.declared.declaration.Sort.TheVariants as sort
use Rattle.wb_names_theory.specs.Declarations.{LexicalDeclaration, ProductionDeclaration, lexicals, nonterminals}
use Rattle.wb_names_theory.specs.Declarations.{productions}
use Rattle.wb_names_theory.specs.Declares.{declarations}
use Rattle.wb_names_numbers_theory.specs.Files.{File}
use Rattle.wb_names_numbers_theory.specs.Resolves.{IsScanned, IsInGrammarOf, IsConcrete}
use Rattle.wb_names_numbers_theory.specs.Sources.{sources, AreGrouped}
use Rattle.wb_names_numbers_theory.proofs.RowLemmas.{row_of, map_contains, there_before, there_declared}
use Rattle.wb_names_rows.specs.declared.moves.Moves.{Moves}
use Rattle.wb_names_rows.specs.declared.scope.Scope.{Scope}
use Rattle.wb_names_rows.specs.declared.terminals.Terminals.{Terminals}
use Rattle.wb_names_rows.specs.Nodes.{IsAt}
use Rattle.wb_names_rows.specs.There.{HasDeclared}
use Rattle.wb_names_symbols.specs.declared.symbols.Counts.{Counts}
use Rattle.wb_names_symbols.specs.declared.symbols.Symbols.{Symbols}
use Rattle.wb_names_symbols.specs.declared.nonterminals.Nonterminals.{Nonterminals}
use Rattle.wb_names_symbols.specs.Symbols.{AreSymbols, IsNameOf, IsTable}
use Rattle.wb_names_symbols.specs.Inner.Nonterminals.{attribute_names}
use Rattle.wb_names_symbols.specs.Rows.{IsTerminalNow, IsNonterminalNow}
use Rattle.wb_names_symbols.specs.Inner.Tables.{AddsNames, AddsNumbers, AddsTables, AreNamed, HasBase, HaveRows}
use Rattle.wb_names_symbols.proofs.ApartLemmas.{zip_length}
use Rattle.wb_names_symbols.proofs.AttributesThere.{base_attribute, declared_attribute}
use Rattle.wb_names_symbols.proofs.DeclaredThere.{Holds, holds_of}

-- the name of a source's row is there
row_named : {X Y : Type 0} (P : X → Type 0) (R : X → Y → Type 0) (xs : List X) (rows : List Y) → AreGrouped P R xs rows
    → (name : Y → List ℕ) (names : List (List ℕ)) → names ≡ map name rows → (x : X) → Contains xs x → (wanted : List ℕ)
    → ((y : Y) → R x y → name y ≡ wanted) → Contains names wanted
row_named P R xs rows g name names are x has wanted named =
    let r = row_of P R xs rows g x has in
    let there : Contains (map name rows) (name r.row) = map_contains name rows r.row (contains_at rows r.row r.place r.at) in
    subst (λ z. Contains z wanted) (sym are) (subst (Contains (map name rows)) (named r.row r.is_row) there)

module _ (file : File) (counts : Counts) (t : Terminals) (n : Nonterminals) (s : Scope) (are : AreNamed file counts t n s) where
  terminal : (x : Terminal ⊎ LexicalDeclaration) → Contains (sources file.base.terminals (lexicals file.items)) x → (wanted : List ℕ)
      → ((y : Terminal) → IsTerminalNow file x y → y.name ≡ wanted) → Contains s.terminals wanted
  terminal = row_named IsScanned (IsTerminalNow file) (sources file.base.terminals (lexicals file.items))
      t.scanned.items
      are.terminals.0 (λ (y : Terminal). y.name) s.terminals are.terminal_names

  nonterminal : (x : Nonterminal ⊎ List ℕ) → Contains (sources file.base.attributes.nonterminals (nonterminals file.items)) x
      → (wanted : List ℕ)
      → ((y : Nonterminal) → IsNonterminalNow file s x y → y.name ≡ wanted) → Contains s.nonterminals wanted
  nonterminal = row_named (IsInGrammarOf file) (IsNonterminalNow file s)
      (sources file.base.attributes.nonterminals (nonterminals file.items)) n.of_grammar.items
      are.nonterminals.0 (λ (y : Nonterminal). y.name) s.nonterminals are.nonterminal_names

  production : (x : Production ⊎ ProductionDeclaration) → Contains (sources file.base.attributes.productions (productions file.items)) x
      → (wanted : List ℕ) → ((y : List ℕ) → IsNameOf x y → y ≡ wanted) → Contains s.productions wanted
  production x has wanted named =
      let r = row_of IsConcrete IsNameOf (sources file.base.attributes.productions (productions file.items)) s.productions
      are.production_names x has in
      subst (Contains s.productions) (named r.row r.is_row) (contains_at s.productions r.row r.place r.at)

  base_terminal : (x : Terminal) → Contains file.base.terminals x → Contains s.terminals x.name
  base_terminal x has =
      terminal (inl x) (there_before file.base.terminals (lexicals file.items) x has) x.name (λ y is. ap (λ (z : Terminal). z.name) is)

  base_nonterminal : (x : Nonterminal) → Contains file.base.attributes.nonterminals x → Contains s.nonterminals x.name
  base_nonterminal x has = nonterminal (inl x) (there_before file.base.attributes.nonterminals (nonterminals file.items) x has) x.name
      (λ y is. ap (λ (z : Nonterminal). z.name) is)

  base_production : (x : Production) → Contains file.base.attributes.productions x → Contains s.productions x.name
  base_production x has =
      production (inl x) (there_before file.base.attributes.productions (productions file.items) x has) x.name (λ y is. is)

  pub has_base : HasBase file s
  has_base = record {
    terminals = all_from_contained (λ (x : Terminal). Contains s.terminals x.name) file.base.terminals base_terminal;
    nonterminals = all_from_contained (λ (x : Nonterminal). Contains s.nonterminals x.name) file.base.attributes.nonterminals
        base_nonterminal;
    productions = all_from_contained (λ (x : Production). Contains s.productions x.name) file.base.attributes.productions base_production;
  }

  there : (it : Declaration) → Contains (declarations file.base file.items) it
      → Holds (Contains s.terminals) (Contains s.nonterminals) (Contains s.productions) (Contains (attribute_names file)) it
  there = holds_of (Contains s.terminals) (Contains s.nonterminals) (Contains s.productions)
      (Contains (attribute_names file)) file.base file.items
      (λ name has. nonterminal (inr name) (there_declared file.base.attributes.nonterminals (nonterminals file.items) name has) name
      (λ y is. is.name_is))
      (declared_attribute file) base_terminal base_nonterminal (base_attribute file) base_production
      (λ x has. terminal (inr x) (there_declared file.base.terminals (lexicals file.items) x has) x.name (λ y is. is.name))
      (λ x has. production (inr x) (there_declared file.base.attributes.productions (productions file.items) x has) x.production.name
      (λ y is. is))

  has_declared : HasDeclared s (declarations file.base file.items)
  has_declared = record {
    terminals = λ name has. there (d.Symbol name sort.Terminal) has;
    markers = λ name has. there (d.Symbol name sort.Marker) has;
    layout = λ name has. there (d.Symbol name sort.Layout) has;
    nonterminals = λ name has. there (d.Symbol name sort.Nonterminal) has;
    productions = λ name has. there (d.Symbol name sort.Production) has;
    attributes = λ name goes has. subst (λ z. Contains z name) (sym are.attribute_names_are) (there (d.Attribute name goes) has);
  }

-- rows and then their names
pub named_rows : (file : File) (counts : Counts) (t : Terminals) (n : Nonterminals) (ts : List Terminal) (ns : List Nonterminal)
    (mid new : Scope) → HaveRows file counts t n mid → ts ≡ t.scanned.items
    → ns ≡ n.of_grammar.items → AddsNames file ts ns mid new → AreNamed file counts t n new
named_rows file counts t n ts ns mid new rows same_terminals same_nonterminals names =
    let attributes : new.attributes ≡ attribute_names file = names.attributes ∙ ap (λ (z : Scope). z.attributes) rows.scope in record {
      owner = names.owner ∙ ap (λ (z : Scope). z.owner) rows.scope;
      terminals = rows.terminals;
      nonterminals = rows.nonterminals new attributes;
      terminal_names = names.terminals ∙ ap (map (λ (x : Terminal). x.name)) same_terminals;
      nonterminal_names = names.nonterminals ∙ ap (map (λ (x : Nonterminal). x.name)) same_nonterminals;
      attribute_names_are = attributes;
      production_names = names.productions;
    }

-- numbers that are added to nothing are a table
table : {X : Type 0} (name : X → List ℕ) (names : List (List ℕ)) (rows : List X) (old new : List ℕ) → old ≡ []
    → AddsNumbers name names rows old new → IsTable (map name rows) names new
table name names rows old new nothing (own, is, all) =
    let zipped : AllZip (λ x. IsAt names (name x)) rows new =
    subst (AllZip (λ x. IsAt names (name x)) rows) (sym (is ∙ ap (λ z. z ++ own) nothing)) all in
    record {
      len = sym (zip_length (λ x. IsAt names (name x)) rows new zipped) ∙ sym (length-map rows name);
      named = λ k j at.
          let b = beside (λ x. IsAt names (name x)) rows new k j zipped at in
          (name b.other, slice_get-map name rows k ∙ ap (option_map name) b.at, b.related);
    }

-- names and numbers are symbols
pub symbols_are : (file : File) (counts : Counts) (g : Symbols) (old : Moves) → old.terminals.items ≡ [] → old.nonterminals.items ≡ []
    → old.productions.items ≡ []
    → AreNamed file counts g.terminals g.nonterminals g.scope → AddsTables file g.scope old g.moves → AreSymbols file counts g
symbols_are file counts g old no_terminals no_nonterminals no_productions are adds = record {
  numbers = record {
    owner = are.owner;
    there = has_declared file counts g.terminals g.nonterminals g.scope are;
    tables = record {
      terminals = table (λ (x : Terminal). x.name) g.scope.terminals file.base.terminals old.terminals.items g.moves.terminals.items
          no_terminals adds.terminals;
      nonterminals = table (λ (x : Nonterminal). x.name) g.scope.nonterminals file.base.attributes.nonterminals old.nonterminals.items
          g.moves.nonterminals.items no_nonterminals adds.nonterminals;
      productions = table (λ (x : Production). x.name) g.scope.productions file.base.attributes.productions old.productions.items
          g.moves.productions.items no_productions adds.productions;
    };
  };
  terminals = are.terminals;
  nonterminals = are.nonterminals;
  terminal_names = are.terminal_names;
  nonterminal_names = are.nonterminal_names;
  attribute_names = are.attribute_names_are;
  production_names = are.production_names;
}
