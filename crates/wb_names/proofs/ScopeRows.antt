-- The names under which rows are made are those of the rows, and the owner of the file sees each.
use Rattle.std.proofs.Common.{◌≡◌, ◌⊎◌, inl, inr, ℕ, List, Contains, map, ap, sym, subst, ◌∙◌}
use Rattle.wb_lemmas.proofs.Members.{place_of}
use Rattle.wb_lemmas.proofs.Zips.{zip_map}
use Rattle.wb_syntax_resolved.specs.declared.attributes.Attribute.{Attribute}
use Rattle.wb_syntax_resolved.specs.declared.attributes.Nonterminal.{Nonterminal}
use Rattle.wb_syntax_resolved.specs.declared.production.Production.{Production}
use Rattle.wb_syntax_resolved.specs.declared.terminal.Terminal.{Terminal}
use Rattle.wb_syntax_resolved.specs.Once.{Entry}
use Rattle.wb_syntax_resolved.specs.Owners.{Sees}
use Rattle.wb_names_theory.specs.Declarations.{LexicalDeclaration, AttributeDeclaration, ProductionDeclaration, lexicals, nonterminals}
use Rattle.wb_names_theory.specs.Declarations.{attributes, productions}
use Rattle.wb_names_numbers_theory.specs.Files.{File}
use Rattle.wb_names_numbers_theory.specs.Given.{IsFile}
use Rattle.wb_names_numbers_theory.specs.Numbering.{Numbering}
use Rattle.wb_names_numbers_theory.specs.Resolves.{IsScanned, IsInGrammarOf, IsConcrete}
use Rattle.wb_names_numbers_theory.specs.Sources.{sources, IsFrom}
use Rattle.wb_names_numbers_theory.proofs.Ground.{IsHosts, hosts}
use Rattle.wb_names_numbers_theory.proofs.RowLemmas.{contains_map, source_of, source_of_zip, source_before}
use Rattle.wb_names_rows.specs.declared.moves.Moves.{Moves}
use Rattle.wb_names_rows.specs.declared.scope.Scope.{Scope}
use Rattle.wb_names_rows.specs.Base.{IsAttributeNow}
use Rattle.wb_names_rows.specs.Plains.{IsFoundAttribute}
use Rattle.wb_names_rows.specs.Scope.{AreNames, IsScope}
use Rattle.wb_names_symbols.specs.Symbols.{IsNameOf}
use Rattle.wb_names_symbols.specs.Rows.{IsTerminalNow, IsNonterminalNow}
use Rattle.wb_names.specs.Inner.Joined.{Rows}
use Rattle.wb_names.specs.Inner.Now.{IsProductionNow}
use Rattle.wb_names.specs.Inner.Value.{AreRows}
use Rattle.wb_names.proofs.ListLemmas.{map_fuse, map_sources, same_grouped}

-- the numbering of rows
abbrev pub rows_numbering : Rows → Numbering
rows_numbering rows = record {
  terminals = map (λ (t : Terminal). (t.owner, t.name)) rows.terminals;
  nonterminals = map (λ (n : Nonterminal). (n.owner, n.name)) rows.nonterminals;
  attributes = map (λ (a : Attribute). (a.owner, a.name)) rows.rest.plains.attributes.items;
  productions = map (λ (p : Production). (p.owner, p.name)) rows.productions;
}

-- names of rows whose owners are seen
are_names : {X : Type 0} (entry : X → Entry) (rows : List X) (names : List (List ℕ)) (owner : ℕ)
    → names ≡ map (λ (x : X). (entry x).1) rows → ((x : X) → Contains rows x → Sees owner (entry x).0)
    → AreNames names (map entry rows) owner
are_names entry rows names owner are seen = record {
  are = are ∙ sym (map_fuse (λ (e : Entry). e.1) entry rows);
  seen = λ e has. let x = contains_map entry rows e has in subst (λ (z : Entry). Sees owner z.0) x.2 (seen x.0 x.1);
}

-- the name of what a row is of
abbrev attribute_name : Attribute ⊎ AttributeDeclaration → List ℕ
attribute_name (inl a) = a.name
attribute_name (inr d) = d.name

module _ (file : File) (given : IsFile file) (rows : Rows) (are : AreRows file rows) where
  abbrev s : Scope
  s = are.scope

  abbrev m : Moves
  m = are.moves

  host : IsHosts file.base
  host = hosts file.base given.base given.alone

  -- what each row's owner is
  terminal_seen : (x : Terminal ⊎ LexicalDeclaration) (row : Terminal) → Contains (sources file.base.terminals (lexicals file.items)) x
      → IsTerminalNow file x row → Sees file.owner row.owner
  terminal_seen (inl t) row has e =
      inl (ap (λ (z : Terminal). z.owner) e ∙ host.terminals t (source_before file.base.terminals (lexicals file.items) t has))
  terminal_seen (inr d) row has e = inr e.owner_is

  nonterminal_seen : (x : Nonterminal ⊎ List ℕ) (row : Nonterminal)
      → Contains (sources file.base.attributes.nonterminals (nonterminals file.items)) x → IsNonterminalNow file s x row
      → Sees file.owner row.owner
  nonterminal_seen (inl t) row has e =
      inl (ap (λ (z : Nonterminal). z.owner) e
      ∙ host.nonterminals t (source_before file.base.attributes.nonterminals (nonterminals file.items) t has))
  nonterminal_seen (inr d) row has e = inr e.owner_is

  production_seen : (x : Production ⊎ ProductionDeclaration) (row : Production)
      → Contains (sources file.base.attributes.productions (productions file.items)) x → IsProductionNow file s m x row
      → Sees file.owner row.owner
  production_seen (inl t) row has e =
      inl (e.owner_is ∙ host.productions t (source_before file.base.attributes.productions (productions file.items) t has))
  production_seen (inr d) row has e = inr e.owner_is

  attribute_seen : (x : Attribute ⊎ AttributeDeclaration) (row : Attribute)
      → Contains (sources file.base.attributes.attributes (attributes file.items)) x
      → IsFrom (IsAttributeNow m) (IsFoundAttribute s) x row → Sees file.owner row.owner
  attribute_seen (inl t) row has e =
      inl (e.owner ∙ host.attributes t (source_before file.base.attributes.attributes (attributes file.items) t has))
  attribute_seen (inr d) row has e = inr (e.owner ∙ are.numbers.owner)

  -- the name of each
  attribute_named : (x : Attribute ⊎ AttributeDeclaration) (row : Attribute) → IsFrom (IsAttributeNow m) (IsFoundAttribute s) x row
      → row.name ≡ attribute_name x
  attribute_named (inl t) row e = e.name
  attribute_named (inr d) row e = e.name

  production_named : (x : Production ⊎ ProductionDeclaration) (name : List ℕ) (row : Production) → IsNameOf x name
      → IsProductionNow file s m x row → name ≡ row.name
  production_named (inl t) name row a b = a ∙ sym b.name
  production_named (inr d) name row a b = a ∙ sym b.name

  pub attribute_names_are : s.attributes ≡ map (λ (a : Attribute). a.name) rows.rest.plains.attributes.items
  attribute_names_are =
      are.attribute_names ∙ sym (zip_map (IsFrom (IsAttributeNow m) (IsFoundAttribute s)) attribute_name (λ (a : Attribute). a.name)
      attribute_named (sources file.base.attributes.attributes (attributes file.items)) rows.rest.plains.attributes.items
      are.written.rest.plains.attributes
      ∙ map_sources attribute_name file.base.attributes.attributes (attributes file.items))

  pub production_names_are : s.productions ≡ map (λ (p : Production). p.name) rows.productions
  production_names_are =
      same_grouped IsConcrete IsNameOf (IsProductionNow file s m) (λ (p : Production). p.name) production_named
      (sources file.base.attributes.productions (productions file.items)) s.productions rows.productions
      are.production_names are.written.productions.0

  -- the scope is that of the rows
  seen_as : (o : ℕ) → Sees file.owner o → Sees s.owner o
  seen_as o = subst (λ (z : ℕ). Sees z o) (sym are.numbers.owner)

  terminals_seen : (row : Terminal) → Contains rows.terminals row → Sees s.owner row.owner
  terminals_seen row has =
      let (k, at) = place_of rows.terminals row has in
      let z = source_of IsScanned (IsTerminalNow file) (sources file.base.terminals (lexicals file.items)) rows.terminals
      are.terminals.0
      k row at in
      seen_as row.owner (terminal_seen z.source row z.listed z.is_row)

  nonterminals_seen : (row : Nonterminal) → Contains rows.nonterminals row → Sees s.owner row.owner
  nonterminals_seen row has =
      let (k, at) = place_of rows.nonterminals row has in
      let z = source_of (IsInGrammarOf file) (IsNonterminalNow file s) (sources file.base.attributes.nonterminals (nonterminals file.items))
      rows.nonterminals are.nonterminals.0 k row at in
      seen_as row.owner (nonterminal_seen z.source row z.listed z.is_row)

  productions_seen : (row : Production) → Contains rows.productions row → Sees s.owner row.owner
  productions_seen row has =
      let (k, at) = place_of rows.productions row has in
      let z = source_of IsConcrete (IsProductionNow file s m) (sources file.base.attributes.productions (productions file.items))
      rows.productions are.written.productions.0 k row at in
      seen_as row.owner (production_seen z.source row z.listed z.is_row)

  attributes_seen : (row : Attribute) → Contains rows.rest.plains.attributes.items row → Sees s.owner row.owner
  attributes_seen row has =
      let (k, at) = place_of rows.rest.plains.attributes.items row has in
      let z = source_of_zip (IsFrom (IsAttributeNow m) (IsFoundAttribute s))
      (sources file.base.attributes.attributes (attributes file.items)) rows.rest.plains.attributes.items
      are.written.rest.plains.attributes k row at in
      seen_as row.owner (attribute_seen z.source row z.listed z.is_row)

  pub is_scope : IsScope s (rows_numbering rows)
  is_scope = record {
    terminals = are_names (λ (t : Terminal). (t.owner, t.name)) rows.terminals s.terminals s.owner are.terminal_names terminals_seen;
    nonterminals = are_names (λ (n : Nonterminal). (n.owner, n.name)) rows.nonterminals s.nonterminals s.owner are.nonterminal_names
        nonterminals_seen;
    attributes = are_names (λ (a : Attribute). (a.owner, a.name)) rows.rest.plains.attributes.items s.attributes s.owner
        attribute_names_are attributes_seen;
    productions = are_names (λ (p : Production). (p.owner, p.name)) rows.productions s.productions s.owner
        production_names_are
        productions_seen;
  }
