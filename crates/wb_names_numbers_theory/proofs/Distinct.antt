-- No name of a value is there twice.
use Rattle.std.proofs.Common.{◌≡◌, ◌≤◌, ◌+◌, ◌++◌, ◌∷◌, ◌⊎◌, inl, inr, ℕ, true, List, map, ap}
use Rattle.std.proofs.Common.{refl, ◌∙◌, arith}
use Rattle.std.specs.Prelude.{filter_map, option_map, option_to_list}
use Rattle.std.proofs.lemmas.Option.{slice_get-map}
use Rattle.wb_syntax_resolved.specs.declared.attributes.Attribute.{Attribute}
use Rattle.wb_syntax_resolved.specs.declared.attributes.Direction.TheVariants.{Synthesized}
use Rattle.wb_syntax_resolved.specs.declared.attributes.Nonterminal.{Nonterminal}
use Rattle.wb_syntax_resolved.specs.declared.production.Production.{Production}
use Rattle.wb_syntax_resolved.specs.declared.resolved.ResolvedParts.{ResolvedParts}
use Rattle.wb_syntax_resolved.specs.declared.terminal.Terminal.{Terminal}
use Rattle.wb_syntax_resolved.specs.Once.{Entry, NamesDiffer}
use Rattle.wb_syntax.specs.declared.item.Item.{Item}
use Rattle.wb_syntax.specs.declared.item.ItemForm.{ItemForm}
use Rattle.wb_syntax.specs.declared.item.ItemForm.TheVariants as f
use Rattle.wb_syntax.specs.declared.item.PlainForm.TheVariants as i
use Rattle.wb_syntax.specs.declared.pattern.Pattern.{Pattern}
use Rattle.wb_names_theory.specs.declared.declaration.Declaration.{Declaration}
use Rattle.wb_names_theory.specs.declared.declaration.Declaration.TheVariants as d
use Rattle.wb_names_theory.specs.declared.declaration.Sort.TheVariants as sort
use Rattle.wb_names_theory.specs.Declarations.{Items, LexicalDeclaration, AttributeDeclaration, ProductionDeclaration, lexicals}
use Rattle.wb_names_theory.specs.Declarations.{nonterminals}
use Rattle.wb_names_theory.specs.Declarations.{productions, attributes, plain_items, lexical_of, plain_of, production_of, nonterminal_of}
use Rattle.wb_names_theory.specs.Declarations.{attribute_of}
use Rattle.wb_names_theory.specs.Declares.{base_declarations, item_declarations, form_declarations, declarations, terminal_sort}
use Rattle.wb_names_theory.specs.Hold.{AreOnce}
use Rattle.wb_names_numbers_theory.specs.Files.{File}
use Rattle.wb_names_numbers_theory.specs.Numbering.{Numbering, numbering_of}
use Rattle.wb_names_numbers_theory.specs.Resolves.{Resolves, IsTerminal, IsNonterminal, IsAttribute, IsProduction, IsScanned, IsInGrammarOf}
use Rattle.wb_names_numbers_theory.specs.Resolves.{IsConcrete}
use Rattle.wb_names_numbers_theory.specs.Sources.{sources}
use Rattle.wb_names_numbers_theory.proofs.Counts.{times_grouped, times_zip, times_sources, times_map_append, times_map_map, times_kept}
use Rattle.wb_names_numbers_theory.proofs.Counts.{times_nested}
use Rattle.wb_names_numbers_theory.proofs.Counts.{count_items, count_base, count_rules}
use Rattle.wb_names_numbers_theory.proofs.OneRow.{AreDistinct}
use Rattle.wb_names_numbers_theory.proofs.Selected.{bytes_same}
use Rattle.wb_names_numbers_theory.proofs.Times.{is_same, times, times_append, times_map, times_once, one_place}

-- names of which each is declared once at most differ
pub names_differ : (mark : List ℕ → Declaration) → ((a : List ℕ) → is_same (mark a) (mark a) ≡ true) → (names : List Entry)
    → ((a : List ℕ) → times (mark a) (map (λ (e : Entry). mark e.1) names) ≤ 1) → NamesDiffer names
names_differ mark itself names few i j owner other name a b sees =
    let mark_of : Entry → Declaration = λ e. mark e.1 in
    one_place (mark name) (map mark_of names) (few name) i j (mark name) (mark name)
    (slice_get-map mark_of names i ∙ ap (option_map mark_of) a) (slice_get-map mark_of names j ∙ ap (option_map mark_of) b) (itself name)
    (itself name)

-- a symbol and an attribute of a name
abbrev pub symbol : List ℕ → Declaration
symbol name = d.Symbol name sort.Terminal

abbrev pub attribute : List ℕ → Declaration
attribute name = d.Attribute name Synthesized

module _ (a : List ℕ) where
  -- symbols of items
  abbrev symbols_total : Items → ℕ
  symbols_total items =
      times (symbol a) (map (λ (x : LexicalDeclaration). symbol x.name) (lexicals items))
      + (times (symbol a) (map symbol (nonterminals items))
      + times (symbol a) (map (λ (x : ProductionDeclaration). symbol x.production.name) (productions items)))

  abbrev symbols_of : ItemForm Pattern → ℕ
  symbols_of form =
      times (symbol a) (map (λ (x : LexicalDeclaration). symbol x.name) (option_to_list (lexical_of form)))
      + (times (symbol a) (map symbol (filter_map nonterminal_of (option_to_list (plain_of form))))
      + times (symbol a) (map (λ (x : ProductionDeclaration). symbol x.production.name) (option_to_list (production_of form))))

  symbols_step : (item : Item Pattern) (items : Items) → symbols_total (item ∷ items) ≡ symbols_of item.form + symbols_total items
  symbols_step item items =
      let one = times_kept (symbol a) (λ (x : LexicalDeclaration). symbol x.name) (lexical_of item.form) (lexicals items) in
      let two = times_nested (symbol a) symbol nonterminal_of (plain_of item.form) (plain_items items) in
      let three = times_kept (symbol a) (λ (x : ProductionDeclaration). symbol x.production.name) (production_of item.form)
      (productions items) in
      omega (arith, one, two, three)

  symbols_each : (form : ItemForm Pattern) → symbols_of form ≤ times (symbol a) (form_declarations form)
  symbols_each (f.Lexical kind one pattern) = omega arith
  symbols_each (f.Plain (i.Prefer first second)) = omega arith
  symbols_each (f.Plain (i.Nonterminal one)) = omega arith
  symbols_each (f.Plain (i.Start one)) = omega arith
  symbols_each (f.Plain (i.Extensible one)) = omega arith
  symbols_each (f.Plain (i.Closed one)) = omega arith
  symbols_each (f.Plain (i.Synthesized one its)) = omega arith
  symbols_each (f.Plain (i.Inherited one its)) = omega arith
  symbols_each (f.Plain (i.Occurs b m needs)) = omega arith
  symbols_each (f.Plain (i.ForwardOn m needs)) = omega arith
  symbols_each (f.Production kind p) = omega arith
  symbols_each (f.Aspect one es) = omega arith

  -- attributes of items
  abbrev attributes_total : Items → ℕ
  attributes_total items = times (attribute a) (map (λ (x : AttributeDeclaration). attribute x.name) (attributes items))

  abbrev attributes_of : ItemForm Pattern → ℕ
  attributes_of form =
      times (attribute a) (map (λ (x : AttributeDeclaration). attribute x.name) (filter_map attribute_of (option_to_list (plain_of form))))

  attributes_step : (item : Item Pattern) (items : Items) → attributes_total (item ∷ items) ≡ attributes_of item.form + attributes_total
      items
  attributes_step item items =
      times_nested (attribute a) (λ (x : AttributeDeclaration). attribute x.name) attribute_of (plain_of item.form) (plain_items items)

  attributes_each : (form : ItemForm Pattern) → attributes_of form ≤ times (attribute a) (form_declarations form)
  attributes_each (f.Lexical kind one pattern) = omega arith
  attributes_each (f.Plain (i.Prefer first second)) = omega arith
  attributes_each (f.Plain (i.Nonterminal one)) = omega arith
  attributes_each (f.Plain (i.Start one)) = omega arith
  attributes_each (f.Plain (i.Extensible one)) = omega arith
  attributes_each (f.Plain (i.Closed one)) = omega arith
  attributes_each (f.Plain (i.Synthesized one its)) = omega arith
  attributes_each (f.Plain (i.Inherited one its)) = omega arith
  attributes_each (f.Plain (i.Occurs b m needs)) = omega arith
  attributes_each (f.Plain (i.ForwardOn m needs)) = omega arith
  attributes_each (f.Production kind p) = omega arith
  attributes_each (f.Aspect one es) = omega arith

  module _ (file : File) (r : ResolvedParts) (resolves : Resolves file r) (once : AreOnce (declarations file.base file.items)) where
    abbrev n : Numbering
    n = numbering_of r

    -- the name of what a row comes from
    abbrev terminal_symbol : Terminal ⊎ LexicalDeclaration → Declaration
    terminal_symbol (inl t) = symbol t.name
    terminal_symbol (inr x) = symbol x.name

    abbrev nonterminal_symbol : Nonterminal ⊎ List ℕ → Declaration
    nonterminal_symbol (inl x) = symbol x.name
    nonterminal_symbol (inr name) = symbol name

    abbrev production_symbol : Production ⊎ ProductionDeclaration → Declaration
    production_symbol (inl x) = symbol x.name
    production_symbol (inr x) = symbol x.production.name

    abbrev attribute_symbol : Attribute ⊎ AttributeDeclaration → Declaration
    attribute_symbol (inl x) = attribute x.name
    attribute_symbol (inr x) = attribute x.name

    terminal_row : (u : Terminal ⊎ LexicalDeclaration) (v : Terminal) → IsTerminal file n u v
        → is_same (symbol a) (symbol v.name) ≡ is_same (symbol a) (terminal_symbol u)
    terminal_row (inl t) v e = ap (λ k. is_same (symbol a) (symbol k)) e.name
    terminal_row (inr x) v e = ap (λ k. is_same (symbol a) (symbol k)) e.name

    nonterminal_row : (u : Nonterminal ⊎ List ℕ) (v : Nonterminal) → IsNonterminal file n u v
        → is_same (symbol a) (symbol v.name) ≡ is_same (symbol a) (nonterminal_symbol u)
    nonterminal_row (inl t) v e = ap (λ k. is_same (symbol a) (symbol k)) e.name
    nonterminal_row (inr x) v e = ap (λ k. is_same (symbol a) (symbol k)) e.name_is

    production_row : (u : Production ⊎ ProductionDeclaration) (v : Production) → IsProduction file n u v
        → is_same (symbol a) (symbol v.name) ≡ is_same (symbol a) (production_symbol u)
    production_row (inl t) v e = ap (λ k. is_same (symbol a) (symbol k)) e.name
    production_row (inr x) v e = ap (λ k. is_same (symbol a) (symbol k)) e.name

    attribute_row : (u : Attribute ⊎ AttributeDeclaration) (v : Attribute) → IsAttribute file n u v
        → is_same (attribute a) (attribute v.name) ≡ is_same (attribute a) (attribute_symbol u)
    attribute_row (inl t) v e = ap (λ k. is_same (attribute a) (attribute k)) e.name
    attribute_row (inr x) v e = ap (λ k. is_same (attribute a) (attribute k)) e.name

    pub symbols_few : times (symbol a) (map (λ (e : Entry). symbol e.1) (n.terminals ++ (n.nonterminals ++ n.productions))) ≤ 1
    symbols_few =
        let b = file.base.attributes in
        let x = symbol a in
        let mark : Entry → Declaration = λ e. symbol e.1 in
        let t = times_grouped x IsScanned (IsTerminal file n) terminal_symbol (λ (v : Terminal). symbol v.name) terminal_row
        (sources file.base.terminals (lexicals file.items)) r.terminals resolves.terminals in
        let u = times_grouped x (IsInGrammarOf file) (IsNonterminal file n) nonterminal_symbol (λ (v : Nonterminal). symbol v.name)
        nonterminal_row
        (sources b.nonterminals (nonterminals file.items)) r.attributes.nonterminals resolves.nonterminals in
        let p = times_grouped x IsConcrete (IsProduction file n) production_symbol (λ (v : Production). symbol v.name) production_row
        (sources b.productions (productions file.items)) r.attributes.productions resolves.productions in
        let t_in = times_sources x terminal_symbol file.base.terminals (lexicals file.items) in
        let u_in = times_sources x nonterminal_symbol b.nonterminals (nonterminals file.items) in
        let p_in = times_sources x production_symbol b.productions (productions file.items) in
        let t_map = times_map_map x mark (λ (v : Terminal). (v.owner, v.name)) r.terminals in
        let u_map = times_map_map x mark (λ (v : Nonterminal). (v.owner, v.name)) r.attributes.nonterminals in
        let p_map = times_map_map x mark (λ (v : Production). (v.owner, v.name)) r.attributes.productions in
        let outer = times_map_append x mark n.terminals (n.nonterminals ++ n.productions) in
        let inner = times_map_append x mark n.nonterminals n.productions in
        let items = count_items x symbols_of symbols_total refl symbols_step symbols_each file.items in
        let base = count_base x file.base in
        let rules = count_rules x file.base b.productions in
        let t_base = times_map x (λ (y : Terminal). d.Symbol y.name (terminal_sort y.kind)) (λ (y : Terminal). symbol y.name) (λ y. refl)
        file.base.terminals in
        let u_base = times_map x (λ (y : Nonterminal). d.Symbol y.name sort.Nonterminal) (λ (y : Nonterminal). symbol y.name) (λ y. refl)
        b.nonterminals in
        let p_base = times_map x (λ (y : Production). d.Symbol y.name sort.Production) (λ (y : Production). symbol y.name) (λ y. refl)
        b.productions in
        let both = times_append x (base_declarations file.base) (item_declarations file.items) in
        let few = times_once x (declarations file.base file.items) once in
        omega (arith, t, u, p, t_in, u_in, p_in, t_map, u_map, p_map, outer, inner, items, base, rules, t_base, u_base, p_base, both, few)

    pub attributes_few : times (attribute a) (map (λ (e : Entry). attribute e.1) n.attributes) ≤ 1
    attributes_few =
        let b = file.base.attributes in
        let x = attribute a in
        let mark : Entry → Declaration = λ e. attribute e.1 in
        let t = times_zip x (IsAttribute file n) attribute_symbol (λ (v : Attribute). attribute v.name) attribute_row
        (sources b.attributes (attributes file.items)) r.attributes.attributes resolves.attributes in
        let t_in = times_sources x attribute_symbol b.attributes (attributes file.items) in
        let t_map = times_map_map x mark (λ (v : Attribute). (v.owner, v.name)) r.attributes.attributes in
        let items = count_items x attributes_of attributes_total refl attributes_step attributes_each file.items in
        let base = count_base x file.base in
        let t_base = times_map x (λ (y : Attribute). d.Attribute y.name y.direction) (λ (y : Attribute). attribute y.name) (λ y. refl)
        b.attributes in
        let both = times_append x (base_declarations file.base) (item_declarations file.items) in
        let few = times_once x (declarations file.base file.items) once in
        omega (arith, t, t_in, t_map, items, base, t_base, both, few)

-- the names of a value are distinct, where declarations are once
pub distinct : (file : File) (r : ResolvedParts) → Resolves file r → AreOnce (declarations file.base file.items)
    → AreDistinct (numbering_of r)
distinct file r resolves once =
    let n = numbering_of r in
    record {
      symbols = names_differ symbol (λ a. bytes_same a a refl) (n.terminals ++ (n.nonterminals ++ n.productions))
          (λ a. symbols_few a file r resolves once);
      attributes = names_differ attribute (λ a. bytes_same a a refl) n.attributes (λ a. attributes_few a file r resolves once);
    }
