-- What a declaration comes from: a row of the base, or an item.
use Rattle.std.proofs.Common.{◌≡◌, ◌++◌, ◌∷◌, inl, inr, [], List, Option, Some, None, Contains, map, refl}
use Rattle.std.specs.Prelude.{flat_map}
use Rattle.wb_lemmas.proofs.Members.{contains_cases, contains_first, contains_append, nothing_in}
use Rattle.wb_lemmas.proofs.Members.{append_contains_right}
use Rattle.wb_syntax_resolved.specs.declared.attributes.Attribute.{Attribute}
use Rattle.wb_syntax_resolved.specs.declared.attributes.Nonterminal.{Nonterminal}
use Rattle.wb_syntax_resolved.specs.declared.attributes.Occurrence.{Occurrence}
use Rattle.wb_syntax_resolved.specs.declared.equation.Equation.{Equation}
use Rattle.wb_syntax_resolved.specs.declared.production.Child.{Child}
use Rattle.wb_syntax_resolved.specs.declared.production.Forward.{Forward}
use Rattle.wb_syntax_resolved.specs.declared.production.Local.{Local}
use Rattle.wb_syntax_resolved.specs.declared.production.Production.{Production}
use Rattle.wb_syntax_resolved.specs.declared.resolved.ResolvedParts.{ResolvedParts}
use Rattle.wb_syntax_resolved.specs.declared.terminal.Terminal.{Terminal}
use Rattle.wb_syntax.specs.declared.expression.Equation as written
use Rattle.wb_syntax.specs.declared.item.PlainForm.{PlainForm}
use Rattle.wb_syntax.specs.declared.production.Child as named
use Rattle.wb_names_theory.specs.declared.declaration.Declaration.{Declaration}
use Rattle.wb_names_theory.specs.declared.declaration.Declaration.TheVariants as d
use Rattle.wb_names_theory.specs.declared.declaration.Labelled.TheVariants as label
use Rattle.wb_names_theory.specs.declared.declaration.Sort.TheVariants as sort
use Rattle.wb_names_theory.specs.Declarations.{Items, LexicalDeclaration, ProductionDeclaration, lexicals, productions, plain_items}
use Rattle.wb_names_theory.specs.Declares.{base_declarations, item_declarations, declarations, plain_declaration, role_sort}
use Rattle.wb_names_theory.specs.Declares.{child_declaration, target_declaration, terminal_sort, nonterminal_name}
use Rattle.wb_names_theory.specs.Declares.{attribute_name, base_labelled, target_attribute, target_site, forward_declarations}
use Rattle.wb_names_theory.specs.Declares.{production_declarations}
use Rattle.wb_names_numbers_theory.specs.Files.{Block, blocks}
use Rattle.wb_names_numbers_theory.proofs.RowLemmas.{contains_map}
use Rattle.wb_names_numbers_theory.proofs.OwnDeclared.{IsOwnDeclared, own_declared, contains_flat_map, flat_map_contains}
use Rattle.wb_names_numbers_theory.proofs.OwnDeclared as own

-- what a declaration comes from
pub data IsDeclaredBy (base : ResolvedParts) (items : Items) (it : Declaration) : Type 0 where
  base_terminal : (x : Terminal) → Contains base.terminals x → d.Symbol x.name (terminal_sort x.kind) ≡ it → IsDeclaredBy base items it
  base_nonterminal : (x : Nonterminal) → Contains base.attributes.nonterminals x → d.Symbol x.name sort.Nonterminal ≡ it
      → IsDeclaredBy base items it
  base_attribute : (x : Attribute) → Contains base.attributes.attributes x → d.Attribute x.name x.direction ≡ it
      → IsDeclaredBy base items it
  base_occurrence : (x : Occurrence) → Contains base.attributes.occurrences x
      → d.Occurrence (attribute_name base x.attribute) (nonterminal_name base x.nonterminal) ≡ it → IsDeclaredBy base items it
  base_symbol : (p : Production) → Contains base.attributes.productions p → d.Symbol p.name sort.Production ≡ it
      → IsDeclaredBy base items it
  base_left : (p : Production) → Contains base.attributes.productions p → d.Left p.name (nonterminal_name base p.left) ≡ it
      → IsDeclaredBy base items it
  base_child : (p : Production) → Contains base.attributes.productions p → (c : Child) → Contains p.children c
      → d.Label p.name c.label (base_labelled base c.kind) ≡ it → IsDeclaredBy base items it
  base_local : (p : Production) → Contains base.attributes.productions p → (l : Local) → Contains p.locals l
      → d.Label p.name l.label (label.Local (nonterminal_name base l.nonterminal)) ≡ it → IsDeclaredBy base items it
  base_forward : (p : Production) → Contains base.attributes.productions p → (f : Forward) → p.forward ≡ Some f → d.Forward p.name ≡ it
      → IsDeclaredBy base items it
  base_equation : (p : Production) → Contains base.attributes.productions p → (e : Equation) → Contains p.equations e
      → d.Equation p.name (target_attribute base e.target) (target_site p e.target) ≡ it → IsDeclaredBy base items it
  lexical : (x : LexicalDeclaration) → Contains (lexicals items) x → d.Symbol x.name (role_sort x.role) ≡ it → IsDeclaredBy base items it
  plain : (x : PlainForm) → Contains (plain_items items) x → plain_declaration x ≡ it → IsDeclaredBy base items it
  production : (x : ProductionDeclaration) → Contains (productions items) x → d.Symbol x.production.name sort.Production ≡ it
      → IsDeclaredBy base items it
  left : (x : ProductionDeclaration) → Contains (productions items) x → d.Left x.production.name x.production.left ≡ it
      → IsDeclaredBy base items it
  child : (x : ProductionDeclaration) → Contains (productions items) x → (c : named.Child) → Contains x.production.children c
      → child_declaration x.production.name c ≡ it → IsDeclaredBy base items it
  equation : (b : Block) → Contains (blocks items) b → (e : written.Equation) → Contains b.equations e
      → target_declaration b.name e.target ≡ it
      → IsDeclaredBy base items it

-- the parts of a production of the base
module _ (base : ResolvedParts) (items : Items) (it : Declaration) (p : Production) (there : Contains base.attributes.productions p) where
  abbrev children : List Declaration
  children = map (λ (c : Child). d.Label p.name c.label (base_labelled base c.kind)) p.children

  abbrev locals : List Declaration
  locals = map (λ (l : Local). d.Label p.name l.label (label.Local (nonterminal_name base l.nonterminal))) p.locals

  abbrev forwards : List Declaration
  forwards = forward_declarations p.name p.forward

  abbrev equations : List Declaration
  equations = map (λ (e : Equation). d.Equation p.name (target_attribute base e.target) (target_site p e.target)) p.equations

  in_forward : (o : Option Forward) → p.forward ≡ o → Contains (forward_declarations p.name o) it → IsDeclaredBy base items it
  in_forward None e h = absurd (nothing_in it h)
  in_forward (Some x) e h =
      elim (contains_cases (d.Forward p.name) it [] h) [ inl is ↦ base_forward p there x e is | inr more ↦ absurd (nothing_in it more) ]

  in_equations : Contains (children ++ locals ++ forwards ++ equations) it → IsDeclaredBy base items it
  in_equations h =
      elim (contains_append (children ++ locals ++ forwards) equations it h) [
        | inl one ↦ elim (contains_append (children ++ locals) forwards it one) [
          | inl two ↦ elim (contains_append children locals it two) [
            | inl three ↦ let x = contains_map (λ (c : Child). d.Label p.name c.label (base_labelled base c.kind)) p.children it three in
                base_child p there x.0 x.1 x.2
            | inr three ↦
                let x = contains_map (λ (l : Local). d.Label p.name l.label (label.Local (nonterminal_name base l.nonterminal))) p.locals it
                three in
                base_local p there x.0 x.1 x.2
          ]
          | inr two ↦ in_forward p.forward refl two
        ]
        | inr one ↦ let x = contains_map (λ (e : Equation). d.Equation p.name (target_attribute base e.target) (target_site p e.target))
            p.equations it one in
            base_equation p there x.0 x.1 x.2
      ]

  from_production : Contains (production_declarations base p) it → IsDeclaredBy base items it
  from_production has =
      let rest = children ++ locals ++ forwards ++ equations in
      elim (contains_cases (d.Symbol p.name sort.Production) it (d.Left p.name (nonterminal_name base p.left) ∷ rest) has) [
        | inl is ↦ base_symbol p there is
        | inr more ↦ elim (contains_cases (d.Left p.name (nonterminal_name base p.left)) it rest more) [
          | inl is ↦ base_left p there is
          | inr last ↦ in_equations last
        ]
      ]

-- the parts of a base
module _ (base : ResolvedParts) (items : Items) (it : Declaration) where
  abbrev terminals : List Declaration
  terminals = map (λ (x : Terminal). d.Symbol x.name (terminal_sort x.kind)) base.terminals

  abbrev nonterminals : List Declaration
  nonterminals = map (λ (x : Nonterminal). d.Symbol x.name sort.Nonterminal) base.attributes.nonterminals

  abbrev attributes : List Declaration
  attributes = map (λ (x : Attribute). d.Attribute x.name x.direction) base.attributes.attributes

  abbrev occurrences : List Declaration
  occurrences = map (λ (x : Occurrence). d.Occurrence (attribute_name base x.attribute) (nonterminal_name base x.nonterminal))
      base.attributes.occurrences

  abbrev rules : List Declaration
  rules = flat_map (production_declarations base) base.attributes.productions

  from_base : Contains (base_declarations base) it → IsDeclaredBy base items it
  from_base h =
      elim (contains_append (terminals ++ nonterminals ++ attributes ++ occurrences) rules it h) [
        | inl one ↦ elim (contains_append (terminals ++ nonterminals ++ attributes) occurrences it one) [
          | inl two ↦ elim (contains_append (terminals ++ nonterminals) attributes it two) [
            | inl three ↦ elim (contains_append terminals nonterminals it three) [
              | inl four ↦ let x = contains_map (λ (x : Terminal). d.Symbol x.name (terminal_sort x.kind)) base.terminals it four in
                  base_terminal x.0 x.1 x.2
              | inr four ↦
                  let x = contains_map (λ (x : Nonterminal). d.Symbol x.name sort.Nonterminal) base.attributes.nonterminals it four in
                  base_nonterminal x.0 x.1 x.2
            ]
            | inr three ↦ let x = contains_map (λ (x : Attribute). d.Attribute x.name x.direction) base.attributes.attributes it three in
                base_attribute x.0 x.1 x.2
          ]
          | inr two ↦
              let x = contains_map (λ (x : Occurrence). d.Occurrence (attribute_name base x.attribute) (nonterminal_name base
              x.nonterminal))
              base.attributes.occurrences it two in
              base_occurrence x.0 x.1 x.2
        ]
        | inr one ↦ let x = contains_flat_map (production_declarations base) base.attributes.productions it one in
            from_production base items it x.0 x.1 x.2
      ]

  -- what items declare
  from_own : IsOwnDeclared items it → IsDeclaredBy base items it
  from_own (own.lexical x has e) = lexical x has e
  from_own (own.plain x has e) = plain x has e
  from_own (own.production x has e) = production x has e
  from_own (own.left x has e) = left x has e
  from_own (own.child x has c more e) = child x has c more e
  from_own (own.equation b has q more e) = equation b has q more e

  pub declared_by : Contains (declarations base items) it → IsDeclaredBy base items it
  declared_by h =
      elim (contains_append (base_declarations base) (item_declarations items) it h) [
        | inl one ↦ from_base one
        | inr one ↦ from_own (own_declared items it one)
      ]

-- a production of the base is declared in it
pub production_declared : (base : ResolvedParts) (p : Production) → Contains base.attributes.productions p
    → Contains (base_declarations base) (d.Symbol p.name sort.Production)
production_declared base p has =
    let it = d.Symbol p.name sort.Production in
    let items : Items = [] in
    let front = map (λ (x : Terminal). d.Symbol x.name (terminal_sort x.kind)) base.terminals
    ++ map (λ (x : Nonterminal). d.Symbol x.name sort.Nonterminal) base.attributes.nonterminals
    ++ map (λ (x : Attribute). d.Attribute x.name x.direction) base.attributes.attributes
    ++ map (λ (x : Occurrence). d.Occurrence (attribute_name base x.attribute) (nonterminal_name base x.nonterminal))
    base.attributes.occurrences in
    append_contains_right front (flat_map (production_declarations base) base.attributes.productions) it
    (flat_map_contains (production_declarations base) base.attributes.productions p it has
    (contains_first it (d.Left p.name (nonterminal_name base p.left) ∷ (children base items it p has ++ locals base items it p has
    ++ forwards base items it p has ++ equations base items it p has))))
