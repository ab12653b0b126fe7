-- The first rows can be those of a grammar: the children of concrete productions are symbols, whose numbers are among the first.
use Rattle.std.proofs.Common.{◌≡◌, ◌<◌, ◌⊎◌, inl, inr, [], ℕ, List, Option, Some, None, All, Contains, map, take}
use Rattle.std.proofs.Common.{slice_get, sym, refl, subst, ◌∙◌}
use Rattle.std.specs.Prelude.{IfSome, IsSome, filter_map, option_map, option_to_list}
use Rattle.wb_lemmas.proofs.Elements.{all_contained}
use Rattle.wb_lemmas.proofs.Members.{contains_at}
use Rattle.wb_lemmas.proofs.Places.{at_take}
use Rattle.wb_base.specs.declared.symbol.Kind.{Kind}
use Rattle.wb_base.specs.declared.symbol.Kind.TheVariants as kind
use Rattle.wb_base.specs.declared.symbol.Symbol.{Symbol}
use Rattle.wb_base.specs.Grammar.{GrammarView}
use Rattle.wb_syntax_resolved.specs.declared.attribution.AttributionParts.{AttributionParts}
use Rattle.wb_syntax_resolved.specs.declared.production.Child.{Child}
use Rattle.wb_syntax_resolved.specs.declared.production.ChildKind.{ChildKind}
use Rattle.wb_syntax_resolved.specs.declared.production.ChildKind.TheVariants as child
use Rattle.wb_syntax_resolved.specs.declared.production.Production.{Production}
use Rattle.wb_syntax_resolved.specs.declared.production.ProductionRole.{ProductionRole}
use Rattle.wb_syntax_resolved.specs.declared.production.ProductionRole.TheVariants.{Concrete}
use Rattle.wb_syntax_resolved.specs.Grammar.{symbol_of, IsGrammarProduction}
use Rattle.wb_syntax_resolved.specs.Named.{IsChildKindOf, IsNamedChild, IsNamedProduction}
use Rattle.wb_syntax.specs.declared.item.Item.{Item}
use Rattle.wb_syntax.specs.declared.item.ItemForm.{ItemForm}
use Rattle.wb_syntax.specs.declared.item.ItemForm.TheVariants as f
use Rattle.wb_syntax.specs.declared.pattern.Pattern.{Pattern}
use Rattle.wb_syntax.specs.declared.production.Child as named
use Rattle.wb_syntax.specs.declared.production.NamedKind.{NamedKind}
use Rattle.wb_syntax.specs.declared.production.NamedKind.TheVariants as k
use Rattle.wb_syntax.specs.declared.production.ProductionRole as written
use Rattle.wb_syntax.specs.declared.production.ProductionRole.TheVariants as w
use Rattle.wb_names_theory.specs.Declarations.{ProductionDeclaration, productions, production_of}
use Rattle.wb_names_theory.specs.Hold.{NamesHold}
use Rattle.wb_names_theory.specs.WrongKind.{form_misplaced, misplaced_child}
use Rattle.wb_names_numbers_theory.specs.Files.{File}
use Rattle.wb_names_numbers_theory.specs.Given.{IsFile}
use Rattle.wb_names_numbers_theory.specs.Numbering.{Numbering}
use Rattle.wb_names_numbers_theory.specs.Resolves.{IsConcrete, IsGrammarRow}
use Rattle.wb_names_numbers_theory.specs.Rows.{production_role}
use Rattle.wb_names_numbers_theory.specs.Sources.{sources}
use Rattle.wb_names_numbers_theory.specs.Written.{IsWrittenChildKind}
use Rattle.wb_names_numbers_theory.proofs.RowLemmas.{source_before, source_declared}
use Rattle.wb_names_numbers_theory.proofs.Selected.{kept_from}
use Rattle.wb_names_rows.specs.declared.moves.Moves.{Moves}
use Rattle.wb_names_rows.specs.declared.scope.Scope.{Scope}
use Rattle.wb_names_rows.specs.Moves.{IsChildNow, IsChildKindNow, IsKindNow}
use Rattle.wb_names_rows.specs.Scope.{IsFoundChild}
use Rattle.wb_names.specs.Resolving.{file_scope}
use Rattle.wb_names.specs.Inner.Joined.{Rows}
use Rattle.wb_names.specs.Inner.Now.{IsProductionNow}
use Rattle.wb_names.specs.Inner.Value.{AreRows, IsGrammarFor}
use Rattle.wb_names.proofs.ListLemmas.{all_some, leading_source, nothing_of, zip_facts, zip_images}
use Rattle.wb_names.proofs.ScopeRows.{is_scope, rows_numbering}

-- a child is a symbol
abbrev pub IsSymbol : Child → Type 0
IsSymbol c = IsSome (symbol_of c.kind)

-- a child of a base's concrete production, in new numbers
moved_value : (m : Moves) (is to : Kind) (number : ℕ) → is ≡ kind.Tree number → IsKindNow m is to → IsSome (symbol_of (child.Value to))
moved_value m kind.Int to number e now = absurd (cc e)
moved_value m kind.Bool to number e now = absurd (cc e)
moved_value m kind.Text to number e now = absurd (cc e)
moved_value m (kind.Tree own) to number e (other, at, is) = subst (λ (z : Kind). IsSome (symbol_of (child.Value z))) (sym is) refl

moved_symbol : (a : AttributionParts) (owner : ℕ) (m : Moves) (from to : ChildKind) → IsChildKindOf a owner Concrete from
    → IsChildKindNow m from to → IsSome (symbol_of to)
moved_symbol a owner m (child.Terminal number) to of (other, at, is) = subst (λ (z : ChildKind). IsSome (symbol_of z)) (sym is) refl
moved_symbol a owner m (child.Value own) to (number, tree, sees) (other, now, is) =
    subst (λ (z : ChildKind). IsSome (symbol_of z)) (sym is) (moved_value m own other number tree now)

-- a child of a declared concrete production, whose kind is a name
written_value : (n : Numbering) (owner : ℕ) (from : NamedKind) (l : List ℕ) (to : ChildKind) → misplaced_child w.Concrete l from ≡ []
    → IsWrittenChildKind n owner from to → IsSome (symbol_of to)
written_value n owner from l (child.Terminal number) placed is = refl
written_value n owner k.Int l (child.Value to) placed is = absurd (cc placed)
written_value n owner k.Bool l (child.Value to) placed is = absurd (cc placed)
written_value n owner k.Text l (child.Value to) placed is = absurd (cc placed)
written_value n owner (k.Name name) l (child.Value to) placed (number, at, is) =
    subst (λ (z : Kind). IsSome (symbol_of (child.Value z))) (sym is) refl

-- the role that is written for a concrete production
concrete_role : (role : written.ProductionRole) → production_role role ≡ Concrete → role ≡ w.Concrete
concrete_role w.Concrete e = refl
concrete_role w.Abstract e = absurd (cc e)

module _ (file : File) (given : IsFile file) {format : ℕ} (hold : NamesHold (file_scope format file)) (rows : Rows)
    (are : AreRows file rows) where
  abbrev s : Scope
  s = are.scope

  abbrev m : Moves
  m = are.moves

  abbrev b : AttributionParts
  b = file.base.attributes

  -- no child of a concrete production is int, bool or text
  child_placed : (d : ProductionDeclaration) → Contains (productions file.items) d → d.role ≡ w.Concrete → (c : named.Child)
      → Contains d.production.children c → misplaced_child w.Concrete c.label c.kind ≡ []
  child_placed d has concrete c listed =
      let z = kept_from (λ (x : Item Pattern). production_of x.form) file.items d has in
      from z.0 z.1 z.0.form refl z.2 where
        from : (item : Item Pattern) → Contains file.items item → (form : ItemForm Pattern) → item.form ≡ form → production_of form ≡ Some d
            → misplaced_child w.Concrete c.label c.kind ≡ []
        from item there (f.Production role p) e o =
            let is : record { role = role; production = p } ≡ d = cc in
            let none_here : form_misplaced file.owner item.form ≡ [] =
            nothing_of (λ (x : Item Pattern). form_misplaced file.owner x.form) file.items item hold.placed there in
            let of_form : form_misplaced file.owner (f.Production role p) ≡ [] =
            subst (λ (x : ItemForm Pattern). form_misplaced file.owner x ≡ []) e none_here in
            let of_declared : form_misplaced file.owner (f.Production d.role d.production) ≡ [] =
            subst (λ (x : ProductionDeclaration). form_misplaced file.owner (f.Production x.role x.production) ≡ []) is of_form in
            let of_concrete : form_misplaced file.owner (f.Production w.Concrete d.production) ≡ [] =
            subst (λ (x : written.ProductionRole). form_misplaced file.owner (f.Production x d.production) ≡ []) concrete of_declared in
            nothing_of (λ (x : named.Child). misplaced_child w.Concrete x.label x.kind) d.production.children c of_concrete listed
        from item there (f.Plain plain) e o = absurd (cc o)
        from item there (f.Lexical role name pattern) e o = absurd (cc o)
        from item there (f.Aspect name es) e o = absurd (cc o)

  -- the children of concrete rows are symbols
  row_symbols : (x : Production ⊎ ProductionDeclaration) (row : Production) → Contains (sources b.productions (productions file.items)) x
      → IsConcrete x → IsProductionNow file s m x row → All IsSymbol row.children
  row_symbols (inl p) row has concrete e =
      let named_production = all_contained (IsNamedProduction b) b.productions p given.base.attributes.named.productions
      (source_before b.productions (productions file.items) p has) in
      zip_facts (IsNamedChild b p) (IsChildNow m) IsSymbol (λ c to is now. moved_symbol b p.owner m c.kind to.kind
      (subst (λ (z : ProductionRole). IsChildKindOf b p.owner z c.kind) concrete is.is_kind) now.is_kind) p.children row.children
      (λ c listed. all_contained (IsNamedChild b p) p.children c named_production.children listed) e.children
  row_symbols (inr d) row has concrete e =
      let n = rows_numbering rows in
      let declared = source_declared b.productions (productions file.items) d has in
      zip_facts (λ (c : named.Child). misplaced_child w.Concrete c.label c.kind ≡ []) (IsFoundChild s n) IsSymbol
      (λ c to placed found. written_value n s.owner c.kind c.label to.kind placed (found (is_scope file given rows are)).is_kind)
      d.production.children row.children (child_placed d declared (concrete_role d.role concrete)) (e.children n)

  row_role : (x : Production ⊎ ProductionDeclaration) (row : Production) → IsConcrete x → IsProductionNow file s m x row → row.role ≡
      Concrete
  row_role (inl p) row concrete e = e.role ∙ concrete
  row_role (inr d) row concrete e = e.role ∙ concrete

  -- each of the first rows is concrete, and its children are symbols
  pub record IsConcreteRow (row : Production) : Type 0 where
    pub listed : Contains rows.productions row
    pub role : row.role ≡ Concrete
    pub symbols : All IsSymbol row.children

  pub concrete_row : (i : ℕ) (row : Production) → slice_get (take rows.concrete rows.productions) i ≡ Some row
      → IsConcreteRow row
  concrete_row i row at =
      let (within, there) = at_take rows.productions rows.concrete i row at in
      let x = leading_source IsConcrete (IsProductionNow file s m) (sources b.productions (productions file.items))
      rows.productions are.written.productions.0 i row
      (subst (λ (z : ℕ). i < z) (sym are.written.productions.1) within) there in
      record {
        listed = contains_at rows.productions row i there;
        role = row_role x.source row x.leads x.is_row;
        symbols = row_symbols x.source row x.listed x.leads x.is_row;
      }

-- a grammar of the first rows, in the logic alone
abbrev plain_row : Production → ℕ × List Symbol
plain_row p = (p.left, filter_map (λ (c : Child). symbol_of c.kind) p.children)

abbrev pub plain_grammar : Rows → ℕ → GrammarView
plain_grammar rows start = record {
  terminals = rows.scanned;
  nonterminals = rows.of_grammar;
  start = start;
  productions = map plain_row (take rows.concrete rows.productions);
}

plain_production : (p : Production) → All IsSymbol p.children → IsGrammarProduction p (plain_row p)
plain_production p all = record { left = refl; right = all_some (λ (c : Child). symbol_of c.kind) p.children all }

module _ (rows : Rows) (symbols : All (λ (p : Production). All IsSymbol p.children) (take rows.concrete
    rows.productions))
  where
    start_is : (o : Option ℕ) → option_to_list (option_map (λ (g : GrammarView). g.start) (option_map (plain_grammar rows) o)) ≡
        option_to_list o
    start_is None = refl
    start_is (Some start) = refl

    made_is : (o : Option ℕ) → IfSome (option_map (plain_grammar rows) o)
        (IsGrammarRow rows.scanned rows.of_grammar rows.concrete rows.productions)
    made_is None = tt
    made_is (Some start) = record {
      terminals_are = refl;
      nonterminals_are = refl;
      productions_are = zip_images (λ (p : Production). All IsSymbol p.children) IsGrammarProduction plain_row plain_production
          (take rows.concrete rows.productions) symbols;
    }

    pub plain_for : IsGrammarFor rows.scanned rows.of_grammar rows.concrete rows.productions rows.rest.start
        (option_map (plain_grammar rows) rows.rest.start)
    plain_for = record { start = start_is rows.rest.start; made = made_is rows.rest.start }
