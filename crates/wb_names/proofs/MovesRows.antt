-- The tables of a base's names have the numbers of its rows among all rows, and its attributes keep theirs.
use Rattle.std.proofs.Common.{◌≡◌, ◌<◌, ◌+◌, ◌++◌, ◌∷◌, ◌⊎◌, inl, inr, [], ℕ, List, Some, Contains}
use Rattle.std.proofs.Common.{map, length, slice_get, ap, sym, refl, subst}
use Rattle.std.proofs.Common.{◌∙◌, arith}
use Rattle.std.specs.Prelude.{flat_map}
use Rattle.std.proofs.lemmas.List.{length-map}
use Rattle.std.proofs.lemmas.Option.{slice_get_within}
use Rattle.wb_lemmas.proofs.Members.{append_contains_left, append_contains_right, contains_at, contains_first, place_of}
use Rattle.wb_lemmas.proofs.Places.{append_after, append_keeps, at_within}
use Rattle.wb_lemmas.proofs.Zips.{zip_at}
use Rattle.wb_syntax_resolved.specs.declared.attributes.Attribute.{Attribute}
use Rattle.wb_syntax_resolved.specs.declared.attributes.Nonterminal.{Nonterminal}
use Rattle.wb_syntax_resolved.specs.declared.attributes.Occurrence.{Occurrence}
use Rattle.wb_syntax_resolved.specs.declared.production.Production.{Production}
use Rattle.wb_syntax_resolved.specs.declared.resolved.ResolvedParts.{ResolvedParts}
use Rattle.wb_syntax_resolved.specs.declared.terminal.Terminal.{Terminal}
use Rattle.wb_syntax_resolved.specs.Once.{Entry}
use Rattle.wb_syntax.specs.declared.item.Item.{Item}
use Rattle.wb_syntax.specs.declared.item.ItemForm.{ItemForm}
use Rattle.wb_syntax.specs.declared.item.ItemForm.TheVariants as f
use Rattle.wb_syntax.specs.declared.item.PlainForm.{PlainForm}
use Rattle.wb_syntax.specs.declared.item.PlainForm.TheVariants as i
use Rattle.wb_syntax.specs.declared.pattern.Pattern.{Pattern}
use Rattle.wb_names_theory.specs.declared.declaration.Declaration.{Declaration}
use Rattle.wb_names_theory.specs.declared.declaration.Declaration.TheVariants as d
use Rattle.wb_names_theory.specs.declared.declaration.Sort.{Sort}
use Rattle.wb_names_theory.specs.declared.declaration.Sort.TheVariants as sort
use Rattle.wb_names_theory.specs.Declarations.{Items, LexicalDeclaration, ProductionDeclaration, lexicals, nonterminals}
use Rattle.wb_names_theory.specs.Declarations.{attributes, productions, plain_items, lexical_of, nonterminal_of, production_of}
use Rattle.wb_names_theory.specs.Declares.{base_declarations, base_names, item_declarations, form_declarations, terminal_sort, role_sort}
use Rattle.wb_names_theory.specs.Declares.{attribute_name, nonterminal_name, production_declarations, child_declaration}
use Rattle.wb_names_theory.specs.Declares.{equation_declarations}
use Rattle.wb_names_theory.specs.Duplicate.{AreSame, symbol}
use Rattle.wb_names_theory.specs.Hold.{AreOnce, NamesHold}
use Rattle.wb_names_numbers_theory.specs.Files.{File}
use Rattle.wb_names_numbers_theory.specs.Given.{IsFile}
use Rattle.wb_names_numbers_theory.specs.Moved.{IsMovedNumber}
use Rattle.wb_names_numbers_theory.specs.Resolves.{IsScanned, IsInGrammarOf, IsConcrete, move_of}
use Rattle.wb_names_numbers_theory.specs.Sources.{sources, IsFrom}
use Rattle.wb_names_numbers_theory.proofs.Carrying.{name_at}
use Rattle.wb_names_numbers_theory.proofs.DeclaredBy.{production_declared}
use Rattle.wb_names_numbers_theory.proofs.Ground.{IsHosts, hosts}
use Rattle.wb_names_numbers_theory.proofs.OwnDeclared.{flat_map_contains}
use Rattle.wb_names_numbers_theory.proofs.RowLemmas.{map_contains, source_of, source_before, source_declared}
use Rattle.wb_names_numbers_theory.proofs.RowsOwned.{plain_declares}
use Rattle.wb_names_numbers_theory.proofs.Selected.{kept_from}
use Rattle.wb_names_rows.specs.declared.moves.Moves.{Moves}
use Rattle.wb_names_rows.specs.declared.scope.Scope.{Scope}
use Rattle.wb_names_rows.specs.Base.{IsAttributeNow}
use Rattle.wb_names_rows.specs.Plains.{IsFoundAttribute}
use Rattle.wb_names_rows.proofs.BaseMoved.{Stays}
use Rattle.wb_names_rows.proofs.MovedLemmas.{AreMoves}
use Rattle.wb_names_symbols.specs.Symbols.{IsTable}
use Rattle.wb_names_symbols.specs.Rows.{IsTerminalNow, IsNonterminalNow}
use Rattle.wb_names.specs.Resolving.{file_scope}
use Rattle.wb_names.specs.Inner.Joined.{Rows}
use Rattle.wb_names.specs.Inner.Now.{IsProductionNow}
use Rattle.wb_names.specs.Inner.Value.{AreRows}
use Rattle.wb_names.proofs.ListLemmas.{before_at, image_at}
use Rattle.wb_names.proofs.ScopeRows.{production_names_are, rows_numbering}

-- nothing is declared before and again
not_twice : (host own : List Declaration) (one other : Declaration) → AreOnce (host ++ own) → Contains host one → Contains own other
    → AreSame one other → ⊥
not_twice host own one other once before again are =
    let (i, at) = place_of host one before in
    let (j, there) = place_of own other again in
    let e : i ≡ length host + j =
    once i (length host + j) one other (append_keeps host own i one at) (append_after host own j ∙ there) are in
    let within : i < length host = slice_get_within host i one at in
    absurd (omega (arith, e, within))

-- what a base declares
module _ (base : ResolvedParts) where
  abbrev terminals_declared : List Declaration
  terminals_declared = map (λ (x : Terminal). d.Symbol x.name (terminal_sort x.kind)) base.terminals

  abbrev nonterminals_declared : List Declaration
  nonterminals_declared = map (λ (x : Nonterminal). d.Symbol x.name sort.Nonterminal) base.attributes.nonterminals

  in_names : (it : Declaration) → Contains (terminals_declared ++ nonterminals_declared) it → Contains (base_declarations base) it
  in_names it has =
      let symbols = terminals_declared ++ nonterminals_declared in
      let attributes_declared = map (λ (x : Attribute). d.Attribute x.name x.direction) base.attributes.attributes in
      let occurrences_declared =
      map (λ (x : Occurrence). d.Occurrence (attribute_name base x.attribute) (nonterminal_name base x.nonterminal))
      base.attributes.occurrences in
      append_contains_left (base_names base ++ occurrences_declared)
      (flat_map (production_declarations base) base.attributes.productions) it
      (append_contains_left (base_names base) occurrences_declared it (append_contains_left symbols attributes_declared it has))

  terminal_declared : (x : Terminal) → Contains base.terminals x → Contains (base_declarations base) (d.Symbol x.name (terminal_sort
      x.kind))
  terminal_declared x has =
      let it = d.Symbol x.name (terminal_sort x.kind) in
      in_names it (append_contains_left terminals_declared nonterminals_declared it
      (map_contains (λ (z : Terminal). d.Symbol z.name (terminal_sort z.kind)) base.terminals x has))

  nonterminal_declared : (x : Nonterminal) → Contains base.attributes.nonterminals x
      → Contains (base_declarations base) (d.Symbol x.name sort.Nonterminal)
  nonterminal_declared x has =
      let it = d.Symbol x.name sort.Nonterminal in
      in_names it (append_contains_right terminals_declared nonterminals_declared it
      (map_contains (λ (z : Nonterminal). d.Symbol z.name sort.Nonterminal) base.attributes.nonterminals x has))

-- what items declare
module _ (items : Items) where
  form_declares : (item : Item Pattern) → Contains items item → (form : ItemForm Pattern) → item.form ≡ form → (it : Declaration)
      → Contains (form_declarations form) it → Contains (item_declarations items) it
  form_declares item has form e it more =
      flat_map_contains (λ (x : Item Pattern). form_declarations x.form) items item it has
      (subst (λ (z : ItemForm Pattern). Contains (form_declarations z) it) (sym e) more)

  lexical_declares : (x : LexicalDeclaration) → Contains (lexicals items) x
      → Contains (item_declarations items) (d.Symbol x.name (role_sort x.role))
  lexical_declares x has = let k = kept_from (λ (y : Item Pattern). lexical_of y.form) items x has in from k.0 k.1 k.0.form refl k.2 where
    from : (item : Item Pattern) → Contains items item → (form : ItemForm Pattern) → item.form ≡ form → lexical_of form ≡ Some x
        → Contains (item_declarations items) (d.Symbol x.name (role_sort x.role))
    from item there (f.Lexical role name pattern) e o =
        let is : record { role = role; name = name; pattern = pattern } ≡ x = cc in
        subst (λ (z : LexicalDeclaration). Contains (item_declarations items) (d.Symbol z.name (role_sort z.role))) is
        (form_declares item there (f.Lexical role name pattern) e (d.Symbol name (role_sort role))
        (contains_first (d.Symbol name (role_sort role)) []))
    from item there (f.Plain plain) e o = absurd (cc o)
    from item there (f.Production role p) e o = absurd (cc o)
    from item there (f.Aspect name es) e o = absurd (cc o)

  production_declares : (x : ProductionDeclaration) → Contains (productions items) x
      → Contains (item_declarations items) (d.Symbol x.production.name sort.Production)
  production_declares x has =
      let k = kept_from (λ (y : Item Pattern). production_of y.form) items x has in from k.0 k.1 k.0.form refl k.2 where
        from : (item : Item Pattern) → Contains items item → (form : ItemForm Pattern) → item.form ≡ form → production_of form ≡ Some x
            → Contains (item_declarations items) (d.Symbol x.production.name sort.Production)
        from item there (f.Production role p) e o =
            let is : record { role = role; production = p } ≡ x = cc in
            subst (λ (z : ProductionDeclaration). Contains (item_declarations items) (d.Symbol z.production.name sort.Production)) is
            (form_declares item there (f.Production role p) e (d.Symbol p.name sort.Production) (contains_first (d.Symbol p.name
            sort.Production) (d.Left p.name p.left
            ∷ (map (child_declaration p.name) p.children ++ equation_declarations p.name p.equations))))
        from item there (f.Plain plain) e o = absurd (cc o)
        from item there (f.Lexical role name pattern) e o = absurd (cc o)
        from item there (f.Aspect name es) e o = absurd (cc o)

  nonterminal_declares : (name : List ℕ) → Contains (nonterminals items) name
      → Contains (item_declarations items) (d.Symbol name sort.Nonterminal)
  nonterminal_declares name has = let z = kept_from nonterminal_of (plain_items items) name has in from z.0 z.1 z.2 where
    from : (form : PlainForm) → Contains (plain_items items) form → nonterminal_of form ≡ Some name
        → Contains (item_declarations items) (d.Symbol name sort.Nonterminal)
    from (i.Nonterminal own) there e = let is : own ≡ name = cc in
        subst (λ z. Contains (item_declarations items) (d.Symbol z sort.Nonterminal)) is (plain_declares items (i.Nonterminal own) there)
    from (i.Start own) there e = absurd (cc e)
    from (i.Prefer first second) there e = absurd (cc e)
    from (i.Extensible own) there e = absurd (cc e)
    from (i.Closed own) there e = absurd (cc e)
    from (i.Synthesized own its) there e = absurd (cc e)
    from (i.Inherited own its) there e = absurd (cc e)
    from (i.Occurs own l needs) there e = absurd (cc e)
    from (i.ForwardOn own needs) there e = absurd (cc e)

-- a number in a table, where rows of one name have one owner
moved_by : {X : Type 0} (entry : X → Entry) (before rows : List X) (names : List (List ℕ)) (table : List ℕ)
    → names ≡ map (λ (x : X). (entry x).1) rows → IsTable (map (λ (x : X). (entry x).1) before) names table
    → ((x row : X) → Contains before x → Contains rows row → (entry row).1 ≡ (entry x).1 → (entry row).0 ≡ (entry x).0)
    → (k j : ℕ) → slice_get table k ≡ Some j → IsMovedNumber (λ (o : ℕ). o) (map entry before) (map entry rows) k j
moved_by {X} entry before rows names table are is_table owner k j at =
    let (name, first, second) = is_table.named k j at in
    let (x, here, x_named) = image_at (λ (z : X). (entry z).1) before k name first in
    let (row, there, row_named) = image_at (λ (z : X). (entry z).1) rows j name (ap (λ z. slice_get z j) (sym are) ∙ second) in
    let same_name : (entry row).1 ≡ (entry x).1 = row_named ∙ sym x_named in
    let same_owner : (entry row).0 ≡ (entry x).0 = owner x row (contains_at before x k here) (contains_at rows row j there) same_name in
    let same_entry : entry row ≡ ((entry x).0, (entry x).1) = λ t. (same_owner t, same_name t) in
    record {
      owner = (entry x).0;
      name = (entry x).1;
      before = name_at entry before k x here;
      after = name_at entry rows j row there ∙ ap (λ (z : Entry). Some z) same_entry;
    }

-- whose an attribute is, and its name
abbrev attribute_entry : Attribute → Entry
attribute_entry a = (a.owner, a.name)

module _ (file : File) (given : IsFile file) {format : ℕ} (hold : NamesHold (file_scope format file)) (rows : Rows)
    (are : AreRows file rows) where
  abbrev s : Scope
  s = are.scope

  abbrev m : Moves
  m = are.moves

  host : IsHosts file.base
  host = hosts file.base given.base given.alone

  -- no name of a symbol is the base's and declared
  apart : (name own : List ℕ) (is other : Sort) → Contains (base_declarations file.base) (d.Symbol name is)
      → Contains (item_declarations file.items) (d.Symbol own other) → own ≡ name → ⊥
  apart name own is other before again e =
      not_twice (base_declarations file.base) (item_declarations file.items) (d.Symbol name is) (d.Symbol own other) hold.once before again
      (subst (λ (z : List ℕ). AreSame (d.Symbol name is) (d.Symbol z other)) (sym e) symbol)

  -- rows of a base's names are the base's
  terminal_owner : (x row : Terminal) → Contains file.base.terminals x → Contains rows.terminals row → row.name ≡ x.name
      → row.owner ≡ x.owner
  terminal_owner x row has listed e =
      let (k, at) = place_of rows.terminals row listed in
      let z = source_of IsScanned (IsTerminalNow file) (sources file.base.terminals (lexicals file.items)) rows.terminals
      are.terminals.0
      k row at in
      from z.source z.listed z.is_row where
        from : (y : Terminal ⊎ LexicalDeclaration) → Contains (sources file.base.terminals (lexicals file.items)) y
            → IsTerminalNow file y row → row.owner ≡ x.owner
        from (inl t) there is =
            ap (λ (z : Terminal). z.owner) is ∙ (host.terminals t (source_before file.base.terminals (lexicals file.items) t there)
            ∙ sym (host.terminals x has))
        from (inr l) there is = absurd (apart x.name l.name (terminal_sort x.kind) (role_sort l.role) (terminal_declared file.base x has)
            (lexical_declares file.items l (source_declared file.base.terminals (lexicals file.items) l there)) (sym is.name ∙ e))

  nonterminal_owner : (x row : Nonterminal) → Contains file.base.attributes.nonterminals x → Contains rows.nonterminals row
      → row.name ≡ x.name → row.owner ≡ x.owner
  nonterminal_owner x row has listed e =
      let (k, at) = place_of rows.nonterminals row listed in
      let z = source_of (IsInGrammarOf file) (IsNonterminalNow file s) (sources file.base.attributes.nonterminals (nonterminals file.items))
      rows.nonterminals are.nonterminals.0 k row at in
      from z.source z.listed z.is_row where
        from : (y : Nonterminal ⊎ List ℕ) → Contains (sources file.base.attributes.nonterminals (nonterminals file.items)) y
            → IsNonterminalNow file s y row → row.owner ≡ x.owner
        from (inl t) there is =
            ap (λ (z : Nonterminal). z.owner) is
            ∙ (host.nonterminals t (source_before file.base.attributes.nonterminals (nonterminals file.items) t there)
            ∙ sym (host.nonterminals x has))
        from (inr own) there is = absurd (apart x.name own sort.Nonterminal sort.Nonterminal (nonterminal_declared file.base x has)
            (nonterminal_declares file.items own (source_declared file.base.attributes.nonterminals (nonterminals file.items) own there))
            (sym is.name_is ∙ e))

  production_owner : (x row : Production) → Contains file.base.attributes.productions x → Contains rows.productions row
      → row.name ≡ x.name → row.owner ≡ x.owner
  production_owner x row has listed e =
      let (k, at) = place_of rows.productions row listed in
      let z = source_of IsConcrete (IsProductionNow file s m) (sources file.base.attributes.productions (productions file.items))
      rows.productions are.written.productions.0 k row at in
      from z.source z.listed z.is_row where
        from : (y : Production ⊎ ProductionDeclaration) → Contains (sources file.base.attributes.productions (productions file.items)) y
            → IsProductionNow file s m y row → row.owner ≡ x.owner
        from (inl t) there is =
            is.owner_is ∙ (host.productions t (source_before file.base.attributes.productions (productions file.items) t there)
            ∙ sym (host.productions x has))
        from (inr own) there is = absurd (apart x.name own.production.name sort.Production sort.Production
            (production_declared file.base x has)
            (production_declares file.items own (source_declared file.base.attributes.productions (productions file.items) own there))
            (sym is.name ∙ e))

  pub are_moves : AreMoves m (move_of file (rows_numbering rows))
  are_moves = record {
    nonterminals = moved_by (λ (x : Nonterminal). (x.owner, x.name)) file.base.attributes.nonterminals rows.nonterminals
        s.nonterminals
        m.nonterminals.items are.nonterminal_names are.numbers.tables.nonterminals nonterminal_owner;
    terminals = moved_by (λ (t : Terminal). (t.owner, t.name)) file.base.terminals rows.terminals s.terminals m.terminals.items
        are.terminal_names are.numbers.tables.terminals terminal_owner;
    productions = moved_by (λ (p : Production). (p.owner, p.name)) file.base.attributes.productions rows.productions
        s.productions m.productions.items (production_names_are file given rows are) are.numbers.tables.productions production_owner;
  }

  -- attributes of the base are the first rows
  attribute_stays : (k : ℕ) → k < length (map attribute_entry file.base.attributes.attributes)
      → IsMovedNumber (λ (o : ℕ). o) (map attribute_entry file.base.attributes.attributes)
      (map attribute_entry rows.rest.plains.attributes.items) k k
  attribute_stays k within =
      let below : k < length file.base.attributes.attributes =
      subst (λ (z : ℕ). k < z) (length-map file.base.attributes.attributes attribute_entry) within in
      let (x, at) = at_within file.base.attributes.attributes k below in
      let row = zip_at (IsFrom (IsAttributeNow m) (IsFoundAttribute s)) (sources file.base.attributes.attributes (attributes file.items))
      rows.rest.plains.attributes.items k (inl x) are.written.rest.plains.attributes
      (before_at file.base.attributes.attributes (attributes file.items) k x at) in
      let is : IsAttributeNow m x row.other = row.related in
      let same_entry : attribute_entry row.other ≡ attribute_entry x = λ t. (is.owner t, is.name t) in
      record {
        owner = x.owner;
        name = x.name;
        before = name_at attribute_entry file.base.attributes.attributes k x at;
        after = name_at attribute_entry rows.rest.plains.attributes.items k row.other row.there
            ∙ ap (λ (z : Entry). Some z) same_entry;
      }

  pub attributes_stay : Stays (move_of file (rows_numbering rows))
  attributes_stay = record { owners = λ o. refl; attributes = attribute_stays }
