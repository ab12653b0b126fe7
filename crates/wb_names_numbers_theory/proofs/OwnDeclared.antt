-- What a declaration of items comes from.
use Rattle.std.proofs.Common.{◌≡◌, ◌++◌, ◌∷◌, inl, inr, [], List, Option, Some, None, Contains, map, ap, sym, refl, subst, ◌∙◌}
use Rattle.std.specs.Prelude.{flat_map, filter_map}
use Rattle.std.specs.List.{cons_option}
use Rattle.wb_lemmas.proofs.Members.{contains_cases, contains_first, contains_later, contains_append, nothing_in}
use Rattle.wb_lemmas.proofs.Members.{append_contains_left, append_contains_right}
use Rattle.wb_syntax.specs.declared.expression.Equation as written
use Rattle.wb_syntax.specs.declared.item.Item.{Item}
use Rattle.wb_syntax.specs.declared.item.ItemForm.{ItemForm}
use Rattle.wb_syntax.specs.declared.item.ItemForm.TheVariants as f
use Rattle.wb_syntax.specs.declared.item.PlainForm.{PlainForm}
use Rattle.wb_syntax.specs.declared.pattern.Pattern.{Pattern}
use Rattle.wb_syntax.specs.declared.production.Child as named
use Rattle.wb_names_theory.specs.declared.declaration.Declaration.{Declaration}
use Rattle.wb_names_theory.specs.declared.declaration.Declaration.TheVariants as d
use Rattle.wb_names_theory.specs.declared.declaration.Sort.TheVariants as sort
use Rattle.wb_names_theory.specs.Declarations.{Items, LexicalDeclaration, ProductionDeclaration, lexicals, productions, plain_items}
use Rattle.wb_names_theory.specs.Declarations.{lexical_of}
use Rattle.wb_names_theory.specs.Declarations.{production_of, plain_of}
use Rattle.wb_names_theory.specs.Declares.{item_declarations, form_declarations, plain_declaration, role_sort}
use Rattle.wb_names_theory.specs.Declares.{child_declaration, target_declaration, equation_declarations}
use Rattle.wb_names_numbers_theory.specs.Files.{Block, blocks, block_of}
use Rattle.wb_names_numbers_theory.proofs.RowLemmas.{contains_map}

-- an element of the lists of the elements of a list
pub contains_flat_map : {X Y : Type 0} (g : X → List Y) (xs : List X) (y : Y) → Contains (flat_map g xs) y
    → (x : X) × Contains xs x × Contains (g x) y
contains_flat_map g [] y has = absurd (nothing_in y has)
contains_flat_map g (z ∷ xs) y has =
    elim (contains_append (g z) (flat_map g xs) y has) [
      | inl here ↦ (z, contains_first z xs, here)
      | inr more ↦ let r = contains_flat_map g xs y more in (r.0, contains_later z r.0 xs r.1, r.2)
    ]

pub flat_map_contains : {X Y : Type 0} (g : X → List Y) (xs : List X) (x : X) (y : Y) → Contains xs x → Contains (g x) y
    → Contains (flat_map g xs) y
flat_map_contains g [] x y has more = absurd (nothing_in x has)
flat_map_contains g (z ∷ xs) x y has more =
    elim (contains_cases z x xs has) [
      | inl is ↦ append_contains_left (g z) (flat_map g xs) y (subst (λ k. Contains (g k) y) (sym is) more)
      | inr rest ↦ append_contains_right (g z) (flat_map g xs) y (flat_map_contains g xs x y rest more)
    ]

-- what is kept comes first, where the first element is kept
skipped : {X Y : Type 0} (g : X → Option Y) (z : X) (xs : List X) → g z ≡ None → filter_map g (z ∷ xs) ≡ filter_map g xs
skipped g z xs e = ap (λ o. cons_option o (filter_map g xs)) e

took : {X Y : Type 0} (g : X → Option Y) (z : X) (xs : List X) (w : Y) → g z ≡ Some w → filter_map g (z ∷ xs) ≡ w ∷ filter_map g xs
took g z xs w e = ap (λ o. cons_option o (filter_map g xs)) e

kept_first : {X Y : Type 0} (g : X → Option Y) (z : X) (xs : List X) (y : Y) → g z ≡ Some y → Contains (filter_map g (z ∷ xs)) y
kept_first g z xs y e = subst (λ k. Contains k y) (sym (took g z xs y e)) (contains_first y (filter_map g xs))

kept_later : {X Y : Type 0} (g : X → Option Y) (z : X) (xs : List X) (y : Y) (o : Option Y) → g z ≡ o → Contains (filter_map g xs) y
    → Contains (filter_map g (z ∷ xs)) y
kept_later g z xs y None e more = subst (λ k. Contains k y) (sym (skipped g z xs e)) more
kept_later g z xs y (Some w) e more = subst (λ k. Contains k y) (sym (took g z xs w e)) (contains_later w y (filter_map g xs) more)

-- what some element is kept as is kept
pub kept : {X Y : Type 0} (g : X → Option Y) (xs : List X) (x : X) (y : Y) → Contains xs x → g x ≡ Some y → Contains (filter_map g xs) y
kept g [] x y has is = absurd (nothing_in x has)
kept g (z ∷ xs) x y has is =
    elim (contains_cases z x xs has) [
      | inl same ↦ kept_first g z xs y (ap g same ∙ is)
      | inr more ↦ kept_later g z xs y (g z) refl (kept g xs x y more is)
    ]

-- what it comes from
pub data IsOwnDeclared (items : Items) (it : Declaration) : Type 0 where
  lexical : (x : LexicalDeclaration) → Contains (lexicals items) x → d.Symbol x.name (role_sort x.role) ≡ it → IsOwnDeclared items it
  plain : (x : PlainForm) → Contains (plain_items items) x → plain_declaration x ≡ it → IsOwnDeclared items it
  production : (x : ProductionDeclaration) → Contains (productions items) x → d.Symbol x.production.name sort.Production ≡ it
      → IsOwnDeclared items it
  left : (x : ProductionDeclaration) → Contains (productions items) x → d.Left x.production.name x.production.left ≡ it
      → IsOwnDeclared items it
  child : (x : ProductionDeclaration) → Contains (productions items) x → (c : named.Child) → Contains x.production.children c
      → child_declaration x.production.name c ≡ it → IsOwnDeclared items it
  equation : (b : Block) → Contains (blocks items) b → (e : written.Equation) → Contains b.equations e
      → target_declaration b.name e.target ≡ it
      → IsOwnDeclared items it

module _ (items : Items) (it : Declaration) where
  -- the parts of an item
  in_block : (b : Block) → Contains (blocks items) b → Contains (equation_declarations b.name b.equations) it → IsOwnDeclared items it
  in_block b there h =
      let x = contains_map (λ (e : written.Equation). target_declaration b.name e.target) b.equations it h in
      equation b there x.0 x.1 x.2

  from_form : (item : Item Pattern) → Contains items item → (form : ItemForm Pattern) → item.form ≡ form
      → Contains (form_declarations form) it → IsOwnDeclared items it
  from_form item there (f.Lexical role name pattern) e h =
      elim (contains_cases (d.Symbol name (role_sort role)) it [] h) [
        | inl is ↦ lexical (record { role = role; name = name; pattern = pattern })
            (kept (λ (x : Item Pattern). lexical_of x.form) items item _ there (ap lexical_of e)) is
        | inr more ↦ absurd (nothing_in it more)
      ]
  from_form item there (f.Plain x) e h =
      elim (contains_cases (plain_declaration x) it [] h) [
        | inl is ↦ plain x (kept (λ (x : Item Pattern). plain_of x.form) items item x there (ap plain_of e)) is
        | inr more ↦ absurd (nothing_in it more)
      ]
  from_form item there (f.Production role p) e h =
      let declared = kept (λ (x : Item Pattern). production_of x.form) items item _ there (ap production_of e) in
      let block = kept (λ (x : Item Pattern). block_of x.form) items item _ there (ap block_of e) in
      let children = map (child_declaration p.name) p.children in
      let rest = children ++ equation_declarations p.name p.equations in
      elim (contains_cases (d.Symbol p.name sort.Production) it (d.Left p.name p.left ∷ rest) h) [
        | inl is ↦ production (record { role = role; production = p }) declared is
        | inr more ↦ elim (contains_cases (d.Left p.name p.left) it rest more) [
          | inl is ↦ left (record { role = role; production = p }) declared is
          | inr last ↦ elim (contains_append children (equation_declarations p.name p.equations) it last) [
            | inl one ↦ let x = contains_map (child_declaration p.name) p.children it one in
                child (record { role = role; production = p }) declared x.0 x.1 x.2
            | inr one ↦ in_block (record { name = p.name; equations = p.equations }) block one
          ]
        ]
      ]
  from_form item there (f.Aspect name es) e h =
      in_block (record { name = name; equations = es })
      (kept (λ (x : Item Pattern). block_of x.form) items item _ there (ap block_of e)) h

  pub own_declared : Contains (item_declarations items) it → IsOwnDeclared items it
  own_declared one =
      let x = contains_flat_map (λ (item : Item Pattern). form_declarations item.form) items it one in
      from_form x.0 x.1 x.0.form refl x.2
