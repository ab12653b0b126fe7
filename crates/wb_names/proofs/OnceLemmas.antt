-- What is declared once has one source: no two productions have one name, and no production forwards twice.
use Rattle.std.proofs.Common.{◌≡◌, ◌≤◌, ◌+◌, ◌++◌, ◌∷◌, inl, inr, [], ℕ, Bool, true, false, List, Some, Contains, map, length, cond}
use Rattle.std.proofs.Common.{ap, sym, refl, subst, ◌∙◌, arith}
use Rattle.std.specs.Prelude.{filter, flat_map}
use Rattle.std.proofs.lemmas.Option.{slice_get_within}
use Rattle.wb_lemmas.proofs.Members.{contains_at, contains_cases, contains_first, nothing_in, place_of}
use Rattle.wb_lemmas.proofs.Places.{append_keeps, append_after}
use Rattle.wb_syntax_resolved.specs.declared.attributes.Occurrence.{Occurrence}
use Rattle.wb_syntax_resolved.specs.declared.production.Production.{Production}
use Rattle.wb_syntax_resolved.specs.declared.resolved.ResolvedParts.{ResolvedParts}
use Rattle.wb_syntax.specs.declared.item.Item.{Item}
use Rattle.wb_syntax.specs.declared.item.ItemForm.{ItemForm}
use Rattle.wb_syntax.specs.declared.item.ItemForm.TheVariants as f
use Rattle.wb_syntax.specs.declared.pattern.Pattern.{Pattern}
use Rattle.wb_names_theory.specs.declared.declaration.Declaration.{Declaration}
use Rattle.wb_names_theory.specs.declared.declaration.Declaration.TheVariants as d
use Rattle.wb_names_theory.specs.declared.declaration.Sort.TheVariants as sort
use Rattle.wb_names_theory.specs.Declarations.{Items, ProductionDeclaration, productions, production_of}
use Rattle.wb_names_theory.specs.Declares.{base_declarations, item_declarations, declarations, production_declarations, form_declarations}
use Rattle.wb_names_theory.specs.Declares.{base_names, attribute_name, nonterminal_name}
use Rattle.wb_names_theory.specs.Duplicate.{AreSame}
use Rattle.wb_names_theory.specs.Duplicate as same
use Rattle.wb_names_theory.specs.Hold.{AreOnce}
use Rattle.wb_names_numbers_theory.proofs.DeclaredBy.{production_declared}
use Rattle.wb_names_numbers_theory.proofs.OwnDeclared.{flat_map_contains}
use Rattle.wb_names_numbers_theory.proofs.Selected.{kept_from, contains_filter}

-- declarations that are once, in parts
pub once_left : (xs ys : List Declaration) → AreOnce (xs ++ ys) → AreOnce xs
once_left xs ys once i j one other a b s = once i j one other (append_keeps xs ys i one a) (append_keeps xs ys j other b) s

pub once_right : (xs ys : List Declaration) → AreOnce (xs ++ ys) → AreOnce ys
once_right xs ys once i j one other a b s =
    let e = once (length xs + i) (length xs + j) one other (append_after xs ys i ∙ a) (append_after xs ys j ∙ b) s in
    omega (arith, e)

-- nothing is in both of two parts
pub once_apart : (xs ys : List Declaration) → AreOnce (xs ++ ys) → (x y : Declaration) → Contains xs x → Contains ys y → AreSame x y → ⊥
once_apart xs ys once x y has more s =
    let (i, a) = place_of xs x has in
    let (j, b) = place_of ys y more in
    let within = slice_get_within xs i x a in
    let e = once i (length xs + j) x y (append_keeps xs ys i x a) (append_after xs ys j ∙ b) s in
    absurd (omega (arith, within, e))

-- what declares the same is one
pub one_source : {X : Type 0} (g : X → List Declaration) (xs : List X) → AreOnce (flat_map g xs) → (x z : X) → Contains xs x
    → Contains xs z → (a b : Declaration) → Contains (g x) a → Contains (g z) b → AreSame a b → AreSame b a → x ≡ z
one_source g [] once x z has more a b in_x in_z s t = absurd (nothing_in x has)
one_source g (w ∷ ws) once x z has more a b in_x in_z s t =
    let apart = once_apart (g w) (flat_map g ws) once in
    elim (contains_cases w x ws has) [
      | inl first ↦ elim (contains_cases w z ws more) [
        | inl second ↦ sym first ∙ second
        | inr later ↦ absurd (apart a b (subst (λ k. Contains (g k) a) (sym first) in_x) (flat_map_contains g ws z b later in_z) s)
      ]
      | inr before ↦ elim (contains_cases w z ws more) [
        | inl second ↦ absurd (apart b a (subst (λ k. Contains (g k) b) (sym second) in_z) (flat_map_contains g ws x a before in_x) t)
        | inr later ↦ one_source g ws (once_right (g w) (flat_map g ws) once) x z before later a b in_x in_z s t
      ]
    ]

-- of what is the same for a test, one is there at most
pub one_kept : (test : Declaration → Bool) → ((x y : Declaration) → test x ≡ true → test y ≡ true → AreSame x y) → (xs : List Declaration)
    → AreOnce xs → length (filter test xs) ≤ 1
one_kept test same_all [] once = omega arith
one_kept test same_all (x ∷ xs) once =
    from (test x) refl (one_kept test same_all xs (once_right (x ∷ []) xs once)) where
      none_left : test x ≡ true → (ys : List Declaration) → filter test xs ≡ ys → length ys ≡ 0
      none_left e [] is = refl
      none_left e (y ∷ ys) is =
          let has : Contains (filter test xs) y = subst (λ k. Contains k y) (sym is) (contains_first y ys) in
          let found = contains_filter test xs y has in
          absurd (once_apart (x ∷ []) xs once x y (contains_first x []) found.0 (same_all x y e found.1))

      from : (b : Bool) → test x ≡ b → length (filter test xs) ≤ 1 → length (filter test (x ∷ xs)) ≤ 1
      from true e few =
          let kept : filter test (x ∷ xs) ≡ x ∷ filter test xs = ap (λ k. cond k (x ∷ filter test xs) (filter test xs)) e in
          let rest = none_left e (filter test xs) refl in
          let len : length (filter test (x ∷ xs)) ≡ length (x ∷ filter test xs) = ap length kept in
          omega (arith, len, rest)
      from false e few =
          let kept : filter test (x ∷ xs) ≡ filter test xs = ap (λ k. cond k (x ∷ filter test xs) (filter test xs)) e in
          let len : length (filter test (x ∷ xs)) ≡ length (filter test xs) = ap length kept in
          omega (arith, len, few)

-- a production that an item declares
own_symbol : (form : ItemForm Pattern) (x : ProductionDeclaration) → production_of form ≡ Some x
    → Contains (form_declarations form) (d.Symbol x.production.name sort.Production)
own_symbol (f.Lexical role name pattern) x e = absurd (cc e)
own_symbol (f.Plain plain) x e = absurd (cc e)
own_symbol (f.Aspect name es) x e = absurd (cc e)
own_symbol (f.Production role p) x e =
    let is : record { role = role; production = p } ≡ x = cc in
    let declared = form_declarations (f.Production role p) in
    subst (λ (k : ProductionDeclaration). Contains declared (d.Symbol k.production.name sort.Production)) is
    (contains_at declared (d.Symbol p.name sort.Production) 0 refl)

-- a production of the base
base_symbol : (base : ResolvedParts) (p : Production) → Contains (production_declarations base p) (d.Symbol p.name sort.Production)
base_symbol base p = contains_at (production_declarations base p) (d.Symbol p.name sort.Production) 0 refl

symbols_same : (a b : List ℕ) → a ≡ b → AreSame (d.Symbol a sort.Production) (d.Symbol b sort.Production)
symbols_same a b e = subst (λ k. AreSame (d.Symbol a sort.Production) (d.Symbol k sort.Production)) e same.symbol

module _ (base : ResolvedParts) (items : Items) (once : AreOnce (declarations base items)) where
  -- a production of the base, by its name
  pub one_base : (p q : Production) → Contains base.attributes.productions p → Contains base.attributes.productions q → p.name ≡ q.name
      → p ≡ q
  one_base p q has more e =
      let front = base_names base
      ++ map (λ (x : Occurrence). d.Occurrence (attribute_name base x.attribute) (nonterminal_name base x.nonterminal))
      base.attributes.occurrences in
      let rules = flat_map (production_declarations base) base.attributes.productions in
      one_source (production_declarations base) base.attributes.productions
      (once_right front rules (once_left (base_declarations base) (item_declarations items) once)) p q has more
      (d.Symbol p.name sort.Production) (d.Symbol q.name sort.Production) (base_symbol base p) (base_symbol base q)
      (symbols_same p.name q.name e) (symbols_same q.name p.name (sym e))

  -- a production of the file, by its name
  pub one_own : (x y : ProductionDeclaration) → Contains (productions items) x → Contains (productions items) y
      → x.production.name ≡ y.production.name → x ≡ y
  one_own x y has more e =
      let a = kept_from (λ (z : Item Pattern). production_of z.form) items x has in
      let b = kept_from (λ (z : Item Pattern). production_of z.form) items y more in
      let item : a.0 ≡ b.0 = one_source (λ (z : Item Pattern). form_declarations z.form) items
      (once_right (base_declarations base) (item_declarations items) once) a.0 b.0 a.1 b.1 (d.Symbol x.production.name sort.Production)
      (d.Symbol y.production.name sort.Production) (own_symbol a.0.form x a.2) (own_symbol b.0.form y b.2)
      (symbols_same x.production.name y.production.name e) (symbols_same y.production.name x.production.name (sym e)) in
      let both : Some x ≡ Some y = sym a.2 ∙ (ap (λ (z : Item Pattern). production_of z.form) item ∙ b.2) in
      cc

  -- none is both the base's and the file's
  pub not_both : (p : Production) (x : ProductionDeclaration) → Contains base.attributes.productions p → Contains (productions items) x
      → p.name ≡ x.production.name → ⊥
  not_both p x has more e =
      let a = kept_from (λ (z : Item Pattern). production_of z.form) items x more in
      once_apart (base_declarations base) (item_declarations items) once (d.Symbol p.name sort.Production)
      (d.Symbol x.production.name sort.Production) (production_declared base p has)
      (flat_map_contains (λ (z : Item Pattern). form_declarations z.form) items a.0 (d.Symbol x.production.name sort.Production) a.1
      (own_symbol a.0.form x a.2)) (symbols_same p.name x.production.name e)
