-- Numbers that are marked, one list after another.
use Rattle.std.proofs.Common.{◌≡◌, ◌<◌, ◌≤◌, ◌+◌, ◌∷◌, ◌++◌, [], ℕ, Bool, true, false, List, Option, Some, None, Contains, length, take}
use Rattle.std.proofs.Common.{get_or}
use Rattle.std.proofs.Common.{refl, sym, ap, ◌∙◌, subst, inl, inr, arith, replicate}
use Rattle.std.specs.Prelude.{◌↔◌, map, option_map}
use Rattle.std.specs.List.{flat_map}
use Rattle.std.proofs.lemmas.Grind.{flat_map-append}
use Rattle.std.proofs.lemmas.List.{take_more, take_all, append-nil, length-replicate, get_or-replicate}
use Rattle.std.proofs.lemmas.Option.{slice_get_within, get_or_from_slice_get}
use Rattle.wb_base.specs.Grammar.{GrammarView}
use Rattle.wb_base.specs.declared.symbol.Kind.TheVariants as kind
use Rattle.wb_lemmas.proofs.Members.{nothing_in, contains_append, append_contains_left, append_contains_right, contains_one}
use Rattle.wb_lemmas.proofs.Members.{contains_cases, contains_first, contains_later}
use Rattle.wb_syntax_resolved.specs.Grammar.{IsOfGrammar, IsIn}
use Rattle.wb_syntax_resolved.specs.declared.production.Child.{Child}
use Rattle.wb_syntax_resolved.specs.declared.production.ChildKind.{ChildKind}
use Rattle.wb_syntax_resolved.specs.declared.production.ChildKind.TheVariants as child
use Rattle.wb_syntax_resolved.specs.declared.production.Production.{Production}
use Rattle.wb_syntax_resolved.specs.declared.production.ProductionRole.{ProductionRole}
use Rattle.wb_syntax_resolved.specs.declared.production.ProductionRole.TheVariants.{Concrete, Abstract}
use Rattle.wb_syntax_resolved.specs.declared.resolved.ResolvedParts.{ResolvedParts}
use Rattle.wb_names_numbers_theory.proofs.OwnDeclared.{contains_flat_map, flat_map_contains}
use Rattle.wb_names_numbers_theory.proofs.RowLemmas.{contains_map, map_contains}
use Rattle.wb_names_rows.specs.Marks.{IsMarked}
use Rattle.wb_names_rows.specs.Inner.Marks.{Marks, child_numbers, role_numbers, start_numbers, grammar_numbers}

-- nothing is marked
pub marks_none : (flags : List Bool) → Marks [] flags flags
marks_none flags = record { len = refl; exact = λ k within. (λ h. inl h, λ h. elim h [ inl a ↦ a | inr b ↦ absurd (nothing_in k b) ]) }

-- some and then others
pub marks_both : (xs ys : List ℕ) (a b c : List Bool) → Marks xs a b → Marks ys b c → Marks (xs ++ ys) a c
marks_both xs ys a b c one two = record {
  len = two.len ∙ one.len;
  exact = λ k within. let inside : k < length b = omega (arith, within, one.len) in
      let p = one.exact k within in
      let q = two.exact k inside in (
        λ h. elim (q.0 h) [
          | inl x ↦ elim (p.0 x) [ inl y ↦ inl y | inr y ↦ inr (append_contains_left xs ys k y) ]
          | inr y ↦ inr (append_contains_right xs ys k y)
        ],
        λ h. q.1 (elim h [
          | inl y ↦ inl (p.1 (inl y))
          | inr z ↦ elim (contains_append xs ys k z) [ inl y ↦ inl (p.1 (inr y)) | inr y ↦ inr y ]
        ]),
      );
}

-- one number more
pub marks_more : (xs : List ℕ) (i : ℕ) (a b c : List Bool) → i < length xs → Marks (take i xs) a b → Marks (get_or xs i 0 ∷ []) b c
    → Marks (take (i + 1) xs) a c
marks_more xs i a b c within before more =
    subst (λ z. Marks z a c) (sym (take_more xs i 0 within)) (marks_both (take i xs) (get_or xs i 0 ∷ []) a b c before more)

-- one element's numbers more
pub marks_flat_more : {X : Type 0} (f : X → List ℕ) (xs : List X) (i : ℕ) (x : X) (a b c : List Bool) → i < length xs
    → x ≡ get_or xs i x → Marks (flat_map f (take i xs)) a b → Marks (f x) b c → Marks (flat_map f (take (i + 1) xs)) a c
marks_flat_more f xs i x a b c within is before more =
    subst (λ z. Marks z a c) (sym whole) (marks_both (flat_map f (take i xs)) (f x) a b c before more) where
      same : take (i + 1) xs ≡ take i xs ++ x ∷ []
      same = take_more xs i x within ∙ ap (λ z. take i xs ++ z ∷ []) (sym is)

      whole : flat_map f (take (i + 1) xs) ≡ flat_map f (take i xs) ++ f x
      whole = ap (flat_map f) same ∙ flat_map-append f (take i xs) (x ∷ []) ∙ ap (λ z. flat_map f (take i xs) ++ z) (append-nil (f x))

-- all elements' numbers
pub marks_flat_all : {X : Type 0} (f : X → List ℕ) (xs : List X) (i : ℕ) (a b : List Bool) → length xs ≤ i
    → Marks (flat_map f (take i xs)) a b → Marks (flat_map f xs) a b
marks_flat_all f xs i a b over before = subst (λ z. Marks (flat_map f z) a b) (take_all i xs over) before

-- nothing is marked among flags that are all false
pub unmarked : {A : Type 0} (n k : ℕ) → IsMarked (replicate n false) k → A
unmarked n k marked =
    let within : k < length (replicate n false) = slice_get_within (replicate n false) k true marked in
    let inside : k < n = subst (λ z. k < z) (length-replicate n false) within in
    let is : false ≡ true = sym (get_or-replicate n k false false inside) ∙ get_or_from_slice_get (replicate n false) k true false marked in
    absurd (cc is)

-- a child's number is of a tree
pub child_number : (is : ChildKind) (k : ℕ) → Contains (child_numbers is) k → is ≡ child.Value (kind.Tree k)
child_number (child.Value (kind.Tree n)) k has = ap (λ z. child.Value (kind.Tree z)) (sym ((contains_one n k).0 has))
child_number (child.Terminal n) k has = absurd (nothing_in k has)
child_number (child.Value kind.Int) k has = absurd (nothing_in k has)
child_number (child.Value kind.Bool) k has = absurd (nothing_in k has)
child_number (child.Value kind.Text) k has = absurd (nothing_in k has)

-- the numbers in a concrete production are of what is in it
pub role_number : (p : Production) (k : ℕ) → Contains (role_numbers p.role p) k → (p.role ≡ Concrete) × IsIn p k
role_number p k has = of p.role refl has where
  of : (role : ProductionRole) → p.role ≡ role → Contains (role_numbers role p) k → (p.role ≡ Concrete) × IsIn p k
  of Abstract is h = absurd (nothing_in k h)
  of Concrete is h = (
    is,
    elim (contains_cases p.left k (flat_map (λ (c : Child). child_numbers c.kind) p.children) h) [
      | inl here ↦ inl here
      | inr more ↦ let r = contains_flat_map (λ (c : Child). child_numbers c.kind) p.children k more in
          inr (subst (Contains (map (λ (c : Child). c.kind) p.children)) (child_number r.0.kind k r.2)
          (map_contains (λ (c : Child). c.kind) p.children r.0 r.1))
    ],
  )

-- and all of it
pub number_role : (p : Production) (k : ℕ) → p.role ≡ Concrete → IsIn p k → Contains (role_numbers p.role p) k
number_role p k is occurs = subst (λ z. Contains (role_numbers z p) k) (sym is) (elim occurs [
  | inl here ↦ subst (Contains (role_numbers Concrete p)) here (contains_first p.left (flat_map (λ (c : Child). child_numbers c.kind) p.children))
  | inr more ↦ let r = contains_map (λ (c : Child). c.kind) p.children (child.Value (kind.Tree k)) more in
      contains_later p.left k (flat_map (λ (c : Child). child_numbers c.kind) p.children)
      (flat_map_contains (λ (c : Child). child_numbers c.kind) p.children r.0 k r.1
      (subst (λ z. Contains (child_numbers z) k) (sym r.2) (contains_first k [])))
])

-- the start's number
pub start_number : (grammar : Option GrammarView) (k : ℕ) → Contains (start_numbers grammar) k
    ↔ (option_map (λ (g : GrammarView). g.start) grammar ≡ Some k)
start_number None k = (λ h. absurd (nothing_in k h), λ h. absurd (cc h))
start_number (Some g) k = (λ h. ap Some (sym ((contains_one g.start k).0 h)), λ h. let e : g.start ≡ k = cc in subst (Contains (g.start ∷ [])) e (contains_first g.start []))

-- the numbers of a base's grammar are those of it
pub numbers_of : (r : ResolvedParts) (k : ℕ) → Contains (grammar_numbers r) k ↔ IsOfGrammar r k
numbers_of r k = (forth, back) where
  rows : List ℕ
  rows = flat_map (λ (p : Production). role_numbers p.role p) r.attributes.productions

  forth : Contains (grammar_numbers r) k → IsOfGrammar r k
  forth h = elim (contains_append (start_numbers r.grammar) (r.extensible ++ rows) k h) [
    | inl start ↦ inl ((start_number r.grammar k).0 start)
    | inr more ↦ elim (contains_append r.extensible rows k more) [
      | inl listed ↦ inr (inl listed)
      | inr row ↦ let p = contains_flat_map (λ (p : Production). role_numbers p.role p) r.attributes.productions k row in
          let of = role_number p.0 k p.2 in
          inr (inr (record { production = p.0; listed = p.1; concrete = of.0; occurs = of.1 }))
    ]
  ]

  back : IsOfGrammar r k → Contains (grammar_numbers r) k
  back h = elim h [
    | inl start ↦ append_contains_left (start_numbers r.grammar) (r.extensible ++ rows) k ((start_number r.grammar k).1 start)
    | inr more ↦ append_contains_right (start_numbers r.grammar) (r.extensible ++ rows) k (elim more [
      | inl listed ↦ append_contains_left r.extensible rows k listed
      | inr row ↦ append_contains_right r.extensible rows k (flat_map_contains (λ (p : Production). role_numbers p.role p)
          r.attributes.productions row.production k row.listed (number_role row.production k row.concrete row.occurs))
    ])
  ]

-- where nothing was marked, exactly the nonterminals of the grammar are marked after all
pub marks_exact : (r : ResolvedParts) (n : ℕ) (flags a b c : List Bool) → flags ≡ replicate n false → Marks (start_numbers r.grammar) flags a
    → Marks r.extensible a b → Marks (flat_map (λ (p : Production). role_numbers p.role p) r.attributes.productions) b c
    → (k : ℕ) → k < n → IsMarked c k ↔ IsOfGrammar r k
marks_exact r n flags a b c are one two three k within =
    let rows = flat_map (λ (p : Production). role_numbers p.role p) r.attributes.productions in
    let all : Marks (grammar_numbers r) flags c
    = marks_both (start_numbers r.grammar) (r.extensible ++ rows) flags a c one (marks_both r.extensible rows a b c two three) in
    let inside : k < length flags = subst (λ z. k < z) (sym (ap length are ∙ length-replicate n false)) within in
    let exact = all.exact k inside in (
      λ h. elim (exact.0 h) [
        | inl before ↦ unmarked n k (subst (λ z. IsMarked z k) are before)
        | inr has ↦ (numbers_of r k).0 has
      ],
      λ h. exact.1 (inr ((numbers_of r k).1 h)),
    )
