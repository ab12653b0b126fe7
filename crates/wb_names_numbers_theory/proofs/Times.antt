-- How often something is declared: once at most, where declarations are once.
use Rattle.std.proofs.Common.{◌≡◌, ◌≤◌, ◌<◌, ◌+◌, ◌++◌, ◌∷◌, [], ℕ, zero, suc, Bool, true, false, List, Some, Contains, map, slice_get, ap}
use Rattle.std.proofs.Common.{inl, inr}
use Rattle.std.proofs.Common.{sym, refl, subst, ◌∙◌, arith, ◌&&◌}
use Rattle.std.specs.Prelude.{flat_map}
use Rattle.std.specs.Str.{bytes_eq}
use Rattle.std.proofs.lemmas.Bool.{false≢true, cases_lt}
use Rattle.wb_lemmas.proofs.Booleans.{and_parts}
use Rattle.wb_lemmas.proofs.Members.{contains_cases, nothing_in}
use Rattle.wb_lemmas.proofs.Places.{nothing_at}
use Rattle.wb_syntax_resolved.specs.declared.attributes.Direction.{Direction}
use Rattle.wb_names_theory.specs.declared.declaration.Declaration.{Declaration}
use Rattle.wb_names_theory.specs.declared.declaration.Declaration.TheVariants as d
use Rattle.wb_names_theory.specs.declared.declaration.Labelled.{Labelled}
use Rattle.wb_names_theory.specs.declared.declaration.Site.{Site}
use Rattle.wb_names_theory.specs.declared.declaration.Site.TheVariants as site
use Rattle.wb_names_theory.specs.declared.declaration.Sort.{Sort}
use Rattle.wb_names_theory.specs.Duplicate.{AreSame}
use Rattle.wb_names_theory.specs.Duplicate as same
use Rattle.wb_names_theory.specs.Hold.{AreOnce}
use Rattle.wb_names_numbers_theory.proofs.Selected.{same_bytes, bytes_same}

-- sites are the same
abbrev pub same_site : Site → Site → Bool
same_site site.Top site.Top = true
same_site (site.Label l) (site.Label m) = bytes_eq l m
same_site site.Forward site.Forward = true
same_site one other = false

site_same : (x y : Site) → same_site x y ≡ true → x ≡ y
site_same site.Top site.Top e = refl
site_same site.Top (site.Label m) e = absurd (false≢true e)
site_same site.Top site.Forward e = absurd (false≢true e)
site_same (site.Label l) site.Top e = absurd (false≢true e)
site_same (site.Label l) (site.Label m) e = ap site.Label (same_bytes l m e)
site_same (site.Label l) site.Forward e = absurd (false≢true e)
site_same site.Forward site.Top e = absurd (false≢true e)
site_same site.Forward (site.Label m) e = absurd (false≢true e)
site_same site.Forward site.Forward e = refl

pub same_site_itself : (x : Site) → same_site x x ≡ true
same_site_itself site.Top = refl
same_site_itself (site.Label l) = bytes_same l l refl
same_site_itself site.Forward = refl

-- two declarations are of the same symbol, attribute, occurrence, label or equation
abbrev pub is_same : Declaration → Declaration → Bool
is_same (d.Symbol a s) (d.Symbol b t) = bytes_eq a b
is_same (d.Attribute a s) (d.Attribute b t) = bytes_eq a b
is_same (d.Occurrence a m) (d.Occurrence b k) = bytes_eq a b && bytes_eq m k
is_same (d.Label p l s) (d.Label q m t) = bytes_eq p q && bytes_eq l m
is_same (d.Equation p a s) (d.Equation q b t) = bytes_eq p q && (bytes_eq a b && same_site s t)
is_same (d.Extensible a) (d.Extensible b) = bytes_eq a b
is_same (d.Preference a m) (d.Preference b k) = bytes_eq a b && bytes_eq m k
is_same one other = false

symbol_same : (a : List ℕ) (s : Sort) (x : Declaration) → is_same (d.Symbol a s) x ≡ true → (t : Sort) × (x ≡ d.Symbol a t)
symbol_same a s (d.Symbol name is) e = (is, ap (λ k. d.Symbol k is) (sym (same_bytes a name e)))
symbol_same a s (d.Attribute y0 y1) e = absurd (false≢true e)
symbol_same a s (d.Occurrence y0 y1) e = absurd (false≢true e)
symbol_same a s (d.Left y0 y1) e = absurd (false≢true e)
symbol_same a s (d.Label y0 y1 y2) e = absurd (false≢true e)
symbol_same a s (d.Equation y0 y1 y2) e = absurd (false≢true e)
symbol_same a s (d.Forward y0) e = absurd (false≢true e)
symbol_same a s (d.Start y0) e = absurd (false≢true e)
symbol_same a s (d.Extensible y0) e = absurd (false≢true e)
symbol_same a s (d.Closed y0) e = absurd (false≢true e)
symbol_same a s (d.ForwardNeeds y0) e = absurd (false≢true e)
symbol_same a s (d.Preference y0 y1) e = absurd (false≢true e)

attribute_same : (a : List ℕ) (s : Direction) (x : Declaration) → is_same (d.Attribute a s) x ≡ true
    → (t : Direction) × (x ≡ d.Attribute a t)
attribute_same a s (d.Attribute name direction) e = (direction, ap (λ k. d.Attribute k direction) (sym (same_bytes a name e)))
attribute_same a s (d.Symbol y0 y1) e = absurd (false≢true e)
attribute_same a s (d.Occurrence y0 y1) e = absurd (false≢true e)
attribute_same a s (d.Left y0 y1) e = absurd (false≢true e)
attribute_same a s (d.Label y0 y1 y2) e = absurd (false≢true e)
attribute_same a s (d.Equation y0 y1 y2) e = absurd (false≢true e)
attribute_same a s (d.Forward y0) e = absurd (false≢true e)
attribute_same a s (d.Start y0) e = absurd (false≢true e)
attribute_same a s (d.Extensible y0) e = absurd (false≢true e)
attribute_same a s (d.Closed y0) e = absurd (false≢true e)
attribute_same a s (d.ForwardNeeds y0) e = absurd (false≢true e)
attribute_same a s (d.Preference y0 y1) e = absurd (false≢true e)

occurrence_same : (b k : List ℕ) (x : Declaration) → is_same (d.Occurrence b k) x ≡ true → x ≡ d.Occurrence b k
occurrence_same b k (d.Occurrence a m) e = let p = and_parts (bytes_eq b a) (bytes_eq k m) e in λ j. d.Occurrence (sym (same_bytes b a p.0)
    j) (sym (same_bytes k m p.1) j)
occurrence_same b k (d.Symbol y0 y1) e = absurd (false≢true e)
occurrence_same b k (d.Attribute y0 y1) e = absurd (false≢true e)
occurrence_same b k (d.Left y0 y1) e = absurd (false≢true e)
occurrence_same b k (d.Label y0 y1 y2) e = absurd (false≢true e)
occurrence_same b k (d.Equation y0 y1 y2) e = absurd (false≢true e)
occurrence_same b k (d.Forward y0) e = absurd (false≢true e)
occurrence_same b k (d.Start y0) e = absurd (false≢true e)
occurrence_same b k (d.Extensible y0) e = absurd (false≢true e)
occurrence_same b k (d.Closed y0) e = absurd (false≢true e)
occurrence_same b k (d.ForwardNeeds y0) e = absurd (false≢true e)
occurrence_same b k (d.Preference y0 y1) e = absurd (false≢true e)

label_same : (q m : List ℕ) (s : Labelled) (x : Declaration) → is_same (d.Label q m s) x ≡ true → (t : Labelled) × (x ≡ d.Label q m t)
label_same q m s (d.Label p l is) e = let r = and_parts (bytes_eq q p) (bytes_eq m l) e in (
  is,
  λ j. d.Label (sym (same_bytes q p r.0) j)
      (sym (same_bytes m l r.1) j) is,
)
label_same q m s (d.Symbol y0 y1) e = absurd (false≢true e)
label_same q m s (d.Attribute y0 y1) e = absurd (false≢true e)
label_same q m s (d.Occurrence y0 y1) e = absurd (false≢true e)
label_same q m s (d.Left y0 y1) e = absurd (false≢true e)
label_same q m s (d.Equation y0 y1 y2) e = absurd (false≢true e)
label_same q m s (d.Forward y0) e = absurd (false≢true e)
label_same q m s (d.Start y0) e = absurd (false≢true e)
label_same q m s (d.Extensible y0) e = absurd (false≢true e)
label_same q m s (d.Closed y0) e = absurd (false≢true e)
label_same q m s (d.ForwardNeeds y0) e = absurd (false≢true e)
label_same q m s (d.Preference y0 y1) e = absurd (false≢true e)

equation_same : (q b : List ℕ) (s : Site) (x : Declaration) → is_same (d.Equation q b s) x ≡ true → x ≡ d.Equation q b s
equation_same q b s (d.Equation p a at) e = let r = and_parts (bytes_eq q p) (bytes_eq b a && same_site s at) e in let t = and_parts
    (bytes_eq b a) (same_site s at) r.1 in λ j. d.Equation (sym (same_bytes q p r.0) j) (sym (same_bytes b a t.0) j) (sym (site_same s at
    t.1) j)
equation_same q b s (d.Symbol y0 y1) e = absurd (false≢true e)
equation_same q b s (d.Attribute y0 y1) e = absurd (false≢true e)
equation_same q b s (d.Occurrence y0 y1) e = absurd (false≢true e)
equation_same q b s (d.Left y0 y1) e = absurd (false≢true e)
equation_same q b s (d.Label y0 y1 y2) e = absurd (false≢true e)
equation_same q b s (d.Forward y0) e = absurd (false≢true e)
equation_same q b s (d.Start y0) e = absurd (false≢true e)
equation_same q b s (d.Extensible y0) e = absurd (false≢true e)
equation_same q b s (d.Closed y0) e = absurd (false≢true e)
equation_same q b s (d.ForwardNeeds y0) e = absurd (false≢true e)
equation_same q b s (d.Preference y0 y1) e = absurd (false≢true e)

extensible_same : (b : List ℕ) (x : Declaration) → is_same (d.Extensible b) x ≡ true → x ≡ d.Extensible b
extensible_same b (d.Extensible name) e = ap d.Extensible (sym (same_bytes b name e))
extensible_same b (d.Symbol y0 y1) e = absurd (false≢true e)
extensible_same b (d.Attribute y0 y1) e = absurd (false≢true e)
extensible_same b (d.Occurrence y0 y1) e = absurd (false≢true e)
extensible_same b (d.Left y0 y1) e = absurd (false≢true e)
extensible_same b (d.Label y0 y1 y2) e = absurd (false≢true e)
extensible_same b (d.Equation y0 y1 y2) e = absurd (false≢true e)
extensible_same b (d.Forward y0) e = absurd (false≢true e)
extensible_same b (d.Start y0) e = absurd (false≢true e)
extensible_same b (d.Closed y0) e = absurd (false≢true e)
extensible_same b (d.ForwardNeeds y0) e = absurd (false≢true e)
extensible_same b (d.Preference y0 y1) e = absurd (false≢true e)

preference_same : (b k : List ℕ) (x : Declaration) → is_same (d.Preference b k) x ≡ true → x ≡ d.Preference b k
preference_same b k (d.Preference a m) e = let p = and_parts (bytes_eq b a) (bytes_eq k m) e in λ j. d.Preference (sym (same_bytes b a p.0)
    j) (sym (same_bytes k m p.1) j)
preference_same b k (d.Symbol y0 y1) e = absurd (false≢true e)
preference_same b k (d.Attribute y0 y1) e = absurd (false≢true e)
preference_same b k (d.Occurrence y0 y1) e = absurd (false≢true e)
preference_same b k (d.Left y0 y1) e = absurd (false≢true e)
preference_same b k (d.Label y0 y1 y2) e = absurd (false≢true e)
preference_same b k (d.Equation y0 y1 y2) e = absurd (false≢true e)
preference_same b k (d.Forward y0) e = absurd (false≢true e)
preference_same b k (d.Start y0) e = absurd (false≢true e)
preference_same b k (d.Extensible y0) e = absurd (false≢true e)
preference_same b k (d.Closed y0) e = absurd (false≢true e)
preference_same b k (d.ForwardNeeds y0) e = absurd (false≢true e)

-- two that are the same as a third
pub same_both : (x y z : Declaration) → is_same x y ≡ true → is_same x z ≡ true → AreSame y z
same_both (d.Symbol a s) y z e f =
    let u = symbol_same a s y e in
    let v = symbol_same a s z f in
    subst (λ k. AreSame k z) (sym u.1) (subst (AreSame (d.Symbol a u.0)) (sym v.1) same.symbol)
same_both (d.Attribute a s) y z e f =
    let u = attribute_same a s y e in
    let v = attribute_same a s z f in
    subst (λ k. AreSame k z) (sym u.1) (subst (AreSame (d.Attribute a u.0)) (sym v.1) same.attribute)
same_both (d.Occurrence a m) y z e f =
    subst (λ k. AreSame k z) (sym (occurrence_same a m y e)) (subst (AreSame (d.Occurrence a m)) (sym (occurrence_same a m z f))
    same.occurrence)
same_both (d.Label p l s) y z e f =
    let u = label_same p l s y e in
    let v = label_same p l s z f in
    subst (λ k. AreSame k z) (sym u.1) (subst (AreSame (d.Label p l u.0)) (sym v.1) same.label)
same_both (d.Equation p a at) y z e f =
    subst (λ k. AreSame k z) (sym (equation_same p a at y e)) (subst (AreSame (d.Equation p a at)) (sym (equation_same p a at z f))
    same.equation)
same_both (d.Left p m) y z e f = absurd (false≢true e)
same_both (d.Forward p) y z e f = absurd (false≢true e)
same_both (d.Start name) y z e f = absurd (false≢true e)
same_both (d.Extensible a) y z e f =
    subst (λ k. AreSame k z) (sym (extensible_same a y e)) (subst (AreSame (d.Extensible a)) (sym (extensible_same a z f)) same.extensible)
same_both (d.Closed name) y z e f = absurd (false≢true e)
same_both (d.ForwardNeeds name) y z e f = absurd (false≢true e)
same_both (d.Preference a m) y z e f =
    subst (λ k. AreSame k z) (sym (preference_same a m y e)) (subst (AreSame (d.Preference a m)) (sym (preference_same a m z f))
    same.preference)

-- how often something is declared
abbrev pub once_where : Bool → ℕ
once_where true = 1
once_where false = 0

abbrev pub times : Declaration → List Declaration → ℕ
times x [] = 0
times x (y ∷ ys) = once_where (is_same x y) + times x ys

pub times_append : (x : Declaration) (ys zs : List Declaration) → times x (ys ++ zs) ≡ times x ys + times x zs
times_append x [] zs = omega arith
times_append x (y ∷ ys) zs = let r = times_append x ys zs in omega (arith, r)

pub times_map : {X : Type 0} (x : Declaration) (f g : X → Declaration) → ((y : X) → is_same x (f y) ≡ is_same x (g y)) → (ys : List X)
    → times x (map f ys) ≡ times x (map g ys)
times_map x f g same_each [] = refl
times_map x f g same_each (y ∷ ys) =
    let first : once_where (is_same x (f y)) ≡ once_where (is_same x (g y)) = ap once_where (same_each y) in
    let r = times_map x f g same_each ys in
    omega (arith, first, r)

pub times_flat_map : {X : Type 0} (x : Declaration) (f : X → List Declaration) (ys : List X) (y : X) → Contains ys y
    → times x (f y) ≤ times x (flat_map f ys)
times_flat_map x f [] y has = absurd (nothing_in y has)
times_flat_map {X} x f (z ∷ ys) y has =
    let both = times_append x (f z) (flat_map f ys) in
    elim (contains_cases z y ys has) [
      | inl is ↦ let first : times x (f z) ≡ times x (f y) = ap (λ k. times x (f k)) is in omega (arith, both, first)
      | inr more ↦ let r = times_flat_map x f ys y more in omega (arith, both, r)
    ]

-- something that is there is at a place
some_where : (x y : Declaration) (ys : List Declaration) (b : Bool) → is_same x y ≡ b → (0 < times x ys → (j : ℕ) × (z : Declaration)
    × (slice_get ys j ≡ Some z) × (is_same x z ≡ true)) → 0 < once_where b + times x ys
    → (j : ℕ) × (z : Declaration) × (slice_get (y ∷ ys) j ≡ Some z) × (is_same x z ≡ true)
some_where x y ys true e rest some = (0, y, refl, e)
some_where x y ys false e rest some = let r = rest (omega (arith, some)) in (suc r.0, r.1, r.2, r.3)

somewhere : (x : Declaration) (ys : List Declaration) → 0 < times x ys → (j : ℕ) × (z : Declaration) × (slice_get ys j ≡ Some z)
    × (is_same x z ≡ true)
somewhere x [] some = absurd (omega (arith, some))
somewhere x (y ∷ ys) some = some_where x y ys (is_same x y) refl (somewhere x ys) some

-- where declarations are once, each is declared once at most
once_or_not : (x y : Declaration) (ys : List Declaration) (b : Bool) → is_same x y ≡ b → AreOnce (y ∷ ys) → times x ys ≤ 1
    → once_where b + times x ys ≤ 1
once_or_not x y ys false e once few = omega (arith, few)
once_or_not x y ys true e once few = from (times x ys) refl where
  from : (k : ℕ) → times x ys ≡ k → 1 + times x ys ≤ 1
  from zero is = omega (arith, is)
  from (suc k) is =
      let some : 0 < times x ys = omega (arith, is) in
      let r = somewhere x ys some in
      let no : 0 ≡ suc r.0 = once 0 (suc r.0) y r.1 refl r.2 (same_both x y r.1 e r.3) in
      absurd (omega (arith, no))

pub times_once : (x : Declaration) (ys : List Declaration) → AreOnce ys → times x ys ≤ 1
times_once x [] once = omega arith
times_once x (y ∷ ys) once =
    once_or_not x y ys (is_same x y) refl once (times_once x ys (λ i j one other a b s.
    let e : suc i ≡ suc j = once (suc i) (suc j) one other a b s in omega (arith, e)))

-- what is at two places is there twice
at_least : (x : Declaration) (ys : List Declaration) (i : ℕ) (y : Declaration) → slice_get ys i ≡ Some y → is_same x y ≡ true
    → 1 ≤ times x ys
at_least x [] i y at e = absurd (nothing_at y i at)
at_least x (z ∷ ys) zero y at e =
    let is : z ≡ y = cc in
    let one : once_where (is_same x z) ≡ 1 = ap (λ k. once_where (is_same x k)) is ∙ ap once_where e in
    omega (arith, one)
at_least x (z ∷ ys) (suc i) y at e = let r = at_least x ys i y at e in omega (arith, r)

pub at_two : (x : Declaration) (ys : List Declaration) (i j : ℕ) (y z : Declaration) → i < j → slice_get ys i ≡ Some y
    → slice_get ys j ≡ Some z → is_same x y ≡ true → is_same x z ≡ true → 2 ≤ times x ys
at_two x [] i j y z before a b e f = absurd (nothing_at y i a)
at_two x (w ∷ ys) zero zero y z before a b e f = absurd (omega (arith, before))
at_two x (w ∷ ys) zero (suc j) y z before a b e f =
    let is : w ≡ y = cc in
    let one : once_where (is_same x w) ≡ 1 = ap (λ k. once_where (is_same x k)) is ∙ ap once_where e in
    let r = at_least x ys j z b f in
    omega (arith, one, r)
at_two x (w ∷ ys) (suc i) zero y z before a b e f = absurd (omega (arith, before))
at_two x (w ∷ ys) (suc i) (suc j) y z before a b e f = let r = at_two x ys i j y z (omega (arith, before)) a b e f in omega (arith, r)

-- so what is there once at most is at one place
pub one_place : (x : Declaration) (ys : List Declaration) → times x ys ≤ 1 → (i j : ℕ) (y z : Declaration) → slice_get ys i ≡ Some y
    → slice_get ys j ≡ Some z → is_same x y ≡ true → is_same x z ≡ true → i ≡ j
one_place x ys few i j y z a b e f =
    elim (cases_lt i j) [
      | inl before ↦ let r = at_two x ys i j y z before a b e f in absurd (omega (arith, few, r))
      | inr not_before ↦ elim (cases_lt j i) [
        | inl after ↦ let r = at_two x ys j i z y after b a f e in absurd (omega (arith, few, r))
        | inr not_after ↦ omega (arith, not_before, not_after)
      ]
    ]
