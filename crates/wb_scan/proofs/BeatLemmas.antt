-- Which form beats which, as it is tested.
use Rattle.std.proofs.Common.{◌≡◌, ◌≢◌, ◌<◌, ◌≤◌, ◌+◌, ◌⊎◌, ℕ, List, [], ◌∷◌, length, get_or, refl, sym, ◌∙◌, ap, subst, inl, inr, arith}
use Rattle.std.specs.Prelude.{◌↔◌, Bool, true, false, not, Contains, Some, slice_get, map}
use Rattle.std.proofs.lemmas.Bool.{cases_lt}
use Rattle.std.proofs.Math.Bool.{beq}
use Rattle.std.proofs.lemmas.List.{get_or_default}
use Rattle.std.proofs.lemmas.Option.{slice_get_within}
use Rattle.wb_lemmas.proofs.Places.{at_within, at_append}
use Rattle.wb_scan_theory.specs.declared.form.Form.{Form}
use Rattle.wb_scan_theory.specs.Languages.{LanguageView, forms_of, bare}
use Rattle.wb_scan_theory.specs.Winners.{Beats, by_prefix, both_bare, both_prefixed, BeatsAt}
use Rattle.wb_scan_theory.proofs.BareLemmas.{layout_bare}
use Rattle.wb_scan.specs.Landings.{IsChampion}

-- the form of a layout terminal has no prefix
pub layout_form : (l : LanguageView) (place : ℕ) (f : Form) → length l.forms ≤ place → slice_get (forms_of l) place ≡ Some f →
    f.prefix ≡ []
layout_form l place f le at = elim (at_append l.forms (map bare l.layout) f place at) [
  | inl here ↦ absurd (let lt : place < length l.forms = slice_get_within l.forms place f here in omega arith)
  | inr (j, is, there) ↦ layout_bare l.layout j f there
]

pub beq_differs : (a b : Bool) → not (beq a b) ≡ true → a ≢ b
beq_differs true true e same = cc
beq_differs true false e same = cc
beq_differs false true e same = cc
beq_differs false false e same = cc

pub beq_same : (a b : Bool) → not (beq a b) ≡ false → a ≡ b
beq_same true true e = refl
beq_same true false e = cc
beq_same false true e = cc
beq_same false false e = refl

nil_or : (x : List ℕ) → (x ≡ []) ⊎ (x ≢ [])
nil_or [] = inl refl
nil_or (c ∷ x) = inr (λ e. cc)

differ : (one two : Bool) → one ≢ two → two ≡ true → one ≡ true → ⊥
differ one two ne e f = ne (f ∙ sym e)

false_or : (one two : Bool) → one ≢ two → (two ≡ true → ⊥) → one ≡ true
false_or true two ne out = refl
false_or false true ne out = absurd (out refl)
false_or false false ne out = absurd (ne refl)

-- whether the form of a place has a prefix
abbrev pub TellsPrefix : LanguageView → ℕ → Bool → Type 0
TellsPrefix l place b = (f : Form) → slice_get (forms_of l) place ≡ Some f → (b ≡ true) ↔ (f.prefix ≢ [])

-- of a prefixed form and a bare one the prefixed one beats the other
pub beats_differ : (l : LanguageView) (place other : ℕ) (one two : Bool) → place < length (forms_of l) → other < length (forms_of l) →
    TellsPrefix l place one → TellsPrefix l other two → one ≢ two → (one ≡ true) ↔ BeatsAt l place other
beats_differ l place other one two lt lt' tells tells' ne = (there, back)
  where
    there : one ≡ true → BeatsAt l place other
    there e =
        let (f, at) = at_within (forms_of l) place lt in
        let (g, to) = at_within (forms_of l) other lt' in
        record { one = f; two = g; at = at; to = to; beats = by_prefix ((tells f at).0 e) (bare_of g to (nil_or g.prefix)) }
      where
        bare_of : (g : Form) → slice_get (forms_of l) other ≡ Some g → (g.prefix ≡ []) ⊎ (g.prefix ≢ []) → g.prefix ≡ []
        bare_of g to (inl is) = is
        bare_of g to (inr some) = absurd (differ one two ne ((tells' g to).1 some) e)

    by : (f g : Form) → slice_get (forms_of l) place ≡ Some f → slice_get (forms_of l) other ≡ Some g → Beats l f g → one ≡ true
    by f g at to (by_prefix some e) = (tells f at).1 some
    by f g at to (both_bare e e' c) = false_or one two ne (λ is. (tells' g to).0 is e')
    by f g at to (both_prefixed some some' c) = (tells f at).1 some

    back : BeatsAt l place other → one ≡ true
    back b = by b.one b.two b.at b.to b.beats

-- two bare or two prefixed forms go by preference
pub beats_same : (l : LanguageView) (place other : ℕ) (one two r : Bool) (t u : ℕ) → place < length (forms_of l) →
    other < length (forms_of l) → TellsPrefix l place one → TellsPrefix l other two → one ≡ two →
    ((f : Form) → slice_get (forms_of l) place ≡ Some f → t ≡ f.terminal) →
    ((f : Form) → slice_get (forms_of l) other ≡ Some f → u ≡ f.terminal) → (r ≡ true) ↔ Contains l.preferences (t, u) →
    (r ≡ true) ↔ BeatsAt l place other
beats_same l place other one two r t u lt lt' tells tells' same t_is u_is prefers = (there, back)
  where
    named : (f g : Form) → slice_get (forms_of l) place ≡ Some f → slice_get (forms_of l) other ≡ Some g →
        Contains l.preferences (t, u) → Contains l.preferences (f.terminal, g.terminal)
    named f g at to c = subst (λ z. Contains l.preferences (z, g.terminal)) (t_is f at)
        (subst (λ z. Contains l.preferences (t, z)) (u_is g to) c)

    unnamed : (f g : Form) → slice_get (forms_of l) place ≡ Some f → slice_get (forms_of l) other ≡ Some g →
        Contains l.preferences (f.terminal, g.terminal) → Contains l.preferences (t, u)
    unnamed f g at to c = subst (λ z. Contains l.preferences (t, z)) (sym (u_is g to))
        (subst (λ z. Contains l.preferences (z, g.terminal)) (sym (t_is f at)) c)

    kinds : (f g : Form) → slice_get (forms_of l) place ≡ Some f → slice_get (forms_of l) other ≡ Some g →
        Contains l.preferences (t, u) → (f.prefix ≡ []) ⊎ (f.prefix ≢ []) → (g.prefix ≡ []) ⊎ (g.prefix ≢ []) → Beats l f g
    kinds f g at to c (inl e) (inl e') = both_bare e e' (named f g at to c)
    kinds f g at to c (inr some) (inr some') = both_prefixed some some' (named f g at to c)
    kinds f g at to c (inl e) (inr some') = absurd ((tells f at).0 (same ∙ (tells' g to).1 some') e)
    kinds f g at to c (inr some) (inl e') = absurd ((tells' g to).0 (sym same ∙ (tells f at).1 some) e')

    there : r ≡ true → BeatsAt l place other
    there e =
        let (f, at) = at_within (forms_of l) place lt in
        let (g, to) = at_within (forms_of l) other lt' in
        record { one = f; two = g; at = at; to = to; beats = kinds f g at to (prefers.0 e) (nil_or f.prefix) (nil_or g.prefix) }

    by : (f g : Form) → slice_get (forms_of l) place ≡ Some f → slice_get (forms_of l) other ≡ Some g → Beats l f g → r ≡ true
    by f g at to (by_prefix some e) = absurd ((tells' g to).0 (sym same ∙ (tells f at).1 some) e)
    by f g at to (both_bare e e' c) = prefers.1 (unnamed f g at to c)
    by f g at to (both_prefixed some some' c) = prefers.1 (unnamed f g at to c)

    back : BeatsAt l place other → r ≡ true
    back b = by b.one b.two b.at b.to b.beats

-- the form beats each other one of the first i
abbrev pub BeatsBelow : LanguageView → ℕ → List ℕ → ℕ → Type 0
BeatsBelow l place places i = (k : ℕ) → k < i → get_or places k 0 ≢ place → BeatsAt l place (get_or places k 0)

pub beats_more : (l : LanguageView) (place : ℕ) (places : List ℕ) (i : ℕ) →
    (get_or places i 0 ≢ place → BeatsAt l place (get_or places i 0)) →
    BeatsBelow l place places i → BeatsBelow l place places (i + 1)
beats_more l place places i here before k lt ne = elim (cases_lt k i) [
  | inl early ↦ before k early ne
  | inr late ↦ (let e : k ≡ i = omega arith in
      subst (λ z. BeatsAt l place (get_or places z 0)) (sym e) (here (λ is. ne (ap (λ z. get_or places z 0) e ∙ is))))
]

pub beats_end : (l : LanguageView) (place : ℕ) (places : List ℕ) (i : ℕ) → length places ≤ i → BeatsBelow l place places i →
    (other : ℕ) → Contains places other → other ≢ place → BeatsAt l place other
beats_end l place places i le before other (k, lt, is) ne =
    let same : get_or places k 0 ≡ other = get_or_default places k 0 other lt ∙ is in
    subst (BeatsAt l place) same (before k (omega arith) (λ e. ne (sym same ∙ e)))

-- none of the first i beats each other one
abbrev pub NoneBelow : LanguageView → List ℕ → ℕ → Type 0
NoneBelow l places i = (k : ℕ) → k < i → ¬ IsChampion l places (get_or places k 0)

pub none_more : (l : LanguageView) (places : List ℕ) (i : ℕ) → ¬ IsChampion l places (get_or places i 0) → NoneBelow l places i →
    NoneBelow l places (i + 1)
none_more l places i here before k lt c = elim (cases_lt k i) [
  | inl early ↦ before k early c
  | inr late ↦ here (subst (λ z. IsChampion l places (get_or places z 0)) (let e : k ≡ i = omega arith in e) c)
]

pub none_end : (l : LanguageView) (places : List ℕ) (i : ℕ) → length places ≤ i → NoneBelow l places i → (place : ℕ) →
    ¬ IsChampion l places place
none_end l places i le before place c =
    let (k, lt, is) = c.listed in
    before k (omega arith) (subst (IsChampion l places) (sym (get_or_default places k 0 place lt ∙ is)) c)
