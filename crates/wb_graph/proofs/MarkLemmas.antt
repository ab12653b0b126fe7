-- Marks that are closed one after another, starts that are kept, and the numbers of closed marks.
use Rattle.std.proofs.Common.{◌≡◌, ◌<◌, ◌≤◌, ◌+◌, ◌-◌, ◌⊎◌, ◌++◌, ◌∷◌, [], ℕ, List, Some, length, set, slice_get, inl, inr, refl, sym, ◌∙◌}
use Rattle.std.proofs.Common.{ap, subst, arith, length-set, length-append}
use Rattle.std.proofs.lemmas.Bool.{cases_eq}
use Rattle.std.proofs.lemmas.Option.{slice_get_within, same_Some}
use Rattle.wb_lemmas.proofs.Members.{contains_at, place_of}
use Rattle.wb_lemmas.proofs.Places.{at_push}
use Rattle.wb_graph.specs.Inner.Groups.{AreKept, Closes}
use Rattle.wb_graph.specs.declared.groups.Mark.{Mark}
use Rattle.wb_graph.specs.declared.groups.Mark.TheVariants.{Closed}
use Rattle.wb_graph.proofs.Places.{at_set_same, at_set_other}

-- one of the first vertices, so many
abbrev pub IsAmong : List ℕ → ℕ → ℕ → Type 0
IsAmong vertices i v = (k : ℕ) × (k < i) × (slice_get vertices k ≡ Some v)

-- the first vertices, so many, are closed with this number
pub record ClosesFirst (vertices : List ℕ) (i number : ℕ) (old new : List Mark) : Type 0 where
  pub len : length new ≡ length old
  pub each : (v : ℕ) → (IsAmong vertices i v × (slice_get new v ≡ Some (Closed number))) ⊎
      ((¬ IsAmong vertices i v) × (slice_get new v ≡ slice_get old v))

-- at first none is
pub closes_none : (vertices : List ℕ) (number : ℕ) (marks : List Mark) → ClosesFirst vertices 0 number marks marks
closes_none vertices number marks = record { len = refl; each = λ v. inr (λ among. (let less = among.1 in omega arith), refl) }

-- one more
pub closes_more : (vertices : List ℕ) (i number x : ℕ) (old new : List Mark) → slice_get vertices i ≡ Some x → x < length new →
    ClosesFirst vertices i number old new
    → ClosesFirst vertices (i + 1) number old (set new x (Closed number))
closes_more vertices i number x old new at within h = record {
  len = length-set new x (Closed number) ∙ h.len;
  each = λ v. elim (cases_eq v x) [
    | inl same ↦
        inl (
          (i, omega arith, at ∙ ap Some (sym same)),
          ap (slice_get (set new x (Closed number))) same
              ∙ at_set_same new x (Closed number) within,
        )
    | inr other ↦ elim (h.each v) [
      | inl is ↦ (let (k, less, there) = is.0 in inl ((k, omega arith, there), at_set_other new x v (Closed number) other ∙ is.1))
      | inr is ↦ inr (
        λ among. (let (k, less, there) = among in elim (cases_eq k i) [
          | inl last ↦ other (same_Some v x (sym (subst (λ n. slice_get vertices n ≡ Some v) last there) ∙ at))
          | inr before ↦ is.0 (k, omega arith, there)
        ]),
        at_set_other new x v (Closed number) other ∙ is.1,
      )
    ]
  ];
}

-- all
pub closes_all : (vertices : List ℕ) (i number : ℕ) (old new : List Mark) → length vertices ≤ i → ClosesFirst vertices i number old new →
    Closes vertices number old new
closes_all vertices i number old new past h = record {
  len = h.len;
  each = λ v. elim (h.each v) [
    | inl is ↦ (let (k, less, there) = is.0 in inl (contains_at vertices v k there, is.1))
    | inr is ↦ inr (
      λ has. (let (k, there) = place_of vertices v has in let within = slice_get_within vertices k v there in is.0
          (k, omega arith, there)),
      is.1,
    )
  ];
}

-- all from this number of starts on are after the place
abbrev pub AreHigh : List ℕ → ℕ → ℕ → Type 0
AreHigh starts place kept = (m p : ℕ) → slice_get starts m ≡ Some p → kept ≤ m → place < p

-- one more is
pub high_more : (starts : List ℕ) (place kept x : ℕ) → 0 < kept → slice_get starts (kept - 1) ≡ Some x → place < x →
    AreHigh starts place kept → AreHigh starts place (kept - 1)
high_more starts place kept x some at more high m p there low = elim (cases_eq m (kept - 1)) [
  | inl same ↦ subst (λ n. place < n) (same_Some x p (sym at ∙ subst (λ n. slice_get starts n ≡ Some p) same there)) more
  | inr other ↦ high m p there (omega arith)
]

-- the last of so many starts is at most the place, and so are those before it
pub kept_low : (starts : List ℕ) (place kept x : ℕ) →
    ((p q m n : ℕ) → m < n → slice_get starts m ≡ Some p → slice_get starts n ≡ Some q → p < q) → 0 < kept
    → kept ≤ length starts → slice_get starts (kept - 1) ≡ Some x → x ≤ place → AreHigh starts place kept → AreKept starts place kept
kept_low starts place kept x rise some within at low high = record {
  within = within;
  low = λ m p there less. elim (cases_eq m (kept - 1)) [
    | inl same ↦ (let e : p ≡ x = same_Some p x (sym (subst (λ n. slice_get starts n ≡ Some p) same there) ∙ at) in omega arith)
    | inr other ↦ (let before : p < x = rise p x m (kept - 1) (omega arith) there at in omega arith)
  ];
  high = high;
}

-- none is kept
pub kept_none : (starts : List ℕ) (place kept : ℕ) → kept ≡ 0 → AreHigh starts place kept → AreKept starts place kept
kept_none starts place kept is high = record { within = omega arith; low = λ m p there less. absurd (omega arith); high = high }

-- the numbers of the first marks, so many
pub record AreFirstNumbers (numbers : List ℕ) (marks : List Mark) (i : ℕ) : Type 0 where
  pub len : length numbers ≡ i
  pub each : (v n : ℕ) → slice_get numbers v ≡ Some n → slice_get marks v ≡ Some (Closed n)

-- one more
pub number_more : (numbers : List ℕ) (marks : List Mark) (i n : ℕ) → slice_get marks i ≡ Some (Closed n) → AreFirstNumbers numbers marks i →
    AreFirstNumbers (numbers ++ n ∷ []) marks (i + 1)
number_more numbers marks i n at h = record {
  len = length-append numbers (n ∷ []) ∙ ap (λ k. k + 1) h.len;
  each = λ v m there. elim (at_push numbers n m v there) [
    | inl before ↦ h.each v m before
    | inr last ↦
        let place : v ≡ i = last.0 ∙ h.len in
        subst (λ k. slice_get marks k ≡ Some (Closed m)) (sym place) (at ∙ ap (λ k. Some (Closed k)) last.1)
  ];
}
