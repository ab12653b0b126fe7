-- What holds of the first elements of a list, with one more, and of all.
use Rattle.std.proofs.Common.{◌≡◌, ◌<◌, ◌≤◌, ◌+◌, ◌∙◌, ℕ, List, Some, length, get_or, sym, subst, inl, inr, arith}
use Rattle.std.specs.Prelude.{Contains, slice_get}
use Rattle.std.proofs.lemmas.Bool.{cases_eq}
use Rattle.std.proofs.lemmas.Option.{same_Some, slice_get-get_or, slice_get_within}
use Rattle.wb_lemmas.proofs.Members.{place_of}

-- what holds of each of the first elements
abbrev pub EachBefore : {X : Type 0} → (X → Type 0) → List X → ℕ → Type 0
EachBefore {X} P xs n = (j : ℕ) (x : X) → j < n → slice_get xs j ≡ Some x → P x

-- one more
pub before_more : {X : Type 0} (P : X → Type 0) (xs : List X) (n : ℕ) (d : X) → n < length xs → EachBefore P xs n → P (get_or xs n d)
    → EachBefore P xs (n + 1)
before_more P xs n d within before here j x below at = elim (cases_eq j n) [
  | inl same ↦
      subst P (same_Some (get_or xs n d) x (sym (slice_get-get_or xs n d within) ∙ subst (λ (i : ℕ). slice_get xs i ≡ Some x) same at)) here
  | inr other ↦ before j x (omega (arith, below, other)) at
]

-- all
pub before_all : {X : Type 0} (P : X → Type 0) (xs : List X) (n : ℕ) → length xs ≤ n → EachBefore P xs n → (x : X) → Contains xs x → P x
before_all P xs n past before x has =
    let (j, at) = place_of xs x has in
    before j x (let within = slice_get_within xs j x at in omega (arith, within, past)) at
