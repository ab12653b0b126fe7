-- Laws of ranges of lists.
use Rattle.std.proofs.Common.{◌≡◌, ◌<◌, ◌≤◌, ◌+◌, ◌-◌, ℕ, suc, List, [], ◌∷◌, ◌++◌, length, get_or, take, drop, ◌∙◌, ap, arith, length-drop}
use Rattle.std.proofs.Common.{length-take-le, drop-drop, get_or-drop, take-suc}
use Rattle.std.specs.Prelude.{slice_range}
use Rattle.std.proofs.Math.Seq.{take-add}

module _ {X : Type 0} where
  pub range_length : (xs : List X) (a b : ℕ) → b ≤ length xs → length (slice_range xs a b) ≡ b - a
  range_length xs a b h = length-take-le (b - a) (drop a xs) (omega (arith, length-drop a xs))

  pub range_none : (xs : List X) (a b : ℕ) → b ≤ a → slice_range xs a b ≡ []
  range_none xs a b h = let e : b - a ≡ 0 = omega arith in ap (λ n. take n (drop a xs)) e

  pub range_snoc : (xs : List X) (a b : ℕ) (d : X) → a ≤ b → b < length xs →
      slice_range xs a (b + 1) ≡ slice_range xs a b ++ get_or xs b d ∷ []
  range_snoc xs a b d p q =
      let e : b + 1 - a ≡ suc (b - a) = omega arith in
      let at : a + (b - a) ≡ b = omega arith in
      ap (λ n. take n (drop a xs)) e
      ∙ (take-suc (drop a xs) (b - a) d (omega (arith, length-drop a xs))
      ∙ ap (λ y. slice_range xs a b ++ y ∷ []) (get_or-drop a xs (b - a) d ∙ ap (λ n. get_or xs n d) at))

  pub range_split : (xs : List X) (a m b : ℕ) → a ≤ m → m ≤ b → slice_range xs a b ≡ slice_range xs a m ++ slice_range xs m b
  range_split xs a m b p q =
      let e : b - a ≡ (m - a) + (b - m) = omega arith in
      let at : a + (m - a) ≡ m = omega arith in
      ap (λ n. take n (drop a xs)) e
      ∙ (take-add (m - a) (b - m) (drop a xs)
      ∙ ap (λ l. slice_range xs a m ++ take (b - m) l) (drop-drop (m - a) a xs ∙ ap (λ n. drop n xs) at))
