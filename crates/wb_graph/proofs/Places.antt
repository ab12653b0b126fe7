-- Elements of lists by their place, after a read, a write and a cut.
use Rattle.std.proofs.Common.{◌≡◌, ◌≢◌, ◌<◌, ◌-◌, ℕ, List, Some, length, get_or, set, take, slice_get, refl, sym, ◌∙◌, subst, arith}
use Rattle.std.proofs.lemmas.Grind.{common_steps}
use Rattle.std.proofs.lemmas.Option.{slice_get_read, slice_get-get_or, get_or_from_slice_get, gets}

-- a number that was read, with any default
pub read_at : (xs : List ℕ) (i x : ℕ) → i < length xs → x ≡ get_or xs i x → x ≡ get_or xs i 0
read_at xs i x within e = e ∙ sym (get_or_from_slice_get xs i (get_or xs i x) 0 (slice_get-get_or xs i x within))

-- the last number of a list, as it was read
pub read_last : (xs : List ℕ) (n x : ℕ) → n ≡ length xs → 0 < length xs → x ≡ get_or xs (n - 1) x → slice_get xs (length xs - 1) ≡ Some x
read_last xs n x len some e =
    let within : length xs - 1 < length xs = omega arith in
    slice_get_read xs (length xs) (length xs - 1) x refl within (subst (λ k. x ≡ get_or xs (k - 1) x) len e)

module _ {X : Type 0} where
  -- an element after a write to its place
  pub at_set_same : (xs : List X) (i : ℕ) (x : X) → i < length xs → slice_get (set xs i x) i ≡ Some x
  at_set_same xs i x within = grind (arith, gets, common_steps)

  -- and after a write to another
  pub at_set_other : (xs : List X) (i j : ℕ) (x : X) → j ≢ i → slice_get (set xs i x) j ≡ slice_get xs j
  at_set_other xs i j x other = grind (arith, gets, common_steps)

  -- an element before a cut
  pub take_keeps : (xs : List X) (n i : ℕ) (x : X) → i < n → slice_get xs i ≡ Some x → slice_get (take n xs) i ≡ Some x
  take_keeps xs n i x before at = grind (arith, gets, common_steps)
