-- The printed name of a production.
use Rattle.std.proofs.Common.{◌≡◌, ◌<◌, ◌≤◌, ℕ, zero, suc, List, [], ◌∷◌, IfSome, length, slice_get, refl, arith}
use Rattle.wb_values.specs.Signature.{Signature}
use Rattle.wb_terms.specs.Printed.{name_of}

-- the name of a production that is there
pub name_there : (ss : List Signature) (n : ℕ) (x : List ℕ) → n < length ss → IfSome (slice_get ss n) (λ (s : Signature). x ≡ s.name)
    → x ≡ name_of ss n
name_there [] n x lt h = absurd (omega (arith, lt))
name_there (s ∷ ss) zero x lt h = h
name_there (s ∷ ss) (suc n) x lt h = name_there ss n x (omega (arith, lt)) h

-- and of one that isn't
pub name_past : (ss : List Signature) (n : ℕ) → length ss ≤ n → [] ≡ name_of ss n
name_past [] n le = refl
name_past (s ∷ ss) zero le = absurd (omega (arith, le))
name_past (s ∷ ss) (suc n) le = name_past ss n (omega (arith, le))
