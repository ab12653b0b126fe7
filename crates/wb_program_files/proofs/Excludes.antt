-- Few extensions aren't many.
use Rattle.std.proofs.Common.{◌<◌, ◌≤◌, ℕ, List, length, arith}

-- what is too many is no more than is taken
pub not_few : (extensions : List (List ℕ)) → 64 < length extensions → length extensions ≤ 64 → ⊥
not_few extensions many few = omega (arith, many, few)
