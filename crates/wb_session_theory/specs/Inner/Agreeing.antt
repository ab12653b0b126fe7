-- Texts that agree so far, by what is in front.
use Rattle.std.specs.Prelude.{◌≡◌, ◌≤◌, ℕ, List, ◌++◌, length}

-- the texts agree in their first e bytes, and are equal where one of them has fewer
pub data AgreeUpTo (e : ℕ) (text other : List ℕ) : Type 0 where
  equal : text ≡ other → AgreeUpTo e text other
  in_front : (front rest rest' : List ℕ) → text ≡ front ++ rest → other ≡ front ++ rest' → e ≤ length front → AgreeUpTo e text other
