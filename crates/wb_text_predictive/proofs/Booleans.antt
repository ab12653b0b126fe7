-- What a conjunction, a disjunction and an implication of tests say of their parts.
use Rattle.std.proofs.Common.{◌≡◌, Bool, true, false, ◌&&◌, ◌||◌, cond, Option, Some, ◌⊎◌, refl}
use Rattle.wb_text_predictive.specs.Kinds.{implies}

-- an implication, used
pub implied : (a b : Bool) → implies a b ≡ true → a ≡ true → b ≡ true
implied true b h k = h
implied false b h k = cc

-- a choice whose test fails
pub skipped : {X : Type 0} (b : Bool) (x : X) (o : Option X) (y : X) → (b ≡ true → ⊥) → o ≡ Some y → cond b (Some x) o ≡ Some y
skipped true x o y h e = absurd (h refl)
skipped false x o y h e = e
