-- What one element adds.
use Rattle.std.specs.Prelude.{◌≡◌, ◌⊎◌, ◌++◌, ◌∷◌, [], Bool, true, false, List}

-- what passes the test is added after the others, and else nothing
abbrev pub Adds : {A B : Type 0} → (A → Bool) → (A → B → Type 0) → A → List B → List B → Type 0
Adds {A} {B} test IsFound x old new =
    ((test x ≡ true) × (y : B) × (new ≡ old ++ y ∷ []) × IsFound x y) ⊎ ((test x ≡ false) × (new ≡ old))
