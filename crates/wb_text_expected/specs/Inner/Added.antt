-- What adding one kind does to those that can come.
use Rattle.std.specs.Prelude.{◌≡◌, List, ◌∷◌, ◌++◌}
use Rattle.wb_text_expected.specs.Expected.{AreThose}

-- whatever comes of the kinds after it, the ones before with what comes of this kind and of them are the ones now with what comes of them
abbrev pub Adds : {K : Type 0} → (K → Type 0) → K → List K → List K → Type 0
Adds {K = K} P kind old new = (asked rest : List K) → AreThose P asked rest →
    (more : List K) × AreThose P (kind ∷ asked) more × (old ++ more ≡ new ++ rest)
