-- Which right side the parser takes at a kind.
use Rattle.std.specs.Prelude.{List, [], ◌∷◌, Bool, if◌then◌else◌, Option, Some, None}
use Rattle.wb_text_predictive.specs.Kinds.{is_member}

-- the right side that is chosen at a kind, where the lists are the kinds of each
abbrev pub choose : {K : Type 0} → (K → K → Bool) → {S : Type 0} → List S → List (List K) → K → Option S
choose same [] kss k = None
choose same (right ∷ rest) [] k = None
choose same (right ∷ rest) (ks ∷ kss) k = if is_member same k ks then Some right else choose same rest kss k
