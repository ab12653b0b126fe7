-- Keys with one more among them.
use Rattle.std.specs.Prelude.{◌≡◌, Bool, true, false, List, [], ◌∷◌, ◌++◌, Contains}
use Rattle.wb_recheck_entries.specs.Keys.{Key}

-- the key was there and nothing changed, or it is new and after the others, as the answer says
abbrev pub IsInserted : List Key → Key → List Key → Bool → Type 0
IsInserted old key new true = (¬ Contains old key) × (new ≡ old ++ key ∷ [])
IsInserted old key new false = Contains old key × (new ≡ old)
