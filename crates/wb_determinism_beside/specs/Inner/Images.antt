-- What terminals stand for, as a table.
use Rattle.std.specs.Prelude.{◌≡◌, ◌≢◌, ℕ, List, Option, Some, MatchOption, length, slice_get}
use Rattle.wb_determinism.specs.Numbers.{lifted}

-- the number that has become this one, where the first so many stay and the others move up by so many; or none
abbrev pub IsDownBy : (own more : ℕ) → ℕ → Option ℕ → Type 0
IsDownBy own more t o = MatchOption o ((n : ℕ) → t ≢ lifted own more n) (λ n. t ≡ lifted own more n)

-- for each of the first terminals the host's terminal for which it stands, or none
pub record AreImagesBy (own more : ℕ) (phi : ℕ → ℕ) (count : ℕ) (images : List (Option ℕ)) : Type 0 where
  pub len : length images ≡ count
  pub each : (t : ℕ) (o : Option ℕ) → slice_get images t ≡ Some o → IsDownBy own more (phi t) o
