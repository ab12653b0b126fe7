-- Rows that are longer, and lists with more.
use Rattle.std.specs.Prelude.{◌≡◌, ◌≤◌, ◌<◌, ◌⊎◌, ◌++◌, ℕ, suc, List, length, replicate}
use Rattle.std.specs.List.{slice_set}
use Rattle.wb_eval_rows.specs.Rows.{at, row_at}

-- maybe rows without numbers were added, to this one at most
pub record HasSameNumbers (old new : List (List ℕ)) (row : ℕ) : Type 0 where
  pub same : (i column : ℕ) → at new i column ≡ at old i column
  pub most : (length new ≡ length old) ⊎ (length new ≤ suc row)

-- a row has maybe zeros after it, and is longer than a column
pub record IsLonger (old new : List (List ℕ)) (row column : ℕ) : Type 0 where
  pub zeros : ℕ
  pub longer : new ≡ slice_set old row (row_at old row ++ replicate zeros 0)
  pub within : column < length (row_at new row)

-- a list has more after it
abbrev pub IsMore : List ℕ → List ℕ → Type 0
IsMore old new = (more : List ℕ) × (new ≡ old ++ more)
