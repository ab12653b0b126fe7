-- Steps down that differ.
use Rattle.std.specs.Prelude.{◌≢◌, ◌⊎◌, ℕ}
use Rattle.wb_eval_memo.specs.declared.sites.Step.{Step}

-- it isn't this step from this site
abbrev pub IsOther : ℕ → Step → ℕ → Step → Type 0
IsOther parent step i other = (i ≢ parent) ⊎ (other ≢ step)
