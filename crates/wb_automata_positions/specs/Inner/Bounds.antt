-- Numbers below a bound.
use Rattle.std.specs.Prelude.{ℕ, List, All, ◌<◌, ◌+◌, zero, suc, [], ◌∷◌}
use Rattle.wb_automata_positions.specs.Rows.{row}
use Rattle.wb_regex.specs.Tree.{Tree}
use Rattle.wb_automata_positions.specs.Sizes.{size_of}

-- all leaves in the rows have places below this
abbrev pub AreBelow : ℕ → List (List ℕ) → Type 0
AreBelow m rows = (j : ℕ) → All (λ p. p < m) (row rows j)

-- how many nodes the first k trees have
abbrev pub bound_of : List Tree → ℕ → ℕ
bound_of [] k = 0
bound_of (t ∷ ts) zero = 0
bound_of (t ∷ ts) (suc k) = size_of t + bound_of ts k
