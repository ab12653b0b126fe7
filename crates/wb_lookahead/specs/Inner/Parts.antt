-- Tables in the making: what was made for the first kernels.
use Rattle.std.specs.Prelude.{◌≡◌, ◌<◌, ◌++◌, ◌∷◌, ℕ, List, [], length, map, slice_index_or}
use Rattle.wb_items.specs.Kernels.{KernelsView}
use Rattle.wb_lookahead.specs.declared.build_tables.Parts.{Parts}
use Rattle.wb_lookahead.specs.Codes.{action_at}
use Rattle.wb_lookahead.specs.Matrices.{AreMatrices, MatrixView}
use Rattle.wb_lookahead.specs.Inner.Rows.{AreGotos, IsRowOf}
use Rattle.wb_lookahead.specs.Tables.{IsValidSet}

-- the parts are those of the first so many kernels
pub record ArePartsUpTo (kernels : KernelsView) (parts : Parts) (n : ℕ) : Type 0 where
  pub matrices : AreMatrices kernels.grammar.terminals parts.actions parts.gotos n
  pub nonterminals : parts.gotos.width ≡ kernels.grammar.nonterminals
  pub valid_len : length parts.valid.items ≡ n
  pub actions : (s : ℕ) → s < n → IsRowOf kernels s (map action_at (slice_index_or parts.actions.rows s []))
  pub gotos : (s : ℕ) → s < n → AreGotos kernels s (slice_index_or parts.gotos.rows s []) kernels.grammar.nonterminals
  pub valid : (s : ℕ) → s < n → IsValidSet kernels s (slice_index_or parts.valid.items s [])

-- the matrix has this row after those of the other
abbrev pub HasRow : MatrixView → List ℕ → MatrixView → Type 0
HasRow old row new = new ≡ record { width = old.width; rows = old.rows ++ row ∷ [] }
