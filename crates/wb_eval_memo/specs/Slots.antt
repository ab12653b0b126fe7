-- Values by site and attribute: the first attributes have a cell at each site, and the values of others are found by numbers.
use Rattle.std.specs.Prelude.{◌≡◌, ◌≤◌, ◌<◌, ◌+◌, ◌*◌, ℕ, zero, suc, List, Option, Some, None, length, slice_get, slice_index_or, nat_lt}
use Rattle.std.specs.Prelude.{if◌then◌else◌}
use Rattle.wb_values.specs.declared.value.Value.{Value}
use Rattle.wb_values.specs.declared.value.Value.TheVariants as value
use Rattle.wb_eval_rows.specs.Sparse.{number_at, IsForest}
use Rattle.wb_eval_memo.specs.declared.cell.Cell.{Cell}
use Rattle.wb_eval_memo.specs.declared.cell.Cell.TheVariants as cell
use Rattle.wb_eval_memo.specs.declared.slots.Slots.{Slots}

-- the value of a number, from 1 on
abbrev pub numbered : List Value → ℕ → Option Value
numbered values zero = None
numbered values (suc n) = slice_get values n

-- the value that a cell stands for beside these, where it is known
abbrev pub known_in : List Value → Cell → Option Value
known_in large cell.Unknown = None
known_in large (cell.Int number) = Some (value.Int number)
known_in large (cell.Bool truth) = Some (value.Bool truth)
known_in large (cell.Tree number) = Some (value.Tree (record { 0 = number }))
known_in large (cell.Large place) = slice_get large place

-- the cell at a place
abbrev pub cell_at : List Cell → ℕ → Cell
cell_at cells place = slice_index_or cells place cell.Unknown

-- the value of an attribute at a site, where it is known
abbrev pub slot_value : Slots → ℕ → ℕ → Option Value
slot_value s site attribute = if nat_lt attribute s.width then known_in s.large.items (cell_at s.near.items (site * s.width + attribute))
    else numbered s.large.items (number_at s.far site attribute)

-- so many sites have cells, no other has numbers, and each place and each number is that of a value
pub record AreSlots (sites : ℕ) (s : Slots) : Type 0 where
  pub cells : length s.near.items ≡ sites * s.width
  pub places : (n k : ℕ) → cell_at s.near.items n ≡ cell.Large k → k < length s.large.items
  pub far : IsForest s.far
  pub numbers : (i x n : ℕ) → number_at s.far i x ≡ suc n → n < length s.large.items
  pub past : (i x : ℕ) → sites ≤ i → number_at s.far i x ≡ 0

-- the site is there
abbrev pub HasSite : Slots → ℕ → Type 0
HasSite s site = (sites : ℕ) × AreSlots sites s × (site < sites)
