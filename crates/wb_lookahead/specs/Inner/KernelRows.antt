-- The row of one kernel: the codes of its actions, and the terminals that have one.
use Rattle.std.specs.Prelude.{◌≡◌, ◌≢◌, ◌⊎◌, ◌↔◌, ℕ, Bool, false, List, length, map, replicate}
use Rattle.wb_termset.specs.Sets.{IsMember}
use Rattle.wb_grammar_theory.specs.declared.item.Item.{Item}
use Rattle.wb_items.specs.Kernels.{KernelsView, closure_of}
use Rattle.wb_lookahead.specs.declared.action.Action.{Action}
use Rattle.wb_lookahead.specs.declared.action.Action.TheVariants.{None}
use Rattle.wb_lookahead.specs.declared.rows.Row.{Row}
use Rattle.wb_lookahead.specs.Codes.{action_at}
use Rattle.wb_lookahead.specs.Contents.{action_in}
use Rattle.wb_lookahead.specs.Inner.Rows.{AddsItem, IsSoundRow, Puts, RowUpTo}

-- the actions that the codes stand for
abbrev pub actions_of : Row → List Action
actions_of row = map action_at row.codes.items

-- the set is that of the terminals on which there is an action
pub record ValidIn (actions : List Action) (set : List Bool) : Type 0 where
  pub len : length set ≡ length actions
  pub each : (t : ℕ) → IsMember set t ↔ (action_in actions t ≢ None)

-- there is no action, with room for so many terminals
pub record IsEmptyRow (count : ℕ) (row : Row) : Type 0 where
  pub codes : row.codes.items ≡ replicate count 0
  pub valid : row.valid ≡ replicate count false

-- each action of the row stands, and its set is that of the terminals with one
pub record IsSoundKernelRow (kernels : KernelsView) (s : ℕ) (row : Row) : Type 0 where
  pub actions : IsSoundRow kernels s (actions_of row)
  pub valid : ValidIn (actions_of row) row.valid

-- the action was put on the members of a set, these are in the row's set, and nothing else changed
pub record PutsIn (old : Row) (set : ℕ → Type 0) (action : Action) (new : Row) : Type 0 where
  pub actions : Puts (actions_of old) set action (actions_of new)
  pub len : length new.valid ≡ length old.valid
  pub each : (t : ℕ) → IsMember new.valid t ↔ (IsMember old.valid t ⊎ set t)

-- the actions stand for which the item asks, and the set is that of the terminals with one
pub record AddsItemTo (kernels : KernelsView) (s : ℕ) (item : Item) (old new : Row) : Type 0 where
  pub actions : AddsItem kernels s item (actions_of old) (actions_of new)
  pub valid : ValidIn (actions_of new) new.valid

-- the actions for which the items at the first places ask are there, each action there stands, and the set is that of the terminals with
-- one
pub record KernelRowUpTo (kernels : KernelsView) (s : ℕ) (row : Row) (n : ℕ) : Type 0 where
  pub actions : RowUpTo kernels s (actions_of row) n
  pub valid : ValidIn (actions_of row) row.valid

-- the row has the action at the kernel on each terminal, and its set is that of the terminals with one
abbrev pub IsKernelRow : KernelsView → ℕ → Row → Type 0
IsKernelRow kernels s row = KernelRowUpTo kernels s row (length (closure_of kernels s))
