-- The state of a link.
use Rattle.std.specs.Prelude.{ℕ, zero, suc, List, slice_index_or}
use Rattle.wb_session.specs.declared.stacks.Entry.{Entry}

-- what is past the end of a list
abbrev pub no_entry : Entry
no_entry = record { state = 0; below = 0; tree = 0 }

-- the state of the link's entry, and 0 at the bottom
abbrev pub state_in : List Entry → ℕ → ℕ
state_in entries zero = 0
state_in entries (suc k) = (slice_index_or entries k no_entry).state
