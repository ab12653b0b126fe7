-- Where a name is in a text, as a word of its own.
use Rattle.std.specs.Prelude.{◌≡◌, ◌⊎◌, ◌-◌, ℕ, List, ◌++◌, drop, false, length, slice_index}
use Rattle.wb_base.specs.Identifiers.{is_name_byte}

-- a name can begin at this place: it is the first, or the byte before it is in no name
abbrev pub BeginsName : List ℕ → ℕ → Type 0
BeginsName text at = (at ≡ 0) ⊎ (is_name_byte (slice_index text (at - 1)) ≡ false)

-- a name can end before this: nothing comes after it, or a byte that is in no name
abbrev pub EndsName : List ℕ → Type 0
EndsName after = (length after ≡ 0) ⊎ (is_name_byte (slice_index after 0) ≡ false)

-- the name is at this place, and is no part of a longer one
pub record IsUse (text name : List ℕ) (at : ℕ) : Type 0 where
  pub after : List ℕ
  pub here : drop at text ≡ name ++ after
  pub begins : BeginsName text at
  pub ends : EndsName after
