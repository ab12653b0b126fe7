-- Why a text isn't taken for its length.
use Rattle.std.specs.Prelude.{◌<◌, ℕ, List, length}
use Rattle.wb_session_library.specs.declared.refusal.CallRefusal.{CallRefusal}
use Rattle.wb_session_library.specs.declared.refusal.CallRefusal.TheVariants as c

-- the text is too long, or memory ran out
abbrev pub IsLengthRefusal : List ℕ → CallRefusal → Type 0
IsLengthRefusal text c.TextTooLong = 1048576 < length text
IsLengthRefusal text c.NoMemory = Unit {0}
IsLengthRefusal text other = ⊥
