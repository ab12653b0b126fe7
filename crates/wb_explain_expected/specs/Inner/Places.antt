-- Refusals for another reason than the grammar, or at another place.
use Rattle.std.specs.Prelude.{◌≢◌, ℕ}
use Rattle.wb_reader.specs.declared.refusal.SpecRefusal.{SpecRefusal}
use Rattle.wb_reader.specs.declared.refusal.SpecRefusal.TheVariants.{TooLong, WrongFormat, Syntax, BadRegex, MatchesEmpty, NoMemory}

-- the bytes are refused, and not for want of memory, and not at this place as none of the grammar
abbrev pub IsElsewhere : ℕ → SpecRefusal → Type 0
IsElsewhere at (Syntax place) = place ≢ at
IsElsewhere at (NoMemory error) = ⊥
IsElsewhere at TooLong = Unit {0}
IsElsewhere at WrongFormat = Unit {0}
IsElsewhere at (BadRegex place) = Unit {0}
IsElsewhere at (MatchesEmpty name) = Unit {0}
