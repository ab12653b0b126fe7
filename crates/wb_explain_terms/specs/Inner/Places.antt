-- Refusals for another reason than the grammar, or at another place.
use Rattle.std.specs.Prelude.{◌≢◌, ℕ}
use Rattle.wb_terms.specs.declared.refusal.TermRefusal.{TermRefusal}
use Rattle.wb_terms.specs.declared.refusal.TermRefusal.TheVariants.{Bad, Unknown, WrongChild, NoMemory}

-- the bytes are refused, and not for want of memory, and not at this place as none of the grammar
abbrev pub IsElsewhere : ℕ → TermRefusal → Type 0
IsElsewhere at (Bad place) = place ≢ at
IsElsewhere at (Unknown place) = Unit {0}
IsElsewhere at (WrongChild place) = Unit {0}
IsElsewhere at (NoMemory error) = ⊥
