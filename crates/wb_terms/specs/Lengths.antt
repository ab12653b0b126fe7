-- Which texts are too long to be printed.
use Rattle.std.specs.Prelude.{◌<◌, ℕ, List, length}
use Rattle.wb_terms.specs.declared.refusal.PrintRefusal.{PrintRefusal}
use Rattle.wb_terms.specs.declared.refusal.PrintRefusal.TheVariants.{TooLong, NoMemory}

-- a text that isn't printed is too long, or there is no memory
abbrev pub IsTooLong : List ℕ → PrintRefusal → Type 0
IsTooLong printed TooLong = 16777216 < length printed
IsTooLong printed (NoMemory e) = Unit {0}
