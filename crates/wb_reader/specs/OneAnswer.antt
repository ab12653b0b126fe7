-- That bytes have at most one answer as a specification.
use Rattle.std.specs.Prelude.{◌≡◌, ℕ, List}
use Rattle.wb_syntax.specs.SpecText.{SpecView}
use Rattle.wb_reader.specs.declared.refusal.SpecRefusal.{SpecRefusal}
use Rattle.wb_reader.specs.Refusals.{HasCause, IsAcceptedText}
use Rattle.wb_reader.specs.declared.refusal.SpecRefusal.TheVariants.{TooLong, WrongFormat, Syntax, BadRegex, MatchesEmpty, NoMemory}

-- the refusal is that memory ran out
abbrev pub IsNoMemory : SpecRefusal → Type 0
IsNoMemory TooLong = ⊥
IsNoMemory WrongFormat = ⊥
IsNoMemory (Syntax place) = ⊥
IsNoMemory (BadRegex place) = ⊥
IsNoMemory (MatchesEmpty name) = ⊥
IsNoMemory (NoMemory error) = Unit {0}

-- out of memory aside, no refusal has a cause where the bytes are taken, and two that have one are the same
abbrev pub HasOneAnswer : Type 0
HasOneAnswer =
    ((bytes : List ℕ) (spec : SpecView) (e : SpecRefusal) → IsAcceptedText bytes spec → HasCause bytes e → IsNoMemory e)
    × ((bytes : List ℕ) (e f : SpecRefusal) → HasCause bytes e → HasCause bytes f → ¬ IsNoMemory e → ¬ IsNoMemory f → e ≡ f)
