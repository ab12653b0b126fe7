-- What a reading of bytes has found.
use Rattle.std.specs.Prelude.{◌≡◌, ℕ, List, []}
use Rattle.wb_text_predictive.specs.declared.reading.Outcome.{Outcome}
use Rattle.wb_text_predictive.specs.declared.reading.Outcome.TheVariants.{Whole, Stopped}
use Rattle.wb_terms.specs.declared.event.Event.{Event}
use Rattle.wb_terms.specs.Term.{Term}
use Rattle.wb_terms.specs.TermText.{IsTermText, IsFirstFault}
use Rattle.wb_terms.specs.Inner.Events.{term_onto}

-- the bytes are a term, and this is what is met in it; or they have their first error there
abbrev pub IsTermReading : List ℕ → Outcome (List Event) → Type 0
IsTermReading bytes (Whole events) = (term : Term) × IsTermText bytes term × (term_onto term [] ≡ events)
IsTermReading bytes (Stopped place) = IsFirstFault bytes place
