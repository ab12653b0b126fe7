-- Lines of attributes that can be asked.
use Rattle.std.specs.Prelude.{◌≡◌, ◌⊎◌, ◌++◌, ℕ, List, All}
use Rattle.wb_compose_files.specs.Certified.{CertifiedParts}
use Rattle.wb_explain_stops.specs.Said.{all_of}
use Rattle.wb_explain_language.specs.Asked.{IsAskedLine}

-- after what was there comes the line of an attribute that can be asked, or nothing
abbrev pub AddsAsked : CertifiedParts → List ℕ → List ℕ → Type 0
AddsAsked c old new = (new ≡ old) ⊎ ((line : List ℕ) × IsAskedLine c line × (new ≡ old ++ line))

-- after what was there come lines of attributes that can be asked
abbrev pub HasAsked : CertifiedParts → List ℕ → List ℕ → Type 0
HasAsked c old new = (lines : List (List ℕ)) × All (IsAskedLine c) lines × (new ≡ old ++ all_of lines)
