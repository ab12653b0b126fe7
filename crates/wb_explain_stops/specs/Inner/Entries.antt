-- Lines that name terminals.
use Rattle.std.specs.Prelude.{◌≡◌, ◌++◌, ℕ, List}
use Rattle.std.specs.List.{AllZip}
use Rattle.wb_explain_stops.specs.Said.{IsEntry, all_of}

-- after what was there comes a line that names the terminal
abbrev pub HasEntry : List (List ℕ) → ℕ → List ℕ → List ℕ → Type 0
HasEntry names t old new = (entry : List ℕ) × IsEntry names t entry × (new ≡ old ++ entry)

-- after what was there comes one for each of these terminals, in their order
abbrev pub HasEntries : List (List ℕ) → List ℕ → List ℕ → List ℕ → Type 0
HasEntries names terminals old new =
    (entries : List (List ℕ)) × AllZip (IsEntry names) terminals entries × (new ≡ old ++ all_of entries)
