-- Texts by number, and numbers by text.
use Rattle.std.specs.Prelude.{◌≡◌, ℕ, List, All, Contains, Some, map, slice_get}

-- each entry has the number of its text, and each text has an entry
abbrev pub AreNumbered : List (List ℕ) → List (List ℕ × ℕ) → Type 0
AreNumbered texts entries = All (λ entry. slice_get texts entry.1 ≡ Some entry.0) entries × ((text : List ℕ) → Contains texts text → Contains
    (map (λ entry. entry.0) entries) text)
