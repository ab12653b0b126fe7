-- Occurrences by nonterminal.
use Rattle.std.specs.Prelude.{◌≡◌, ◌↔◌, ℕ, List, [], Some, Contains, slice_get, slice_index_or}
use Rattle.wb_syntax_resolved.specs.declared.attributes.Occurrence.{Occurrence}

-- the occurrence of this number is on the nonterminal
abbrev pub IsNumberOn : List Occurrence → ℕ → ℕ → Type 0
IsNumberOn occurrences nonterminal number =
    (o : Occurrence) × (slice_get occurrences number ≡ Some o) × (o.nonterminal ≡ nonterminal)

-- the row of a nonterminal has the numbers of the occurrences on it, and no others
abbrev pub IsIndexOf : List Occurrence → List (List ℕ) → Type 0
IsIndexOf occurrences rows = (m k : ℕ) → Contains (slice_index_or rows m []) k ↔ IsNumberOn occurrences m k
