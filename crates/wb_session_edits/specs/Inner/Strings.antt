-- Strings, and what comes in them after some of their bytes.
use Rattle.std.specs.Prelude.{◌≡◌, ℕ, List, [], ◌∷◌, ◌++◌}
use Rattle.wb_text_tokens.specs.Spelling.{IsString, IsStringBody, IsStringPart}

-- strings, with their quotes
abbrev pub Strings : List ℕ → Type 0
Strings l = (value : List ℕ) × IsString l value

-- strings without the opening quote
abbrev pub Tails : List ℕ → Type 0
Tails l = (body value : List ℕ) × IsStringBody body value × (l ≡ body ++ 34 ∷ [])

-- what makes such a one after these bytes
abbrev pub TailsAfter : List ℕ → List ℕ → Type 0
TailsAfter front l = Tails (front ++ l)

-- after these bytes, the text begins with what makes them stand for this byte
abbrev pub BeginsPart : List ℕ → List ℕ → ℕ → List ℕ → Type 0
BeginsPart front text byte after = (part : List ℕ) × IsStringPart (front ++ part) byte × (text ≡ part ++ after)

-- the text begins with a string of this value
abbrev pub BeginsString : List ℕ → List ℕ → List ℕ → Type 0
BeginsString text value after = (spelling : List ℕ) × IsString spelling value × (text ≡ spelling ++ after)

-- all but the rest of the text stands for this value between the quotes of a string
abbrev pub HasDecoded : List ℕ → List ℕ → List ℕ → Type 0
HasDecoded text rest value = (body : List ℕ) × IsStringBody body value × (text ≡ body ++ rest)
