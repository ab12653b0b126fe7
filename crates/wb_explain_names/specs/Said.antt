-- What is said of a name: words, and places at which a token of the file, or of its host, is the name.
use Rattle.std.specs.Prelude.{◌≡◌, ◌==◌, ◌++◌, ◌∷◌, [], ℕ, List, map, if◌then◌else◌}
use Rattle.wb_explain_places.specs.Place.{Shows}
use Rattle.wb_reader_places.specs.Tokens.{IsNameAt}

-- a byte, or a question mark in the place of a caret
abbrev pub without_caret : ℕ → ℕ
without_caret b = if b == 94 then 63 else b

-- after what was there come words, which have no caret
abbrev pub SaysWords : List ℕ → List ℕ → Type 0
SaysWords old new = (words : List ℕ) × (new ≡ old ++ map without_caret words)

-- after what was there comes an empty line, and the lines that show a place at which a token of the text is the name
abbrev pub ShowsName : List ℕ → List ℕ → List ℕ → List ℕ → List ℕ → Type 0
ShowsName file text name old new = (at : ℕ) × IsNameAt text name at × Shows file text at (old ++ 10 ∷ []) new

-- after what was there come words without a caret, and places of the name in the file and in its host; so each caret is under a name
pub data Says (file text host_file host name old : List ℕ) : List ℕ → Type 0 where
  nothing : {new : List ℕ} → new ≡ old → Says file text host_file host name old new
  words : {middle new : List ℕ} → Says file text host_file host name old middle → SaysWords middle new
      → Says file text host_file host name old new
  own_place : {middle new : List ℕ} → Says file text host_file host name old middle → ShowsName file text name middle new
      → Says file text host_file host name old new
  host_place : {middle new : List ℕ} → Says file text host_file host name old middle → ShowsName host_file host name middle new
      → Says file text host_file host name old new
