-- Short names of productions, each with an opening parenthesis.
use Rattle.std.specs.Prelude.{◌≡◌, ◌<◌, ◌≤◌, ℕ, List, [], ◌∷◌, ◌++◌, Some, take, slice_get}
use Rattle.wb_values.specs.Signature.{Signature}
use Rattle.wb_terms.specs.declared.name.Short.{Short}
use Rattle.wb_terms.specs.Printed.{name_of}

-- the first bytes are the name and the parenthesis, if there are any
abbrev pub IsShort : List ℕ → Short → Type 0
IsShort name s = 0 < s.length → (s.length ≤ 16) × (take s.length s.bytes ≡ name ++ 40 ∷ [])

-- they are those of the first productions
abbrev pub AreShort : List Signature → List Short → Type 0
AreShort signatures short = (k : ℕ) (s : Short) → slice_get short k ≡ Some s → IsShort (name_of signatures k) s
