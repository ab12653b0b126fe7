-- Which token can't come after bytes in a term.
use Rattle.std.specs.Prelude.{ℕ, List, [], ◌∷◌, ◌++◌, ◌+◌, length}
use Rattle.wb_terms.specs.TermText.{IsFirstFault}

-- the bytes with a token after them, on a line of its own
abbrev pub with_token : List ℕ → List ℕ → List ℕ
with_token before token = (before ++ 10 ∷ []) ++ token

-- in the bytes with this token after them, the token is the first thing that can't follow
abbrev pub CannotCome : List ℕ → List ℕ → Type 0
CannotCome before token = IsFirstFault (with_token before token) (length before + 1)
