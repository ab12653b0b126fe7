-- Which token can't come after bytes in a specification.
use Rattle.std.specs.Prelude.{ℕ, List, [], ◌∷◌, ◌++◌, ◌+◌, length}
use Rattle.wb_reader.specs.Refusals.{HasCause}
use Rattle.wb_reader.specs.declared.refusal.SpecRefusal.TheVariants.{Syntax}

-- the bytes with a token after them, on a line of its own
abbrev pub with_token : List ℕ → List ℕ → List ℕ
with_token before token = (before ++ 10 ∷ []) ++ token

-- the bytes with this token after them are refused at the token, as the first that can't follow those before it
abbrev pub CannotCome : List ℕ → List ℕ → Type 0
CannotCome before token = HasCause (with_token before token) (Syntax (length before + 1))
