-- The punctuation mark at the beginning of some bytes.
use Rattle.std.specs.Prelude.{ℕ, ◌==◌, ◌&&◌, List, [], ◌∷◌, Option, Some, None, if◌then◌else◌}
use Rattle.wb_text_tokens.specs.declared.punctuation.Punctuation.{Punctuation}
use Rattle.wb_text_tokens.specs.declared.punctuation.Punctuation.TheVariants as p

-- the mark that a byte is by itself, if it isn't a colon
abbrev pub single_mark : ℕ → Option Punctuation
single_mark b =
    if b == 59 then Some p.Semicolon else
    if b == 123 then Some p.OpenBrace else
    if b == 125 then Some p.CloseBrace else
    if b == 61 then Some p.Equals else
    if b == 46 then Some p.Dot else
    if b == 44 then Some p.Comma else
    if b == 40 then Some p.OpenParenthesis else
    if b == 41 then Some p.CloseParenthesis else
    if b == 64 then Some p.At else None

-- the mark that a colon with these bytes after it is: `::=`, or `:` alone
abbrev pub colon_at : List ℕ → Punctuation
colon_at [] = p.Colon
colon_at (b ∷ []) = p.Colon
colon_at (b ∷ c ∷ x) = if b == 58 && c == 61 then p.Becomes else p.Colon

-- the longest mark at the beginning of the bytes
abbrev pub mark_at : List ℕ → Option Punctuation
mark_at [] = None
mark_at (b ∷ x) = if b == 58 then Some (colon_at x) else single_mark b
