-- Tokens by what they are.
use Rattle.std.specs.Prelude.{◌≡◌, ℕ, ℤ, List}
use Rattle.wb_text_predictive.specs.declared.table.Placed.{Placed}
use Rattle.wb_text_tokens.specs.declared.token.Token.{Token}
use Rattle.wb_text_tokens.specs.declared.token.Token.TheVariants as t
use Rattle.wb_text_tokens.specs.declared.word.Word.{Word}
use Rattle.wb_text_tokens.specs.declared.punctuation.Punctuation.{Punctuation}

-- a token with its place
abbrev pub Lexeme : Type 0
Lexeme = Placed Token

-- it is this reserved word
abbrev pub IsWord : Word → Lexeme → Type 0
IsWord word x = x.token ≡ t.Word word

-- it is this mark
abbrev pub IsMark : Punctuation → Lexeme → Type 0
IsMark mark x = x.token ≡ t.Punctuation mark

-- it is this name
abbrev pub IsName : List ℕ → Lexeme → Type 0
IsName name x = x.token ≡ t.Name name

-- it is an integer of this value
abbrev pub IsInt : ℤ → Lexeme → Type 0
IsInt value x = x.token ≡ t.Int value

-- it is a string of this text
abbrev pub IsString : List ℕ → Lexeme → Type 0
IsString text x = x.token ≡ t.Text text

-- it is a regular expression with these bytes between its slashes
abbrev pub IsRegex : List ℕ → Lexeme → Type 0
IsRegex bytes x = x.token ≡ t.Regex bytes
