-- What the next token is, where the beginning of a text says its format.
use Rattle.std.specs.Prelude.{◌≡◌, ℕ, List, Option, MatchOption}
use Rattle.wb_text_predictive.specs.declared.table.Next.TheVariants.{Found}
use Rattle.wb_text_tokens.specs.declared.token.Dialect.{Dialect}
use Rattle.wb_text_tokens.specs.declared.token.Dialect.TheVariants.{FormatOne}
use Rattle.wb_text_tokens.specs.declared.token.Token.{Token}
use Rattle.wb_text_tokens.specs.declared.token.Token.TheVariants as t
use Rattle.wb_text_tokens.specs.declared.word.Word.TheVariants as w
use Rattle.wb_text_tokens.specs.declared.punctuation.Punctuation.TheVariants as p
use Rattle.wb_text_tokens.specs.NextToken.{IsNextIn}
use Rattle.wb_syntax.specs.Tokens.{Lexeme}
use Rattle.wb_reader.specs.declared.format.Wanted.{Wanted}
use Rattle.wb_reader.specs.declared.format.Wanted.TheVariants as wanted
use Rattle.wb_reader.specs.Refusals.{IsOtherNumber, IsTwo, IsOtherFormat, IsDialectOf}

-- the token is as wanted
abbrev pub IsWanted : Wanted → Token → Type 0
IsWanted wanted.Format token = token ≡ t.Word w.Format
IsWanted wanted.OtherNumber token = IsOtherNumber token
IsWanted wanted.Two token = IsTwo token
IsWanted wanted.Semicolon token = token ≡ t.Punctuation p.Semicolon

-- where the token with this end is as wanted, this is its end
abbrev pub IsEndWhere : Wanted → Lexeme → Option ℕ → Type 0
IsEndWhere one x found = MatchOption found (¬ IsWanted one x.token) (λ end. IsWanted one x.token × (x.end ≡ end))

-- where the next token is as wanted, this is its end
abbrev pub IsNextEnd : List ℕ → ℕ → Wanted → Option ℕ → Type 0
IsNextEnd bytes from one found = MatchOption found ((x : Lexeme) → IsNextIn FormatOne bytes from (Found x) → ¬ IsWanted one x.token)
    (λ end. (x : Lexeme) × IsNextIn FormatOne bytes from (Found x) × IsWanted one x.token × (x.end ≡ end))

-- this is the dialect of the bytes, or they are of another format
abbrev pub IsDialectFound : List ℕ → Option Dialect → Type 0
IsDialectFound bytes found = MatchOption found (IsOtherFormat bytes) (λ dialect. (¬ IsOtherFormat bytes) × IsDialectOf bytes dialect)
