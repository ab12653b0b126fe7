-- The kinds of tokens.
use Rattle.std.specs.Prelude.{◌==◌, ℤ, pos, negsuc, if◌then◌else◌}
use Rattle.wb_text_tokens.specs.declared.token.Token.{Token}
use Rattle.wb_text_tokens.specs.declared.token.Token.TheVariants as t
use Rattle.wb_text_tokens.specs.declared.kind.TokenKind.{TokenKind}
use Rattle.wb_text_tokens.specs.declared.kind.TokenKind.TheVariants.{Word, Mark, Name, One, Two, Number, String, Regex}

-- the integers 1 and 2, of which one tells a format, have kinds of their own
abbrev pub integer_kind : ℤ → TokenKind
integer_kind (pos n) = if n == 1 then One else if n == 2 then Two else Number
integer_kind (negsuc n) = Number

-- the kind of a token
abbrev pub kind_of : Token → TokenKind
kind_of (t.Name text) = Name
kind_of (t.Word word) = Word word
kind_of (t.Int value) = integer_kind value
kind_of (t.Text text) = String
kind_of (t.Regex body) = Regex
kind_of (t.Punctuation mark) = Mark mark
