-- The reserved words and the punctuation, and how each is spelled.
use Rattle.std.specs.Prelude.{◌≡◌, ℕ, List, Bool, true, false, IsTrue, codes}
use Rattle.wb_text_tokens.specs.declared.token.Dialect.{Dialect}
use Rattle.wb_text_tokens.specs.declared.token.Dialect.TheVariants.{Terms, FormatOne, FormatTwo}
use Rattle.wb_text_tokens.specs.declared.word.Word.{Word}
use Rattle.wb_text_tokens.specs.declared.word.Word.TheVariants as w
use Rattle.wb_text_tokens.specs.declared.punctuation.Punctuation.{Punctuation}
use Rattle.wb_text_tokens.specs.declared.punctuation.Punctuation.TheVariants as p

-- the bytes of a reserved word
abbrev pub word_text : Word → List ℕ
word_text w.Abstract = codes "abstract"
word_text w.Aspect = codes "aspect"
word_text w.Bool = codes "bool"
word_text w.Concrete = codes "concrete"
word_text w.Else = codes "else"
word_text w.End = codes "end"
word_text w.Extensible = codes "extensible"
word_text w.Extension = codes "extension"
word_text w.False = codes "false"
word_text w.For = codes "for"
word_text w.Format = codes "format"
word_text w.Forward = codes "forward"
word_text w.Forwards = codes "forwards"
word_text w.Host = codes "host"
word_text w.If = codes "if"
word_text w.Ignore = codes "ignore"
word_text w.Inh = codes "inh"
word_text w.Int = codes "int"
word_text w.Lexeme = codes "lexeme"
word_text w.Local = codes "local"
word_text w.Marking = codes "marking"
word_text w.Needs = codes "needs"
word_text w.Nonterminal = codes "nonterminal"
word_text w.Occurs = codes "occurs"
word_text w.On = codes "on"
word_text w.Over = codes "over"
word_text w.Prefer = codes "prefer"
word_text w.Start = codes "start"
word_text w.Syn = codes "syn"
word_text w.Terminal = codes "terminal"
word_text w.Text = codes "text"
word_text w.Then = codes "then"
word_text w.To = codes "to"
word_text w.Top = codes "top"
word_text w.True = codes "true"
word_text w.Closed = codes "closed"

-- `closed` is reserved in format 2 alone
abbrev pub has_closed : Dialect → Bool
has_closed Terms = false
has_closed FormatOne = false
has_closed FormatTwo = true

-- the word is reserved in the dialect: each but `closed` is so in all of them
abbrev pub is_word_of : Dialect → Word → Bool
is_word_of dialect w.Closed = has_closed dialect
is_word_of dialect word = true

-- the bytes spell the word, which is reserved in the dialect
pub record IsSpelledIn (dialect : Dialect) (x : List ℕ) (word : Word) : Type 0 where
  pub reserved : IsTrue (is_word_of dialect word)
  pub is : x ≡ word_text word

-- the bytes are a word that is reserved in the dialect
abbrev pub IsReservedIn : Dialect → List ℕ → Type 0
IsReservedIn dialect x = (word : Word) × IsSpelledIn dialect x word

-- the bytes of a punctuation mark
abbrev pub punctuation_text : Punctuation → List ℕ
punctuation_text p.Semicolon = codes ";"
punctuation_text p.Colon = codes ":"
punctuation_text p.Becomes = codes "::="
punctuation_text p.OpenBrace = codes "{"
punctuation_text p.CloseBrace = codes "}"
punctuation_text p.Equals = codes "="
punctuation_text p.Dot = codes "."
punctuation_text p.Comma = codes ","
punctuation_text p.OpenParenthesis = codes "("
punctuation_text p.CloseParenthesis = codes ")"
punctuation_text p.At = codes "@"
