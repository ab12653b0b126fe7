-- Why bytes are no specification that is taken.
use Rattle.std.specs.Prelude.{◌≡◌, ◌≢◌, ◌≤◌, ◌<◌, ◌+◌, ℕ, ℤ, pos, List, [], ◌∷◌, ◌++◌, All, length}
use Rattle.wb_text_predictive.specs.declared.table.Next.{Next}
use Rattle.wb_text_predictive.specs.declared.table.Next.TheVariants.{Found, End, NoToken}
use Rattle.wb_text_predictive.specs.Reading.{Spells, place_of}
use Rattle.wb_text_tokens.specs.declared.token.Dialect.{Dialect}
use Rattle.wb_text_tokens.specs.declared.token.Dialect.TheVariants.{Terms, FormatOne, FormatTwo}
use Rattle.wb_text_tokens.specs.declared.token.Token.{Token}
use Rattle.wb_text_tokens.specs.declared.token.Token.TheVariants as t
use Rattle.wb_text_tokens.specs.declared.word.Word.TheVariants as w
use Rattle.wb_text_tokens.specs.declared.punctuation.Punctuation.TheVariants as p
use Rattle.wb_text_tokens.specs.NextToken.{IsNextIn}
use Rattle.wb_regex.specs.Text.{IsFirstFault}
use Rattle.wb_regex.specs.Answer.{IsEmptyRegex}
use Rattle.wb_syntax.specs.declared.pattern.Role.{Role}
use Rattle.wb_syntax.specs.declared.item.Item.{Item}
use Rattle.wb_syntax.specs.declared.item.ItemForm.{ItemForm}
use Rattle.wb_syntax.specs.declared.item.ItemForm.TheVariants as f
use Rattle.wb_regex.specs.Tree.{Tree}
use Rattle.wb_syntax.specs.declared.pattern.WrittenPattern.{WrittenPattern}
use Rattle.wb_syntax.specs.declared.written.WrittenSpec.{WrittenSpec}
use Rattle.wb_syntax.specs.Tokens.{Lexeme, IsWord, IsMark}
use Rattle.wb_syntax.specs.ItemGrammar.{IsSpecification}
use Rattle.wb_syntax.specs.SpecText.{SpecView, IsWrittenText, IsPattern, IsSpecText}
use Rattle.wb_reader.specs.declared.refusal.SpecRefusal.{SpecRefusal}
use Rattle.wb_reader.specs.declared.refusal.SpecRefusal.TheVariants.{TooLong, WrongFormat, Syntax, BadRegex, MatchesEmpty, NoMemory}

-- the bytes are at most so many as a file may have
abbrev pub IsShort : List ℕ → Type 0
IsShort bytes = length bytes ≤ 1048576

-- the bytes begin with `format`, such an integer, and `;`, which are the same tokens in both formats
pub record BeginsWithFormat (bytes : List ℕ) (IsNumber : Token → Type 0) : Type 0 where
  pub word : Lexeme
  pub number : Lexeme
  pub mark : Lexeme
  pub to : ℕ
  pub spelled : Spells (IsNextIn FormatOne bytes) 0 (word ∷ number ∷ mark ∷ []) to
  pub is_format : IsWord w.Format word
  pub is_number : IsNumber number.token
  pub is_semicolon : IsMark p.Semicolon mark

-- the token is an integer other than 1 and 2
abbrev pub IsOtherNumber : Token → Type 0
IsOtherNumber token = (value : ℤ) × (token ≡ t.Int value) × (value ≢ pos 1) × (value ≢ pos 2)

-- the bytes begin with `format`, an integer other than 1 and 2, and `;`
abbrev pub IsOtherFormat : List ℕ → Type 0
IsOtherFormat bytes = BeginsWithFormat bytes IsOtherNumber

-- the token is the integer 2
abbrev pub IsTwo : Token → Type 0
IsTwo token = token ≡ t.Int (pos 2)

-- the dialect of the bytes: that of format 2 where they begin with `format`, the integer 2 and `;`, and else that of format 1
abbrev pub IsDialectOf : List ℕ → Dialect → Type 0
IsDialectOf bytes Terms = ⊥
IsDialectOf bytes FormatOne = ¬ BeginsWithFormat bytes IsTwo
IsDialectOf bytes FormatTwo = BeginsWithFormat bytes IsTwo

-- some specification begins with these tokens
pub record CanBegin (front : List Lexeme) : Type 0 where
  pub rest : List Lexeme
  pub spec : WrittenSpec
  pub specification : IsSpecification (front ++ rest) spec

-- what comes next can't follow these tokens: a token with which no specification begins, the end where they are none, or no token
abbrev pub CannotFollow : List Lexeme → Next Token → Type 0
CannotFollow front (Found x) = ¬ CanBegin (front ++ x ∷ [])
CannotFollow front (End at) = (spec : WrittenSpec) → ¬ IsSpecification front spec
CannotFollow front (NoToken at) = Unit {0}

-- by the tokens of the dialect, at this place stands the first thing that can't follow the tokens before it, with which some specification
-- begins
pub record IsFaultIn (dialect : Dialect) (bytes : List ℕ) (at : ℕ) : Type 0 where
  pub front : List Lexeme
  pub from : ℕ
  pub next : Next Token
  pub spelled : Spells (IsNextIn dialect bytes) 0 front from
  pub before : CanBegin front
  pub stands : IsNextIn dialect bytes from next
  pub fault : CannotFollow front next
  pub place : place_of next ≡ at

-- by the tokens of the bytes' own dialect, the first thing that can't follow stands at this place
pub record IsSyntaxFault (bytes : List ℕ) (at : ℕ) : Type 0 where
  pub dialect : Dialect
  pub own : IsDialectOf bytes dialect
  pub fault : IsFaultIn dialect bytes at

-- the form has no regular expression, or one that is taken
abbrev pub IsTakenForm : ItemForm WrittenPattern → Type 0
IsTakenForm (f.Lexical role name pattern) = (tree : Tree) × IsPattern pattern.bytes tree
IsTakenForm (f.Plain plain) = Unit {0}
IsTakenForm (f.Production role production) = Unit {0}
IsTakenForm (f.Aspect name equations) = Unit {0}

-- and so has the item
abbrev pub IsTaken : Item WrittenPattern → Type 0
IsTaken item = IsTakenForm item.form

-- the item with this regular expression
abbrev pub lexical_item : ℕ → Role → List ℕ → List ℕ → ℕ → Item WrittenPattern
lexical_item offset role name bytes at = record { offset = offset; form = f.Lexical role name (record { bytes = bytes; at = at }) }

-- the bytes are in the grammar, and this regular expression is the first that may not be taken: those before it are
pub record HasPattern (text name bytes : List ℕ) (at : ℕ) : Type 0 where
  pub spec : WrittenSpec
  pub written : IsWrittenText text spec
  pub before : List (Item WrittenPattern)
  pub after : List (Item WrittenPattern)
  pub offset : ℕ
  pub role : Role
  pub items : spec.items ≡ before ++ lexical_item offset role name bytes at ∷ after
  pub taken : All IsTaken before

-- the first regular expression that isn't taken is none, and at this place of the text it has its first error
pub record IsBadRegex (text : List ℕ) (place : ℕ) : Type 0 where
  pub name : List ℕ
  pub bytes : List ℕ
  pub at : ℕ
  pub pattern : HasPattern text name bytes at
  pub offset : ℕ
  pub fault : IsFirstFault bytes offset
  pub is : place ≡ at + 1 + offset

-- the first regular expression that isn't taken matches the empty text, and is that of this name
pub record IsEmptyPattern (text name : List ℕ) : Type 0 where
  pub bytes : List ℕ
  pub at : ℕ
  pub pattern : HasPattern text name bytes at
  pub empty : IsEmptyRegex bytes

-- why bytes are refused, the first cause in this order; memory may run out at any bytes
abbrev pub HasCause : List ℕ → SpecRefusal → Type 0
HasCause bytes TooLong = 1048576 < length bytes
HasCause bytes WrongFormat = IsShort bytes × IsOtherFormat bytes
HasCause bytes (Syntax at) = IsShort bytes × (¬ IsOtherFormat bytes) × IsSyntaxFault bytes at
HasCause bytes (BadRegex at) = IsShort bytes × IsBadRegex bytes at
HasCause bytes (MatchesEmpty name) = IsShort bytes × IsEmptyPattern bytes name
HasCause bytes (NoMemory error) = Unit {0}

-- the bytes are a specification that is taken
abbrev pub IsAcceptedText : List ℕ → SpecView → Type 0
IsAcceptedText bytes spec = IsShort bytes × IsSpecText bytes spec
