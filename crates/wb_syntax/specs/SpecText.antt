-- Which bytes are a specification, and which one.
use Rattle.std.specs.Prelude.{◌≡◌, ◌==◌, ℕ, ◌<◌, List, [], if◌then◌else◌}
use Rattle.std.specs.List.{All, AllZip}
use Rattle.wb_text_predictive.specs.declared.table.Next.TheVariants.{End}
use Rattle.wb_text_predictive.specs.Reading.{Spells}
use Rattle.wb_text_tokens.specs.declared.token.Dialect.{Dialect}
use Rattle.wb_text_tokens.specs.declared.token.Dialect.TheVariants.{FormatOne, FormatTwo}
use Rattle.wb_text_tokens.specs.NextToken.{IsNextIn}
use Rattle.wb_regex.specs.Tree.{Tree}
use Rattle.wb_regex.specs.Matches.{Matches}
use Rattle.wb_regex.specs.Text.{IsRegexText}
use Rattle.wb_syntax.specs.declared.header.Header.{Header}
use Rattle.wb_syntax.specs.declared.item.Item.{Item}
use Rattle.wb_syntax.specs.declared.item.ItemForm.{ItemForm}
use Rattle.wb_syntax.specs.declared.item.ItemForm.TheVariants as f
use Rattle.wb_syntax.specs.declared.pattern.Pattern.{Pattern}
use Rattle.wb_syntax.specs.declared.pattern.WrittenPattern.{WrittenPattern}
use Rattle.wb_syntax.specs.declared.written.WrittenSpec.{WrittenSpec}
use Rattle.wb_syntax.specs.Tokens.{Lexeme}
use Rattle.wb_syntax.specs.ItemGrammar.{IsSpecification}

-- a specification: its format, its name, whether it is a host or an extension of which, and its items
pub record SpecView : Type 0 where
  pub format : ℕ
  pub name : List ℕ
  pub header : Header
  pub items : List (Item Pattern)

-- the dialect in which the tokens of a format are spelled
abbrev pub dialect_of : ℕ → Dialect
dialect_of format = if format == 2 then FormatTwo else FormatOne

-- the bytes, with layout and comments between the tokens of the format, are written so
pub record IsWrittenText (bytes : List ℕ) (written : WrittenSpec) : Type 0 where
  pub tokens : List Lexeme
  pub to : ℕ
  pub at : ℕ
  pub spelled : Spells (IsNextIn (dialect_of written.format) bytes) 0 tokens to
  pub ended : IsNextIn (dialect_of written.format) bytes to (End at)
  pub specification : IsSpecification tokens written

-- the bytes are a regular expression that doesn't match the empty text
pub record IsPattern (bytes : List ℕ) (tree : Tree) : Type 0 where
  pub text : IsRegexText bytes tree
  pub some : ¬ Matches tree []

-- the form as it is written is this one: its regular expression, where it has one, is read and doesn't match the empty text
abbrev pub IsReadForm : ItemForm WrittenPattern → ItemForm Pattern → Type 0
IsReadForm (f.Lexical role name written) form =
    (tree : Tree) × IsPattern written.bytes tree × (form ≡ f.Lexical role name (record { bytes = written.bytes; regex = tree }))
IsReadForm (f.Plain plain) form = form ≡ f.Plain plain
IsReadForm (f.Production role production) form = form ≡ f.Production role production
IsReadForm (f.Aspect name equations) form = form ≡ f.Aspect name equations

-- the item as it is written is this one
pub record IsReadAs (written : Item WrittenPattern) (item : Item Pattern) : Type 0 where
  pub offset : item.offset ≡ written.offset
  pub form : IsReadForm written.form item.form

-- the written specification is this one
pub record IsReadSpec (written : WrittenSpec) (spec : SpecView) : Type 0 where
  pub format : spec.format ≡ written.format
  pub name : spec.name ≡ written.name
  pub header : spec.header ≡ written.header
  pub items : AllZip IsReadAs written.items spec.items

-- the bytes are this specification
pub record IsSpecText (bytes : List ℕ) (spec : SpecView) : Type 0 where
  pub written : WrittenSpec
  pub text : IsWrittenText bytes written
  pub read : IsReadSpec written spec

-- some text of bytes is this specification
abbrev pub HasText : SpecView → Type 0
HasText spec = (bytes : List ℕ) × All (λ b. b < 256) bytes × IsSpecText bytes spec
