-- The tokens of items.
use Rattle.std.specs.Prelude.{◌≡◌, ℕ, pos, List, [], ◌∷◌, ◌++◌}
use Rattle.wb_text_tokens.specs.declared.token.Token.{Token}
use Rattle.wb_text_tokens.specs.declared.token.Token.TheVariants as t
use Rattle.wb_text_tokens.specs.declared.word.Word.{Word}
use Rattle.wb_text_tokens.specs.declared.word.Word.TheVariants as w
use Rattle.wb_text_tokens.specs.declared.punctuation.Punctuation.TheVariants as p
use Rattle.wb_syntax.specs.declared.header.Header.{Header}
use Rattle.wb_syntax.specs.declared.header.Header.TheVariants as h
use Rattle.wb_syntax.specs.declared.item.Item.{Item}
use Rattle.wb_syntax.specs.declared.item.ItemForm.{ItemForm}
use Rattle.wb_syntax.specs.declared.item.ItemForm.TheVariants as f
use Rattle.wb_syntax.specs.declared.item.PlainForm.{PlainForm}
use Rattle.wb_syntax.specs.declared.pattern.Pattern.{Pattern}
use Rattle.wb_syntax.specs.declared.pattern.Role.{Role}
use Rattle.wb_syntax.specs.declared.pattern.Role.TheVariants as r
use Rattle.wb_syntax.specs.declared.production.NamedKind.{NamedKind}
use Rattle.wb_syntax.specs.declared.production.Production.{Production}
use Rattle.wb_syntax.specs.declared.production.ProductionRole.{ProductionRole}
use Rattle.wb_syntax.specs.declared.production.ProductionRole.TheVariants as k
use Rattle.wb_syntax.specs.Equations.{equations_of}
use Rattle.wb_syntax.specs.Fields.{Field}
use Rattle.wb_syntax.specs.Fields as field
use Rattle.wb_syntax.specs.ItemGrammar.{plain_fields}
use Rattle.wb_syntax.specs.SpecText.{SpecView}
use Rattle.wb_reader_printer.specs.Inner.Output.{Output, after, ended}
use Rattle.wb_reader_printer.specs.Inner.PartTokens.{AreEquationTokens, block_tokens, children_tokens, kind_token, needs_tokens}
use Rattle.wb_reader_printer.specs.Inner.PartTokens.{optional_needs_tokens}

-- a production, whose equations have these tokens
abbrev pub production_tokens : Production → List Token → List Token
production_tokens q equations =
    t.Name q.name ∷ t.Punctuation p.Colon ∷ t.Name q.left ∷ t.Punctuation p.Becomes ∷ (children_tokens q.children ++ block_tokens equations)

-- an item of a word and a name
abbrev pub named : Word → List ℕ → List Token
named word name = t.Word word ∷ t.Name name ∷ t.Punctuation p.Semicolon ∷ []

-- an item with a regular expression
abbrev pub pattern_tokens : Word → List ℕ → List ℕ → List Token
pattern_tokens word name bytes = t.Word word ∷ t.Name name ∷ t.Regex bytes ∷ t.Punctuation p.Semicolon ∷ []

-- two words, with a name after each
abbrev pub pair_tokens : Word → List ℕ → Word → List ℕ → List Token
pair_tokens word name second_word second = t.Word word ∷ t.Name name ∷ named second_word second

-- an attribute with its kind
abbrev pub attribute_tokens : Word → List ℕ → NamedKind → List Token
attribute_tokens word name kind = t.Word word ∷ t.Name name ∷ t.Punctuation p.Colon ∷ kind_token kind ∷ t.Punctuation p.Semicolon ∷ []

-- the word of a role
abbrev pub role_word : Role → Word
role_word r.Terminal = w.Terminal
role_word r.Ignore = w.Ignore
role_word r.Marking = w.Marking

-- the word of a production's role
abbrev pub production_word : ProductionRole → Word
production_word k.Concrete = w.Concrete
production_word k.Abstract = w.Abstract

-- a field
abbrev pub field_tokens : Field → List Token
field_tokens (field.word value) = t.Word value ∷ []
field_tokens (field.mark value) = t.Punctuation value ∷ []
field_tokens (field.name value) = t.Name value ∷ []
field_tokens (field.kind value) = kind_token value ∷ []
field_tokens (field.needs value) = needs_tokens value
field_tokens (field.optional_needs value) = optional_needs_tokens value

-- fields, one after another
abbrev pub fields_tokens : List Field → List Token
fields_tokens [] = []
fields_tokens (first ∷ rest) = field_tokens first ++ fields_tokens rest

-- an item of names alone
abbrev pub plain_tokens : PlainForm → List Token
plain_tokens form = fields_tokens (plain_fields form)

-- an item of this form, whose equations have these tokens
abbrev pub form_tokens : ItemForm Pattern → List Token → List Token
form_tokens (f.Lexical role name pattern) equations = pattern_tokens (role_word role) name pattern.bytes
form_tokens (f.Plain plain) equations = plain_tokens plain
form_tokens (f.Production role production) equations = t.Word (production_word role) ∷ production_tokens production equations
form_tokens (f.Aspect name list) equations = t.Word w.Aspect ∷ t.Name name ∷ block_tokens equations

-- the tokens are the item
pub record AreItemTokens (item : Item Pattern) (tokens : List Token) : Type 0 where
  pub inner : List Token
  pub equations : AreEquationTokens (equations_of item.form) inner
  pub whole : tokens ≡ form_tokens item.form inner

-- each line has the tokens of its item
pub data AreLinesOf : List (Item Pattern) → List (List Token) → Type 0 where
  nothing : AreLinesOf [] []
  next : {item : Item Pattern} {rest : List (Item Pattern)} {tokens : List Token} {lines : List (List Token)} → AreItemTokens item tokens
      → AreLinesOf rest lines
      → AreLinesOf (item ∷ rest) (tokens ∷ lines)

-- the tokens of the first line
abbrev pub format_tokens : ℕ → List Token
format_tokens format = t.Word w.Format ∷ t.Int (pos format) ∷ t.Punctuation p.Semicolon ∷ []

-- the tokens of the header, where the specification has this name
abbrev pub header_tokens : List ℕ → Header → List Token
header_tokens name h.Host = named w.Host name
header_tokens name (h.Extension host) = pair_tokens w.Extension name w.For host

-- the text with the lines of the format and the header more
abbrev pub headed : SpecView → Output → Output
headed spec output = ended (after (ended (after output (format_tokens spec.format))) (header_tokens spec.name spec.header))
