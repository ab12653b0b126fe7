-- The grammar of specifications as a table, and what it makes of the parts of one.
use Rattle.std.specs.Prelude.{ℕ}
use Rattle.wb_text_predictive.specs.Grammar.{Grammar}
use Rattle.wb_text_tokens.specs.declared.token.Token.{Token}
use Rattle.wb_text_tokens.specs.declared.token.Token.TheVariants as t
use Rattle.wb_reader.specs.declared.part.Part.{Part}
use Rattle.wb_reader_builder.specs.declared.actions.Action.{Action}
use Rattle.wb_reader_builder.specs.declared.builder.SpecBuilder.{SpecBuilder}
use Rattle.wb_text_tokens.specs.declared.kind.TokenKind.{TokenKind}
use Rattle.wb_text_tokens.specs.Kinds.{kind_of}
use Rattle.wb_reader.specs.Inner.RightSides.{right_sides}
use Rattle.wb_reader_builder.specs.Builder.{with_name, with_integer, with_text, with_pattern}
use Rattle.wb_reader_builder.specs.Items.{word_shift}
use Rattle.wb_reader_builder.specs.Actions.{act}

-- names, integers, strings and regular expressions are kept until an action takes them
abbrev pub shift : Token → ℕ → ℕ → SpecBuilder → SpecBuilder
shift (t.Name text) at end v = with_name text at v
shift (t.Word word) at end v = word_shift word at v
shift (t.Int value) at end v = with_integer value v
shift (t.Text text) at end v = with_text text v
shift (t.Regex body) at end v = with_pattern body at v
shift (t.Punctuation mark) at end v = v

-- the grammar
abbrev pub spec_grammar : Grammar TokenKind Part Action Token SpecBuilder
spec_grammar = record { start = Part.File; rights = right_sides; kind_of = kind_of; shift = shift; act = act }
