-- The table of commands, one row for each, and that of their options.
use Rattle.std.specs.Prelude.{◌≡◌, ◌≤◌, ◌⊎◌, ◌-◌, ◌^◌, ℕ, List, [], ◌∷◌, Some, drop, length, slice_get}
use lib.Chars.{codes}
use Rattle.wb_program_words.specs.Asked.{Asked}
use Rattle.wb_program_words.specs.Asked as a
use Rattle.wb_program_words.specs.OptionValues.{HasValue, OptionValue, number_at, text_at, word_at}
use Rattle.wb_program_words.specs.Options.{Given}
use Rattle.wb_program_words.specs.declared.rows.Count.{Count}
use Rattle.wb_program_words.specs.declared.rows.Count.TheVariants.{Exactly, Either, From}
use Rattle.wb_program_words.specs.declared.rows.Form.{Form}
use Rattle.wb_program_words.specs.declared.rows.Form.TheVariants as f
use Rattle.wb_program_words.specs.declared.rows.OptionName.{OptionName}
use Rattle.wb_program_words.specs.declared.rows.OptionName.TheVariants.{Text, Attribute, Steps, Number, Size}
use Rattle.wb_program_words.specs.declared.rows.OptionName.TheVariants.{Edits}
use Rattle.wb_program_words.specs.declared.rows.Verb.{Verb}
use Rattle.wb_program_words.specs.declared.rows.Verb.TheVariants.{Value, Show, Check, Certify, Compose, Tree, Run, Generate}
use Rattle.wb_program_words.specs.declared.rows.Verb.TheVariants.{Certificate, Recheck, Reading}
use Rattle.wb_program_words.specs.declared.rows.Verb.TheVariants.{Edit}

-- how an option is named
abbrev pub name_of : OptionName → List ℕ
name_of Text = codes "text"
name_of Attribute = codes "attr"
name_of Steps = codes "steps"
name_of Number = codes "number"
name_of Size = codes "size"
name_of Edits = codes "edits"

-- what the value of an option is: a word as it is written, or a number within bounds, which may be one that stands where none is given
abbrev pub form_of : OptionName → Form
form_of Text = f.Word
form_of Attribute = f.Word
form_of Steps = f.NumberOr 1 10000000 1000000
form_of Number = f.Number 0 (2 ^ 64 - 1)
form_of Size = f.Number 0 100000
form_of Edits = f.Word

-- how a verb is written, which options it has, in the order of their values, and how many positional words come after them
pub record Row : Type 0 where
  pub verb : List ℕ
  pub options : List OptionName
  pub words : Count

-- the row of a verb
abbrev pub row_of : Verb → Row
-- value HOST TERM ATTR
row_of Value = record { verb = codes "value"; options = []; words = Exactly 3 }
-- show SPEC
row_of Show = record { verb = codes "show"; options = []; words = Exactly 1 }
-- check HOST
row_of Check = record { verb = codes "check"; options = []; words = Exactly 1 }
-- certify HOST EXT..
row_of Certify = record { verb = codes "certify"; options = []; words = From 1 }
-- compose HOST EXT..
row_of Compose = record { verb = codes "compose"; options = []; words = From 1 }
-- tree --text FILE HOST EXT..
row_of Tree = record { verb = codes "tree"; options = Text ∷ []; words = From 1 }
-- run --text FILE --attr NAME [--steps N] HOST EXT..
row_of Run = record { verb = codes "run"; options = Text ∷ Attribute ∷ Steps ∷ []; words = From 1 }
-- generate --number N --size K --attr NAME HOST EXT..
row_of Generate = record { verb = codes "generate"; options = Number ∷ Size ∷ Attribute ∷ []; words = From 1 }
-- certificate HOST [EXT]
row_of Certificate = record { verb = codes "certificate"; options = []; words = Either 1 2 }
-- recheck HOST CERT [EXT CERT]
row_of Recheck = record { verb = codes "recheck"; options = []; words = Either 2 4 }
-- edit --text FILE --edits FILE HOST EXT..
row_of Edit = record { verb = codes "edit"; options = Text ∷ Edits ∷ []; words = From 1 }
-- reading --text FILE HOST EXT..
row_of Reading = record { verb = codes "reading"; options = Text ∷ []; words = From 1 }

-- so many words are as many as a row says
abbrev pub IsCount : Count → ℕ → Type 0
IsCount (Exactly n) count = count ≡ n
IsCount (Either n m) count = (count ≡ n) ⊎ (count ≡ m)
IsCount (From n) count = n ≤ count

-- the options have these values, one for each name of a row
pub record HaveValues (options : List Given) (names : List OptionName) (values : List OptionValue) : Type 0 where
  pub many : length values ≡ length names
  pub each : (k : ℕ) (name : OptionName) (value : OptionValue) → slice_get names k ≡ Some name → slice_get values k ≡ Some value
      → HasValue (form_of name) options (name_of name) value

-- what a verb asks with the values of its options and its positional words
abbrev pub asked_of : Verb → List OptionValue → List (List ℕ) → Asked
asked_of Value values words = a.value (word_at words 0) (word_at words 1) (word_at words 2)
asked_of Show values words = a.show (word_at words 0)
asked_of Check values words = a.check (word_at words 0)
asked_of Certify values words = a.certify (word_at words 0) (drop 1 words)
asked_of Compose values words = a.compose (word_at words 0) (drop 1 words)
asked_of Tree values words = a.tree (text_at values 0) (word_at words 0) (drop 1 words)
asked_of Run values words = a.run (text_at values 0) (text_at values 1) (number_at values 2) (word_at words 0) (drop 1 words)
asked_of Generate values words = a.generate (number_at values 0) (number_at values 1) (text_at values 2) (word_at words 0) (drop 1 words)
asked_of Certificate values words = a.certificate (word_at words 0) (drop 1 words)
asked_of Recheck values words = a.recheck (word_at words 0) (word_at words 1) (drop 1 (drop 1 words))
asked_of Edit values words = a.edit (text_at values 0) (text_at values 1) (word_at words 0) (drop 1 words)
asked_of Reading values words = a.reading (text_at values 0) (word_at words 0) (drop 1 words)
