-- The values of options, by what the value of an option is.
use Rattle.std.specs.Prelude.{◌≡◌, ◌⊎◌, ℕ, List, [], Contains, slice_index_or}
use Rattle.wb_program_words.specs.Options.{Given, HasNumber, HasOption, names_of}
use Rattle.wb_program_words.specs.declared.rows.Form.{Form}
use Rattle.wb_program_words.specs.declared.rows.Form.TheVariants as f

-- the value of an option
pub data OptionValue : Type 0 where
  a_word : List ℕ → OptionValue
  a_number : ℕ → OptionValue

-- among the options one of this name has this value of this form
abbrev pub HasValue : Form → List Given → List ℕ → OptionValue → Type 0
HasValue f.Word options name (a_word text) = HasOption options name text
HasValue (f.Number least most) options name (a_number n) = HasNumber options name least most n
HasValue (f.NumberOr least most otherwise) options name (a_number n) =
    HasNumber options name least most n ⊎ ((¬ Contains (names_of options) name) × (n ≡ otherwise))
HasValue form options name value = ⊥

-- a value as a word, and as a number
abbrev pub word_of : OptionValue → List ℕ
word_of (a_word text) = text
word_of (a_number n) = []

abbrev pub number_of : OptionValue → ℕ
number_of (a_word text) = 0
number_of (a_number n) = n

-- the word or the number at a place of the values, and the word at a place of the words
abbrev pub text_at : List OptionValue → ℕ → List ℕ
text_at values place = word_of (slice_index_or values place (a_word []))

abbrev pub number_at : List OptionValue → ℕ → ℕ
number_at values place = number_of (slice_index_or values place (a_word []))

abbrev pub word_at : List (List ℕ) → ℕ → List ℕ
word_at words place = slice_index_or words place []
