-- The line of a place of a text, its column, and the lines that show it.
use Rattle.std.specs.Prelude.{◌≡◌, ◌≢◌, ◌⊎◌, ◌≤◌, ◌<◌, ◌+◌, ◌-◌, ◌++◌, ℕ, List, length, take, replicate, slice_index, slice_range}
use Rattle.std.specs.List.{count_by}
use Rattle.std.specs.Fmt.{decimal}
use lib.Chars.{codes}
use Rattle.wb_explain_places.specs.Characters.{begins_character, is_line_feed}
use Rattle.wb_explain_places.specs.Window.{left_of, right_of}

-- the line of a place goes from start to before end: it begins after a line feed or at the text's beginning, ends before a line feed or
-- at the text's end, and has no line feed in it; the place is in it, or at its end
pub record IsLineOf (text : List ℕ) (at start end : ℕ) : Type 0 where
  pub from : start ≤ at
  pub to : at ≤ end
  pub within : end ≤ length text
  pub begins : (start ≡ 0) ⊎ (slice_index text (start - 1) ≡ 10)
  pub ends : (end ≡ length text) ⊎ (slice_index text end ≡ 10)
  pub one : (k : ℕ) → start ≤ k → k < end → slice_index text k ≢ 10

-- the number of a place's line is one more than that of the line feeds before the place
abbrev pub line_number : List ℕ → ℕ → ℕ
line_number text at = count_by is_line_feed (take at text) + 1

-- its column is one more than the number of characters that begin before it on its line
abbrev pub column : List ℕ → ℕ → ℕ → ℕ
column text at start = count_by begins_character (slice_range text start at) + 1

-- the file, the line and the column
abbrev pub heading : List ℕ → ℕ → ℕ → List ℕ
heading file line column = file ++ codes ", line " ++ decimal line ++ codes ", column " ++ decimal column ++ codes ":\n\n"

-- the line, in two parts, and a caret under the first byte of the second
abbrev pub pointed : List ℕ → List ℕ → List ℕ
pointed before after =
    codes "    " ++ left_of before ++ right_of after ++ codes "\n    "
    ++ replicate (count_by begins_character (left_of before)) 32 ++ codes "^\n"

-- the lines that show a place
abbrev pub place_lines : List ℕ → List ℕ → ℕ → ℕ → ℕ → List ℕ
place_lines file text at start end =
    heading file (line_number text at) (column text at start) ++ pointed (slice_range text start at) (slice_range text at end)

-- after what was there come the lines that show the place
pub record Shows (file text : List ℕ) (at : ℕ) (old new : List ℕ) : Type 0 where
  pub start : ℕ
  pub end : ℕ
  pub line : IsLineOf text at start end
  pub lines : new ≡ old ++ place_lines file text at start end
