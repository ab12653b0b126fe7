-- The line and the column of a place of a text.
use Rattle.std.specs.Prelude.{◌≡◌, ◌≤◌, ◌+◌, ℕ, List, length, take, drop}
use Rattle.std.specs.List.{count_by}
use Rattle.wb_explain_places.specs.Characters.{begins_character}
use Rattle.wb_explain_places.specs.LineStarts.{IsLineStart}
use Rattle.wb_explain_places.specs.Place.{line_number}
use Rattle.wb_explain_drawing.specs.declared.cursor.Cursor.{Cursor}

-- the number of a place's column is one more than that of the characters that begin before it on its line
abbrev pub column_from : List ℕ → ℕ → ℕ → ℕ
column_from text start at = count_by begins_character (drop start (take at text)) + 1

-- the cursor is at a place of the text, its line begins where it says, and it has the numbers of the line and of the column
pub record IsReached (text : List ℕ) (cursor : Cursor) : Type 0 where
  pub within : cursor.at ≤ length text
  pub start : IsLineStart text cursor.at cursor.start
  pub line : cursor.line ≡ line_number text cursor.at
  pub column : cursor.column ≡ column_from text cursor.start cursor.at
