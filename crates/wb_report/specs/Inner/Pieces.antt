-- Pieces of lines, and their texts.
use Rattle.std.specs.Prelude.{ℕ, List, [], ◌∷◌, ◌++◌}
use Rattle.std.specs.Fmt.{decimal}
use Rattle.wb_text_tokens.specs.Printing.{printed_text}
use Rattle.wb_report.specs.declared.pieces.Piece.{Piece}
use Rattle.wb_report.specs.declared.pieces.Piece.TheVariants as p
use Rattle.wb_report.specs.Parts.{spaced, action_text}

-- the text of a piece
abbrev pub piece_text : Piece → List ℕ
piece_text (p.Plain bytes) = bytes.now
piece_text (p.Number number) = decimal number
piece_text (p.Quoted bytes) = printed_text bytes.now
piece_text (p.Spaced names) = spaced names.now
piece_text (p.Action action) = action_text action.now

-- a text with those of pieces after it
abbrev pub joined : List ℕ → List Piece → List ℕ
joined text [] = text
joined text (piece ∷ pieces) = joined (text ++ piece_text piece) pieces
