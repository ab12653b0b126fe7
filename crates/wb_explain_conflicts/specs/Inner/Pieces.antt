-- A word, and a piece of a tree that is shown, or left out.
use Rattle.std.specs.Prelude.{◌≡◌, ◌⊎◌, ◌++◌, ℕ, List}
use Rattle.wb_explain_readings.specs.declared.piece.Piece.{Piece}
use Rattle.wb_explain_readings.specs.declared.piece.Piece.TheVariants.{Open, Leaf, Close}
use Rattle.wb_syntax_resolved.specs.declared.resolved.ResolvedParts.{ResolvedParts}
use Rattle.wb_explain_conflicts.specs.Words.{IsSpaced, piece_shown}

-- after what was there come blanks and the word
abbrev pub HasWord : List ℕ → List ℕ → List ℕ → Type 0
HasWord word old new = (entry : List ℕ) × IsSpaced word entry × (new ≡ old ++ entry)

-- the piece is no leaf
abbrev pub IsBracket : Piece → Type 0
IsBracket (Open p) = Unit {0}
IsBracket (Leaf t) = ⊥
IsBracket Close = Unit {0}

-- after what was there comes the piece, or nothing where it is no leaf
abbrev pub HasPiece : ResolvedParts → Piece → List ℕ → List ℕ → Type 0
HasPiece r piece old new = (IsBracket piece × (new ≡ old)) ⊎ HasWord (piece_shown r piece) old new
