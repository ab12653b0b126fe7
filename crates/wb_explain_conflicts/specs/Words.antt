-- Words with blanks before them, and the names of the parts of a tree that is written.
use Rattle.std.specs.Prelude.{◌≡◌, ◌≢◌, ◌⊎◌, ◌++◌, ◌∷◌, ℕ, List, [], All, map}
use Rattle.std.specs.List.{AllZip}
use lib.Chars.{codes}
use Rattle.wb_certify_files.specs.Names.{lookahead_shown, reduction_shown}
use Rattle.wb_explain_readings.specs.declared.piece.Piece.{Piece}
use Rattle.wb_explain_readings.specs.declared.piece.Piece.TheVariants.{Open, Leaf, Close}
use Rattle.wb_syntax_resolved.specs.declared.resolved.ResolvedParts.{ResolvedParts}

-- spaces and line feeds, at least one
pub record AreBlanks (blanks : List ℕ) : Type 0 where
  pub some : blanks ≢ []
  pub each : All (λ b. (b ≡ 32) ⊎ (b ≡ 10)) blanks

-- blanks and the word
abbrev pub IsSpaced : List ℕ → List ℕ → Type 0
IsSpaced word entry = (blanks : List ℕ) × AreBlanks blanks × (entry ≡ blanks ++ word)

-- the texts one after another
abbrev pub all_of : List (List ℕ) → List ℕ
all_of [] = []
all_of (x ∷ xs) = x ++ all_of xs

-- after what was there come these words in their order, each after blanks
abbrev pub HasWords : List (List ℕ) → List ℕ → List ℕ → Type 0
HasWords words old new = (entries : List (List ℕ)) × AllZip IsSpaced words entries × (new ≡ old ++ all_of entries)

-- a leaf is shown as its terminal, a node as its production with a bracket after it, up to the other bracket
abbrev pub piece_shown : ResolvedParts → Piece → List ℕ
piece_shown r (Open p) = reduction_shown r p ++ codes "["
piece_shown r (Leaf t) = lookahead_shown r t
piece_shown r Close = codes "]"

-- the second list is the first with some brackets left out: every leaf is kept
pub data LeavesOut : List Piece → List Piece → Type 0 where
  empty : LeavesOut [] []
  kept : (x : Piece) {xs ys : List Piece} → LeavesOut xs ys → LeavesOut (x ∷ xs) (x ∷ ys)
  no_open : (p : ℕ) {xs ys : List Piece} → LeavesOut xs ys → LeavesOut (Open p ∷ xs) ys
  no_close : {xs ys : List Piece} → LeavesOut xs ys → LeavesOut (Close ∷ xs) ys

-- a tree that is written
abbrev pub pieces_shown : ResolvedParts → List Piece → List (List ℕ)
pieces_shown r pieces = map (piece_shown r) pieces

-- after what was there come the words of a tree, with some brackets left out
abbrev pub HasTree : ResolvedParts → List Piece → List ℕ → List ℕ → Type 0
HasTree r pieces old new = (shown : List Piece) × LeavesOut pieces shown × HasWords (pieces_shown r shown) old new

-- the terminals of a text
abbrev pub text_shown : ResolvedParts → List ℕ → List (List ℕ)
text_shown r text = map (lookahead_shown r) text
