-- A tree with one piece more, which is shown or left out.
use Rattle.std.proofs.Common.{◌≡◌, ◌<◌, ◌≤◌, ◌+◌, inl, inr, ◌++◌, ◌∷◌, [], ℕ, List, length, take, get_or, sym, subst, ◌∙◌, ap, Result, Ok, Err, OnOk}
use Rattle.std.proofs.lemmas.List.{take_more, take_all, map-append}
use Rattle.wb_explain_readings.specs.declared.piece.Piece.{Piece}
use Rattle.wb_explain_readings.specs.declared.piece.Piece.TheVariants.{Open, Leaf, Close}
use Rattle.wb_syntax_resolved.specs.declared.resolved.ResolvedParts.{ResolvedParts}
use Rattle.wb_explain_conflicts.proofs.WordLemmas.{no_words, word_pushed}
use Rattle.wb_explain_conflicts.specs.Inner.Pieces.{HasPiece, IsBracket}
use Rattle.wb_explain_conflicts.specs.Inner.Pieces.{HasWord}
use Rattle.wb_explain_conflicts.specs.Words.{HasTree, HasWords, LeavesOut, empty, kept, no_open, no_close, piece_shown, pieces_shown}

kept_last : {xs ys : List Piece} (x : Piece) → LeavesOut xs ys → LeavesOut (xs ++ x ∷ []) (ys ++ x ∷ [])
kept_last x empty = kept x empty
kept_last x (kept z rest) = kept z (kept_last x rest)
kept_last x (no_open p rest) = no_open p (kept_last x rest)
kept_last x (no_close rest) = no_close (kept_last x rest)

left_out : (x : Piece) → IsBracket x → LeavesOut (x ∷ []) []
left_out (Open p) is = no_open p empty
left_out (Leaf t) is = absurd is
left_out Close is = no_close empty

no_last : {xs ys : List Piece} (x : Piece) → IsBracket x → LeavesOut xs ys → LeavesOut (xs ++ x ∷ []) ys
no_last x is empty = left_out x is
no_last x is (kept z rest) = kept z (no_last x is rest)
no_last x is (no_open p rest) = no_open p (no_last x is rest)
no_last x is (no_close rest) = no_close (no_last x is rest)

-- no pieces yet
pub no_tree : (r : ResolvedParts) (xs : List Piece) (old : List ℕ) → HasTree r (take 0 xs) old old
no_tree r [] old = ([], empty, no_words (piece_shown r) [] old)
no_tree r (x ∷ xs) old = ([], empty, no_words (piece_shown r) [] old)

tree_pushed : (r : ResolvedParts) (xs : List Piece) (x : Piece) (old mid new : List ℕ) → HasTree r xs old mid → HasPiece r x mid new →
    HasTree r (xs ++ x ∷ []) old new
tree_pushed r xs x old mid new (shown, leaves, words) (inl (is, same)) =
    (shown, no_last x is leaves, subst (λ z. HasWords (pieces_shown r shown) old z) (sym same) words)
tree_pushed r xs x old mid new (shown, leaves, words) (inr word) = (
  shown ++ x ∷ [],
  kept_last x leaves,
  subst (λ z. HasWords z old new) (sym (map-append (piece_shown r) shown (x ∷ [])))
      (word_pushed (pieces_shown r shown) (piece_shown r x) old mid new words word),
)

-- one piece more
pub one_piece : (r : ResolvedParts) (xs : List Piece) (old mid new : List ℕ) (i : ℕ) (x : Piece) → HasTree r (take i xs) old mid →
    i < length xs → get_or xs i x ≡ x → HasPiece r x mid new → HasTree r (take (i + 1) xs) old new
one_piece r xs old mid new i x was within is piece =
    subst (λ z. HasTree r z old new) (sym (take_more xs i x within ∙ ap (λ z. take i xs ++ z ∷ []) is))
    (tree_pushed r (take i xs) x old mid new was piece)

-- all of them
pub all_pieces : (r : ResolvedParts) (xs : List Piece) (old new : List ℕ) (i : ℕ) → HasTree r (take i xs) old new → length xs ≤ i →
    HasTree r xs old new
all_pieces r xs old new i was ended = subst (λ z. HasTree r z old new) (take_all i xs ended) was

-- a piece that is shown
pub shown_piece : {X E : Type 0} (result : Result X E) (r : ResolvedParts) (x : Piece) (old new : List ℕ) →
    OnOk result (HasWord (piece_shown r x) old new) → OnOk result (HasPiece r x old new)
shown_piece (Ok z) r x old new word = inr word
shown_piece (Err e) r x old new word = tt
