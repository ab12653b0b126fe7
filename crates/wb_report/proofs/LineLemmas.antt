-- Texts that grow by one part more.
use Rattle.std.proofs.Common.{◌≡◌, ◌+◌, ◌<◌, ◌∙◌, ℕ, zero, suc, List, [], ◌∷◌, ◌++◌, take, length, get_or, sym, ap, arith, Result, Ok, Err}
use Rattle.std.specs.Prelude.{OnOk}
use Rattle.std.specs.List.{flat_map}
use Rattle.std.proofs.lemmas.List.{append-nil}
use Rattle.wb_lemmas.proofs.Parts.{append_assoc}
use Rattle.wb_report.specs.declared.pieces.Piece.{Piece}
use Rattle.wb_report.specs.Inner.Pieces.{joined, piece_text}

-- the texts of one element more
flat_more : {X : Type 0} (f : X → List ℕ) (xs : List X) (i : ℕ) (x : X) → i < length xs → x ≡ get_or xs i x
    → flat_map f (take (i + 1) xs) ≡ flat_map f (take i xs) ++ f x
flat_more f [] i x within is = absurd (omega (arith, within))
flat_more f (y ∷ xs) zero x within is = ap (λ z. f z ++ []) (sym is) ∙ append-nil (f x)
flat_more f (y ∷ xs) (suc i) x within is =
    let count : suc i + 1 ≡ suc (i + 1) = omega arith in
    ap (λ (k : ℕ). flat_map f (take k (y ∷ xs))) count ∙ ap (λ z. f y ++ z) (flat_more f xs i x (omega (arith, within)) is) ∙ sym (append_assoc (f y) (flat_map f (take i xs)) (f x))

-- what was pushed, with the text of one element more
pub pushed_more : {X : Type 0} (f : X → List ℕ) (xs : List X) (i : ℕ) (x : X) (before out after : List ℕ) → i < length xs
    → x ≡ get_or xs i x → out ≡ before ++ flat_map f (take i xs) → after ≡ out ++ f x → after ≡ before ++ flat_map f (take (i + 1) xs)
pushed_more f xs i x before out after within is was now =
    now ∙ ap (λ z. z ++ f x) was ∙ append_assoc before (flat_map f (take i xs)) (f x)
    ∙ ap (λ z. before ++ z) (sym (flat_more f xs i x within is))

-- one piece more
joined_more : (text : List ℕ) (pieces : List Piece) (i : ℕ) (piece : Piece) → i < length pieces → piece ≡ get_or pieces i piece
    → joined text (take (i + 1) pieces) ≡ joined text (take i pieces) ++ piece_text piece
joined_more text [] i piece within is = absurd (omega (arith, within))
joined_more text (p ∷ pieces) zero piece within is = ap (λ z. text ++ piece_text z) (sym is)
joined_more text (p ∷ pieces) (suc i) piece within is =
    let count : suc i + 1 ≡ suc (i + 1) = omega arith in
    ap (λ (k : ℕ). joined text (take k (p ∷ pieces))) count ∙ joined_more (text ++ piece_text p) pieces i piece (omega (arith, within)) is

-- what was pushed, with one piece more
pub pieces_more : (pieces : List Piece) (i : ℕ) (piece : Piece) (before out after : List ℕ) → i < length pieces
    → piece ≡ get_or pieces i piece → out ≡ before ++ joined [] (take i pieces) → after ≡ out ++ piece_text piece
    → after ≡ before ++ joined [] (take (i + 1) pieces)
pieces_more pieces i piece before out after within is was now =
    now ∙ ap (λ z. z ++ piece_text piece) was ∙ append_assoc before (joined [] (take i pieces)) (piece_text piece)
    ∙ ap (λ z. before ++ z) (sym (joined_more [] pieces i piece within is))

-- a part that was pushed after another
pub pushed_both : {X E : Type 0} (r : Result X E) (before mid after a b : List ℕ) → mid ≡ before ++ a → OnOk r (after ≡ mid ++ b)
    → OnOk r (after ≡ before ++ (a ++ b))
pushed_both (Ok x) before mid after a b first second = second ∙ ap (λ z. z ++ b) first ∙ append_assoc before a b
pushed_both (Err e) before mid after a b first second = tt
