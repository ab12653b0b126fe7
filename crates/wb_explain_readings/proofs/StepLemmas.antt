-- Lists that are gone over element by element.
use Rattle.std.proofs.Common.{◌≡◌, ◌<◌, ◌≤◌, ◌+◌, ◌-◌, ◌++◌, ◌∷◌, [], ℕ, zero, suc, List, Option, Some, None, map, length, take, drop, get_or, refl, sym, subst, ◌∙◌, ap, append_assoc, arith, MatchOption}
use Rattle.std.proofs.lemmas.List.{take_more, take_all, map-append}
use Rattle.wb_base.specs.declared.symbol.Symbol.{Symbol}
use Rattle.wb_explain_readings.specs.declared.piece.Piece.{Piece}
use Rattle.wb_explain_readings.specs.Inner.Leaves.{leaves}
use Rattle.wb_explain_readings.proofs.FrameLemmas.{holds_nothing}
use Rattle.wb_explain_readings.proofs.LeafLemmas.{leaves_joined}
use Rattle.wb_base.specs.Grammar.{GrammarView}
use Rattle.wb_explain_readings.specs.Inner.Frames.{Holds}

-- no symbol is taken yet
pub none_taken : (xs : List Symbol) (old : List (Option Symbol)) → old ≡ map Some (take 0 xs) ++ old
none_taken [] old = refl
none_taken (x ∷ xs) old = refl

-- what was taken is a mark
pub taken_mark : (top : Option (Option Symbol)) (old new : List (Option Symbol)) →
    MatchOption top ((old ≡ []) × (new ≡ [])) (λ x. old ≡ x ∷ new) → top ≡ Some None → old ≡ None ∷ new
taken_mark (Some x) old new is same = let mark : x ≡ None = cc in is ∙ ap (λ z. z ∷ new) mark
taken_mark None old new is same = absurd (cc)

-- one symbol more is taken
pub taken_more : (xs : List Symbol) (old mid new : List (Option Symbol)) (i : ℕ) (x : Symbol) → old ≡ map Some (take i xs) ++ mid →
    i < length xs → get_or xs i x ≡ x → mid ≡ Some x ∷ new → old ≡ map Some (take (i + 1) xs) ++ new
taken_more xs old mid new i x was within is top =
    was ∙ (ap (λ z. map Some (take i xs) ++ z) top ∙ (sym (append_assoc (map Some (take i xs)) (Some x ∷ []) new)
    ∙ ap (λ z. z ++ new) (sym (ap (map Some) (take_more xs i x within ∙ ap (λ z. take i xs ++ z ∷ []) is) ∙ map-append Some (take i xs) (x ∷ [])))))

-- all are, and the mark
pub taken_all : (xs : List Symbol) (old mid new : List (Option Symbol)) (i : ℕ) → old ≡ map Some (take i xs) ++ mid → length xs ≤ i →
    mid ≡ None ∷ new → old ≡ map Some xs ++ None ∷ new
taken_all xs old mid new i was ended top =
    was ∙ (ap (λ z. map Some z ++ mid) (take_all i xs ended) ∙ ap (λ z. map Some xs ++ z) top)

-- the pieces from one before
pub drop_before : (xs : List Piece) (k : ℕ) (d : Piece) → k < length xs → drop k xs ≡ get_or xs k d ∷ drop (k + 1) xs
drop_before [] k d within = absurd (omega (arith, within))
drop_before (x ∷ xs) zero d within = refl
drop_before (x ∷ xs) (suc k) d within =
    let count : suc k + 1 ≡ suc (k + 1) = omega arith in
    drop_before xs k d (omega (arith, within)) ∙ ap (λ (n : ℕ). get_or xs k d ∷ drop n (x ∷ xs)) (sym count)

drop_length : (xs : List Piece) → drop (length xs) xs ≡ []
drop_length [] = refl
drop_length (x ∷ xs) = drop_length xs

-- nothing is read yet
pub begun : (g : GrammarView) (stack : List (Option Symbol)) (xs : List Piece) → stack ≡ [] → Holds g stack (drop (length xs - 0) xs)
begun g stack xs is =
    let none : length xs - 0 ≡ length xs = omega arith in
    subst (λ z. Holds g z (drop (length xs - 0) xs)) (sym is)
    (subst (λ z. Holds g [] z) (sym (ap (λ (n : ℕ). drop n xs) none ∙ drop_length xs)) (holds_nothing g))

-- one piece more is read
pub read_more : (g : GrammarView) (stack : List (Option Symbol)) (xs : List Piece) (i : ℕ) (x : Piece) → i < length xs →
    get_or xs (length xs - 1 - i) x ≡ x → Holds g stack (x ∷ drop (length xs - i) xs) → Holds g stack (drop (length xs - (i + 1)) xs)
read_more g stack xs i x within is holds =
    let before : length xs - (i + 1) ≡ length xs - 1 - i = omega (arith, within) in
    let after : length xs - 1 - i + 1 ≡ length xs - i = omega (arith, within) in
    let below : length xs - 1 - i < length xs = omega (arith, within) in
    subst (λ z. Holds g stack z)
    (ap (λ z. z ∷ drop (length xs - i) xs) (sym is)
    ∙ (ap (λ (n : ℕ). get_or xs (length xs - 1 - i) x ∷ drop n xs) (sym after)
    ∙ (sym (drop_before xs (length xs - 1 - i) x below) ∙ ap (λ (n : ℕ). drop n xs) (sym before)))) holds

-- all is read
pub read_all : (g : GrammarView) (stack : List (Option Symbol)) (xs : List Piece) (i : ℕ) → length xs ≤ i →
    Holds g stack (drop (length xs - i) xs) → Holds g stack xs
read_all g stack xs i ended holds =
    let none : length xs - i ≡ 0 = omega (arith, ended) in
    subst (λ z. Holds g stack z) (ap (λ (n : ℕ). drop n xs) none ∙ drop_none xs) holds
  where
    drop_none : (ys : List Piece) → drop 0 ys ≡ ys
    drop_none [] = refl
    drop_none (y ∷ ys) = refl

-- the terminals of one piece more
pub leaves_more : (xs : List Piece) (old mid new : List ℕ) (i : ℕ) (x : Piece) → mid ≡ old ++ leaves (take i xs) → i < length xs →
    get_or xs i x ≡ x → new ≡ mid ++ leaves (x ∷ []) → new ≡ old ++ leaves (take (i + 1) xs)
leaves_more xs old mid new i x was within is after =
    after ∙ (ap (λ z. z ++ leaves (x ∷ [])) was ∙ (append_assoc old (leaves (take i xs)) (leaves (x ∷ []))
    ∙ ap (λ z. old ++ z) (sym (ap leaves (take_more xs i x within ∙ ap (λ z. take i xs ++ z ∷ []) is) ∙ leaves_joined (take i xs) (x ∷ [])))))
