-- Rows in one list: a row more, and the number at a place.
use Rattle.std.proofs.Common.{◌≡◌, ℕ, zero, suc, ◌+◌, ◌*◌, ◌<◌, ◌≤◌, List, [], ◌∷◌, ◌++◌, length, get_or, take, drop, refl, sym, ◌∙◌, ap}
use Rattle.std.proofs.Common.{arith, add-one, length-append, length-drop}
use Rattle.std.proofs.lemmas.List.{take-append-le, drop-append-le, drop-drop, take_all, length-take-le, get_or-take, get_or-drop}
use Rattle.wb_lookahead.specs.Matrices.{MatrixView, rows_of}
use Rattle.wb_lemmas.proofs.Numbers.{row_within}
use Rattle.wb_lemmas.proofs.Parts.{no_elements}

pub rows_of-length : (height width : ℕ) (codes : List ℕ) → length (rows_of height width codes) ≡ height
unfolding rows_of
rows_of-length zero width codes = refl
rows_of-length (suc height) width codes = (let e = rows_of-length height width (drop width codes) in omega arith)

rows_suc : (height width : ℕ) (codes row : List ℕ) → length codes ≡ height * width → length row ≡ width →
    rows_of (suc height) width (codes ++ row) ≡ rows_of height width codes ++ row ∷ []
unfolding rows_of
rows_suc zero width codes row e len =
    let none : codes ≡ [] = no_elements codes (omega arith) in
    ap (λ (z : List ℕ). take width (z ++ row) ∷ []) none ∙ ap (λ (z : List ℕ). z ∷ []) (take_all width row (omega arith))
rows_suc (suc height) width codes row e len =
    let le : width ≤ length codes = omega arith in
    let front : take width (codes ++ row) ≡ take width codes = take-append-le width codes row le in
    let back : drop width (codes ++ row) ≡ drop width codes ++ row = drop-append-le width codes row le in
    let more = rows_suc height width (drop width codes) row (omega (arith, length-drop width codes)) len in
    ap (λ (z : List ℕ). z ∷ rows_of (suc height) width (drop width (codes ++ row))) front
    ∙ ap (λ (z : List ℕ). take width codes ∷ rows_of (suc height) width z) back ∙ ap (λ (z : List (List ℕ)). take width codes ∷ z) more

-- a row more
pub rows_of-more : (height width : ℕ) (codes row : List ℕ) → length codes ≡ height * width → length row ≡ width →
    rows_of (height + 1) width (codes ++ row) ≡ rows_of height width codes ++ row ∷ []
rows_of-more height width codes row e len = rw add-one (rows_suc height width codes row e len)

-- a row is a part of the list
rows_at : (height width : ℕ) (codes : List ℕ) (s : ℕ) → s < height → get_or (rows_of height width codes) s [] ≡ take width
    (drop (s * width) codes)
unfolding rows_of
rows_at zero width codes s lt = absurd (omega arith)
rows_at (suc height) width codes zero lt = (let e : 0 * width ≡ 0 = omega arith in ap (λ n. take width (drop n codes)) (sym e))
rows_at (suc height) width codes (suc s) lt =
    let e : width + s * width ≡ suc s * width = omega arith in
    rows_at height width (drop width codes) s (omega arith) ∙ ap (take width) (drop-drop (s * width) width codes ∙ ap (λ n. drop n codes) e)

module _ (height width : ℕ) (codes : List ℕ) (s : ℕ) where
  pub row_length : length codes ≡ height * width → s < height → length (get_or (rows_of height width codes) s []) ≡ width
  row_length e lt =
      let within = row_within height width s lt in
      ap length (rows_at height width codes s lt) ∙ length-take-le width (drop (s * width) codes)
      (omega (arith, length-drop (s * width) codes))

  pub number_at : (j : ℕ) → s < height → j < width → get_or (get_or (rows_of height width codes) s []) j 0 ≡ get_or codes (s * width + j) 0
  number_at j lt less =
      ap (λ (z : List ℕ). get_or z j 0) (rows_at height width codes s lt) ∙ get_or-take width (drop (s * width) codes) j 0 less
      ∙ get_or-drop (s * width) codes j 0

-- what a matrix with a row more shows
pub matrix_more : (height more width : ℕ) (codes new row : List ℕ) → length codes ≡ height * width → length row ≡ width →
    more ≡ height + 1 →
    new ≡ codes ++ row → ◌≡◌ {A = MatrixView} (record { width = width; rows = rows_of more width new })
    (record { width = width; rows = rows_of height width codes ++ row ∷ [] })
matrix_more height more width codes new row e len more_is new_is =
    let matrix : List (List ℕ) → MatrixView = λ z. record { width = width; rows = z } in
    ap matrix (ap (λ n. rows_of n width new) more_is ∙ ap (rows_of (height + 1) width) new_is ∙ rows_of-more height width codes row e len)

-- the list is longer by a row
pub length_more : (height more width : ℕ) (codes new row : List ℕ) → length codes ≡ height * width → length row ≡ width →
    more ≡ height + 1 → new ≡ codes ++ row → length new ≡ more * width
length_more height more width codes new row e len more_is new_is = ap length new_is
    ∙ omega (arith, length-append codes row, ap (λ n. n * width) more_is)
