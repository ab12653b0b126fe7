-- How rows lie in one list, as one is written or laid anew.
use Rattle.std.proofs.Common.{◌≡◌, ◌≢◌, ◌∙◌, ◌≤◌, ◌<◌, ◌+◌, ◌-◌, ◌++◌, ◌⊎◌, inl, inr, ℕ, zero, suc, List, [], ◌∷◌, Some, length, map, refl}
use Rattle.std.proofs.Common.{sym, ap}
use Rattle.std.proofs.Common.{subst, arith, slice_get, slice_index_or, take, drop, replicate, option_map, append-nil}
use Rattle.std.specs.List.{slice_set}
use Rattle.std.proofs.lemmas.Bool.{cases_eq}
use Rattle.std.proofs.lemmas.List.{length-append, length-take-le, length-drop, length-map, length-set, get_or-take, get_or-drop}
use Rattle.std.proofs.lemmas.List.{drop-set-lt, drop-set-add}
use Rattle.std.proofs.lemmas.List.{take-set-le, take-append-le, drop-append-le, drop_at, take_all, length-replicate}
use Rattle.std.proofs.lemmas.Option.{same_Some, slice_get_within, slice_get-map}
use Rattle.wb_lemmas.proofs.Places.{at_default, default_at, at_push}
use Rattle.wb_eval_rows.specs.Rows.{at, row_at}
use Rattle.wb_eval_rows.specs.Inner.Lists.{IsLonger}
use Rattle.wb_eval_rows.specs.Layout.{row_of, rows_in, AreApart, IsLaid}
use Rattle.wb_eval_rows.specs.declared.rows.Row.{Row}

-- an element that is set
set_get : {X : Type 0} (xs : List X) (i : ℕ) (x d : X) → i < length xs → slice_index_or (slice_set xs i x) i d ≡ x
set_get [] i x d lt = absurd (omega arith)
set_get (y ∷ xs) zero x d lt = refl
set_get (y ∷ xs) (suc i) x d lt = set_get xs i x d (omega (arith, lt))

set_other : {X : Type 0} (xs : List X) (i j : ℕ) (x d : X) → j ≢ i → slice_index_or (slice_set xs i x) j d ≡ slice_index_or xs j d
set_other [] i j x d other = refl
set_other (y ∷ xs) zero zero x d other = absurd (other refl)
set_other (y ∷ xs) zero (suc j) x d other = refl
set_other (y ∷ xs) (suc i) zero x d other = refl
set_other (y ∷ xs) (suc i) (suc j) x d other = set_other xs i j x d (λ e. other (ap suc e))

-- past the end, and in zeros after it
past : (xs : List ℕ) (i : ℕ) → length xs ≤ i → slice_index_or xs i 0 ≡ 0
past [] i le = refl
past (x ∷ xs) zero le = absurd (omega (arith, le))
past (x ∷ xs) (suc i) le = past xs i (omega (arith, le))

only_zeros : (n i : ℕ) → slice_index_or (replicate n zero) i zero ≡ zero
only_zeros zero i = refl
only_zeros (suc n) zero = refl
only_zeros (suc n) (suc i) = only_zeros n i

with_zeros : (xs : List ℕ) (n i : ℕ) → slice_index_or (xs ++ replicate n zero) i zero ≡ slice_index_or xs i zero
with_zeros [] n i = only_zeros n i
with_zeros (x ∷ xs) n zero = refl
with_zeros (x ∷ xs) n (suc i) = with_zeros xs n i

past_rows : (rows : List (List ℕ)) (i : ℕ) → length rows ≤ i → row_at rows i ≡ []
past_rows [] i le = refl
past_rows (x ∷ rows) zero le = absurd (omega (arith, le))
past_rows (x ∷ rows) (suc i) le = past_rows rows i (omega (arith, le))

-- an empty row says nothing
pub added_at : (rows : List (List ℕ)) (i column : ℕ) → at (rows ++ [] ∷ []) i column ≡ at rows i column
added_at [] zero column = refl
added_at [] (suc i) column = refl
added_at (row ∷ rows) zero column = refl
added_at (row ∷ rows) (suc i) column = added_at rows i column

-- the row at a place
row_is : (numbers : List ℕ) (rows : List Row) (i : ℕ) (r : Row) → slice_get rows i ≡ Some r → row_at (rows_in numbers rows) i ≡ row_of numbers r
row_is numbers rows i r there =
    default_at (rows_in numbers rows) i [] (row_of numbers r)
    (slice_get-map (row_of numbers) rows i ∙ ap (option_map (row_of numbers)) there)

-- what is at a place of a list with one element set
set_here : {X : Type 0} (xs : List X) (i : ℕ) (x : X) → i < length xs → slice_get (slice_set xs i x) i ≡ Some x
set_here [] i x lt = absurd (omega arith)
set_here (y ∷ xs) zero x lt = refl
set_here (y ∷ xs) (suc i) x lt = set_here xs i x (omega (arith, lt))

set_there : {X : Type 0} (xs : List X) (i j : ℕ) (x : X) → j ≢ i → slice_get (slice_set xs i x) j ≡ slice_get xs j
set_there [] i j x d = refl
set_there (y ∷ xs) zero zero x d = absurd (d refl)
set_there (y ∷ xs) zero (suc j) x d = refl
set_there (y ∷ xs) (suc i) zero x d = refl
set_there (y ∷ xs) (suc i) (suc j) x d = set_there xs i j x (λ e. d (ap suc e))

set_cases : {X : Type 0} (xs : List X) (k i : ℕ) (x y : X) → slice_get (slice_set xs k x) i ≡ Some y
    → ((i ≡ k) × (x ≡ y)) ⊎ ((i ≢ k) × (slice_get xs i ≡ Some y))
set_cases xs k i x y at = elim (cases_eq i k) [
  | inl e ↦
      let at_k = sym (ap (slice_get (slice_set xs k x)) e) ∙ at in
      let within = slice_get_within (slice_set xs k x) k y at_k in
      let l = length-set xs k x in
      inl (e, same_Some x y (sym (set_here xs k x (omega (arith, within, l))) ∙ at_k))
  | inr d ↦ inr (d, sym (set_there xs k i x d) ∙ at)
]

-- a row that is set among others that stay
rows_set : (f g : Row → List ℕ) (rows : List Row) (k : ℕ) (new : Row) (row : List ℕ)
    → ((i : ℕ) (r : Row) → i ≢ k → slice_get rows i ≡ Some r → g r ≡ f r) → g new ≡ row → map g (slice_set rows k new) ≡ slice_set (map f rows) k row
rows_set f g [] k new row others its = refl
rows_set f g (r ∷ rows) zero new row others its =
    ap (λ l. g new ∷ l) (all_same rows (λ i s at. others (suc i) s (λ e. absurd (cc e)) at)) ∙ ap (λ l. l ∷ map f rows) its where
      all_same : (rows : List Row) → ((i : ℕ) (s : Row) → slice_get rows i ≡ Some s → g s ≡ f s) → map g rows ≡ map f rows
      all_same [] same = refl
      all_same (s ∷ rows) same = ap (λ l. l ∷ map g rows) (same 0 s refl) ∙ ap (λ l. f s ∷ l) (all_same rows (λ i z at. same (suc i) z at))
rows_set f g (r ∷ rows) (suc k) new row others its =
    ap (λ l. l ∷ map g (slice_set rows k new)) (others 0 r (λ e. absurd (cc e)) refl)
    ∙ ap (λ l. f r ∷ l) (rows_set f g rows k new row (λ i s d at. others (suc i) s (λ e. d (suc_same i k e)) at) its) where
      suc_same : (i k : ℕ) → suc i ≡ suc k → i ≡ k
      suc_same i k e = omega (arith, e)

-- an element that is set again is as it was
set_same : {X : Type 0} (xs : List X) (k : ℕ) (x : X) → slice_get xs k ≡ Some x → slice_set xs k x ≡ xs
set_same [] k x at = refl
set_same (y ∷ xs) zero x at = ap (λ z. z ∷ xs) (sym (same_Some y x at))
set_same (y ∷ xs) (suc k) x at = ap (λ l. y ∷ l) (set_same xs k x at)

module _ (numbers : List ℕ) (rows : List Row) (laid : IsLaid numbers rows) where
  -- what is read
  pub read_within : (i column : ℕ) (r : Row) → slice_get rows i ≡ Some r → column < r.width
      → (r.first + column < length numbers) × (at (rows_in numbers rows) i column ≡ slice_index_or numbers (r.first + column) 0)
  read_within i column r there lt =
      let h = laid.within i r there in (
        omega (arith, h, lt),
        ap (λ row. slice_index_or row column 0) (row_is numbers rows i r there)
            ∙ get_or-take r.width (drop r.first numbers) column 0 lt ∙ get_or-drop r.first numbers column 0,
      )

  pub read_past : (i column : ℕ) (r : Row) → slice_get rows i ≡ Some r → r.width ≤ column → at (rows_in numbers rows) i column ≡ 0
  read_past i column r there le =
      let h = laid.within i r there in
      let d = length-drop r.first numbers in
      let t = length-take-le r.width (drop r.first numbers) (omega (arith, h, d)) in
      ap (λ row. slice_index_or row column 0) (row_is numbers rows i r there) ∙ past (row_of numbers r) column (omega (arith, t, le))

  pub read_none : (i column : ℕ) → length rows ≤ i → at (rows_in numbers rows) i column ≡ 0
  read_none i column le =
      let l = length-map rows (row_of numbers) in
      ap (λ row. slice_index_or row column 0) (past_rows (rows_in numbers rows) i (omega (arith, l, le)))

  -- how long a row is
  pub row_length : (i : ℕ) (r : Row) → slice_get rows i ≡ Some r → length (row_at (rows_in numbers rows) i) ≡ r.width
  row_length i r there =
      let h = laid.within i r there in
      let d = length-drop r.first numbers in
      ap length (row_is numbers rows i r there) ∙ length-take-le r.width (drop r.first numbers) (omega (arith, h, d))

  -- an empty row more
  module _ (empty : Row) (no_first : empty.first ≡ 0) (no_width : empty.width ≡ 0) where
    pub added_laid : IsLaid numbers (rows ++ empty ∷ [])
    added_laid = record {
      within = λ i r there. elim (at_push rows empty r i there) [
        | inl before ↦ laid.within i r before
        | inr (last, same) ↦ subst (λ (z : Row). z.first + z.width ≤ length numbers) same (omega (arith, no_first, no_width))
      ];
      apart = λ i j r s at_i at_j d. elim (at_push rows empty r i at_i) [
        | inl before ↦ elim (at_push rows empty s j at_j) [
          | inl early ↦ laid.apart i j r s before early d
          | inr (last, same) ↦ subst (AreApart r) same (inr (omega (arith, no_first, no_width)))
        ]
        | inr (last, same) ↦ subst (λ (z : Row). AreApart z s) same (inl (omega (arith, no_first, no_width)))
      ];
    }

  -- more numbers after the others
  module _ (more : List ℕ) where
    same_row : (r : Row) → r.first + r.width ≤ length numbers → row_of (numbers ++ more) r ≡ row_of numbers r
    same_row r le =
        let d = length-drop r.first numbers in
        ap (take r.width) (drop-append-le r.first numbers more (omega (arith, le)))
        ∙ take-append-le r.width (drop r.first numbers) more (omega (arith, le, d))

    pub more_laid : IsLaid (numbers ++ more) rows
    more_laid = record {
      within = λ i r there. let h = laid.within i r there in let l = length-append numbers more in omega (arith, h, l);
      apart = laid.apart;
    }

    -- a row is laid anew, after the others
    module _ (k : ℕ) (new : Row) (first_is : new.first ≡ length numbers) (width_is : new.width ≡ length more) where
      pub again_laid : IsLaid (numbers ++ more) (slice_set rows k new)
      again_laid = record {
        within = λ i r there. elim (set_cases rows k i new r there) [
          | inl (here, same) ↦
              let l = length-append numbers more in
              subst (λ (z : Row). z.first + z.width ≤ length (numbers ++ more)) same (omega (arith, l, first_is, width_is))
          | inr (d, old) ↦ let h = laid.within i r old in let l = length-append numbers more in omega (arith, h, l)
        ];
        apart = λ i j r s at_i at_j d. elim (set_cases rows k i new r at_i) [
          | inl (here, same) ↦ elim (set_cases rows k j new s at_j) [
            | inl (there, both) ↦ absurd (d (here ∙ sym there))
            | inr (e, old) ↦ let h = laid.within j s old in subst (λ (z : Row). AreApart z s) same (inr (omega (arith, h, first_is)))
          ]
          | inr (e, old) ↦ elim (set_cases rows k j new s at_j) [
            | inl (there, same) ↦ let h = laid.within i r old in subst (AreApart r) same (inl (omega (arith, h, first_is)))
            | inr (f, other) ↦ laid.apart i j r s old other d
          ]
        ];
      }

      pub again_rows : rows_in (numbers ++ more) (slice_set rows k new) ≡ slice_set (rows_in numbers rows) k more
      again_rows =
          rows_set (row_of numbers) (row_of (numbers ++ more)) rows k new more (λ i r d at. same_row r (laid.within i r at))
          (ap (take new.width) (drop_at numbers more new.first (sym first_is)) ∙ take_all new.width more (omega (arith, width_is)))

  -- a number is written in a row
  module _ (k column number : ℕ) (r : Row) (there : slice_get rows k ≡ Some r) (lt : column < r.width) where
    pub written_laid : IsLaid (slice_set numbers (r.first + column) number) rows
    written_laid = record {
      within = λ i s at. let h = laid.within i s at in let l = length-set numbers (r.first + column) number in omega (arith, h, l);
      apart = laid.apart;
    }

    -- in another row, and in its own
    elsewhere : (s : Row) → AreApart r s → row_of (slice_set numbers (r.first + column) number) s ≡ row_of numbers s
    elsewhere s (inl before) =
        ap (take s.width) (drop-set-lt s.first numbers (r.first + column) number (omega (arith, before, lt)))
    elsewhere s (inr after) =
        let i = r.first + column - s.first in
        let e : s.first + i ≡ r.first + column = omega (arith, after) in
        ap (λ n. take s.width (drop s.first (slice_set numbers n number))) (sym e)
        ∙ ap (take s.width) (drop-set-add s.first numbers i number) ∙ take-set-le s.width (drop s.first numbers) i number (omega (arith, after, e))

    here : row_of (slice_set numbers (r.first + column) number) r ≡ slice_set (row_of numbers r) column number
    here = ap (take r.width) (drop-set-add r.first numbers column number) ∙ take_set (drop r.first numbers) r.width column number lt where
      take_set : (xs : List ℕ) (n i x : ℕ) → i < n → take n (slice_set xs i x) ≡ slice_set (take n xs) i x
      take_set [] zero i x lt = refl
      take_set [] (suc n) i x lt = refl
      take_set (y ∷ xs) zero i x lt = absurd (omega (arith, lt))
      take_set (y ∷ xs) (suc n) zero x lt = refl
      take_set (y ∷ xs) (suc n) (suc i) x lt = ap (λ l. y ∷ l) (take_set xs n i x (omega (arith, lt)))

    pub written_rows : rows_in (slice_set numbers (r.first + column) number) rows
        ≡ slice_set (rows_in numbers rows) k (slice_set (row_at (rows_in numbers rows) k) column number)
    written_rows =
        ap (rows_in (slice_set numbers (r.first + column) number)) (sym (set_same rows k r there))
        ∙ rows_set (row_of numbers) (row_of (slice_set numbers (r.first + column) number)) rows k r (slice_set (row_of numbers r) column number)
        (λ i s d at. elsewhere s (laid.apart k i r s there at (λ e. d (sym e)))) here
        ∙ ap (λ row. slice_set (rows_in numbers rows) k (slice_set row column number)) (sym (row_is numbers rows k r there))

-- how many rows callers see
pub rows_length : (numbers : List ℕ) (rows : List Row) (view : List (List ℕ)) → rows_in numbers rows ≡ view → length view ≡ length rows
rows_length numbers rows view is = ap length (sym is) ∙ length-map rows (row_of numbers)

-- as callers see it
module _ (numbers : List ℕ) (rows : List Row) (laid : IsLaid numbers rows) (view : List (List ℕ)) (is : rows_in numbers rows ≡ view) (k : ℕ) (r : Row)
    (there : slice_get rows k ≡ Some r) where
  pub view_row : row_at view k ≡ row_of numbers r
  view_row = ap (λ v. row_at v k) (sym is) ∙ row_is numbers rows k r there

  pub view_width : length (row_at view k) ≡ r.width
  view_width = ap (λ v. length (row_at v k)) (sym is) ∙ row_length numbers rows laid k r there

  k_within : k < length view
  k_within = let w = slice_get_within rows k r there in let l = rows_length numbers rows view is in omega (arith, w, l)

  pub write_is : (column number : ℕ) → column < length (row_at view k) → rows_in (slice_set numbers (r.first + column) number) rows
      ≡ slice_set view k (slice_set (row_at view k) column number)
  write_is column number lt =
      written_rows numbers rows laid k column number r there (let w = view_width in omega (arith, w, lt))
      ∙ ap (λ v. slice_set v k (slice_set (row_at v k) column number)) is

  pub write_within : (column : ℕ) → column < length (row_at view k) → r.first + column < length numbers
  write_within column lt = let w = view_width in let h = laid.within k r there in omega (arith, w, lt, h)

  pub long_enough : (column : ℕ) → column < r.width → IsLonger view view k column
  long_enough column lt = record {
    zeros = 0;
    longer = sym (ap (λ row. slice_set view k row) (append-nil (row_at view k)) ∙ set_same view k (row_at view k) (at_default view k [] k_within));
    within = let w = view_width in omega (arith, w, lt);
  }

  pub lay_is : (column width : ℕ) (new : Row) (longer : List ℕ) → longer ≡ numbers ++ (row_of numbers r ++ replicate (width - r.width) 0)
      → new.first ≡ length numbers → new.width ≡ width → r.width ≤ width → column < width → IsLonger view (rows_in longer (slice_set rows k new)) k column
  lay_is column width new longer longer_is first_is width_is le lt =
      let more = row_of numbers r ++ replicate (width - r.width) 0 in
      let w = view_width in
      let v = ap length view_row in
      let a = length-append (row_of numbers r) (replicate (width - r.width) 0) in
      let z = length-replicate (width - r.width) (zero) in
      let count : length more ≡ width = omega (arith, w, v, a, z, le) in
      let laid_so : rows_in longer (slice_set rows k new) ≡ slice_set view k (row_at view k ++ replicate (width - r.width) 0) =
      ap (λ l. rows_in l (slice_set rows k new)) longer_is ∙ again_rows numbers rows laid more k new first_is (width_is ∙ sym count)
      ∙ ap (λ v. slice_set v k more) is ∙ ap (λ row. slice_set view k (row ++ replicate (width - r.width) 0)) (sym view_row) in
      record {
        zeros = width - r.width;
        longer = laid_so;
        within =
            let e = ap (λ v. length (row_at v k)) laid_so
            ∙ ap length (set_get view k (row_at view k ++ replicate (width - r.width) 0) [] k_within)
            ∙ ap (λ row. length (row ++ replicate (width - r.width) 0)) view_row in
            omega (arith, e, count, lt);
      }

-- what is at each place after a row was made longer, and a number was written in it
module _ (old mid new : List (List ℕ)) (row column number : ℕ) (there : row < length old) (longer : IsLonger old mid row column)
    (written : new ≡ slice_set mid row (slice_set (row_at mid row) column number)) where
  mid_length : length mid ≡ length old
  mid_length = ap length longer.longer ∙ length-set old row (row_at old row ++ replicate longer.zeros 0)

  pub new_length : length new ≡ length old
  new_length = ap length written ∙ length-set mid row (slice_set (row_at mid row) column number) ∙ mid_length

  new_row : row_at new row ≡ slice_set (row_at mid row) column number
  new_row =
      ap (λ rows. row_at rows row) written
      ∙ set_get mid row (slice_set (row_at mid row) column number) [] (let l = mid_length in omega (arith, l, there))

  mid_row : row_at mid row ≡ row_at old row ++ replicate longer.zeros 0
  mid_row = ap (λ rows. row_at rows row) longer.longer ∙ set_get old row (row_at old row ++ replicate longer.zeros 0) [] there

  pub new_here : at new row column ≡ number
  new_here = ap (λ r. slice_index_or r column 0) new_row ∙ set_get (row_at mid row) column number 0 longer.within

  pub new_columns : (other : ℕ) → other ≢ column → at new row other ≡ at old row other
  new_columns other d =
      ap (λ r. slice_index_or r other 0) new_row ∙ set_other (row_at mid row) column other number 0 d
      ∙ ap (λ r. slice_index_or r other 0) mid_row ∙ with_zeros (row_at old row) longer.zeros other

  pub new_rows : (i other : ℕ) → i ≢ row → at new i other ≡ at old i other
  new_rows i other d =
      ap (λ rows. at rows i other) written
      ∙ ap (λ r. slice_index_or r other 0) (set_other mid row i (slice_set (row_at mid row) column number) [] d)
      ∙ ap (λ rows. at rows i other) longer.longer
      ∙ ap (λ r. slice_index_or r other 0) (set_other old row i (row_at old row ++ replicate longer.zeros 0) [] d)
