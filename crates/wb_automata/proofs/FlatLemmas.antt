-- Rows in one list: the row of a place lies between two ends, and a push adds a row.
use Rattle.std.proofs.Common.{◌≡◌, ℕ, zero, suc, ◌+◌, ◌-◌, ◌≤◌, ◌<◌, List, [], ◌∷◌, ◌++◌, refl, sym, ◌∙◌, ap, arith, length, get_or, take}
use Rattle.std.proofs.Common.{drop}
use Rattle.std.proofs.lemmas.List.{length-drop, take_all, get_or_default}
use Rattle.wb_automata_positions.specs.Rows.{row}
use Rattle.wb_automata.specs.Rows.{rows_between}
use Rattle.wb_automata.specs.Inner.FlatRows.{start_at, AreEnds}

-- all rows have their ends
pub rows_len : (numbers : List ℕ) (from : ℕ) (ends : List ℕ) → length (rows_between numbers from ends) ≡ length ends
rows_len numbers from [] = refl
rows_len numbers from (end ∷ ends) = omega (arith, rows_len numbers end ends)

-- the last end isn't before others
ends_low : (len from : ℕ) (ends : List ℕ) → AreEnds len from ends → from ≤ len
ends_low len from [] h = omega arith
ends_low len from (end ∷ ends) (le, h) = omega (arith, ends_low len end ends h)

-- the row of a place
pub row_between : (numbers : List ℕ) (from : ℕ) (ends : List ℕ) (a : ℕ) → a < length ends → row (rows_between numbers from ends) a ≡ take
    (get_or ends a 0 - start_at from ends a) (drop (start_at from ends a) numbers)
row_between numbers from [] a lt = absurd (omega arith)
row_between numbers from (end ∷ ends) zero lt = refl
row_between numbers from (end ∷ ends) (suc zero) lt = row_between numbers end ends zero (omega arith)
row_between numbers from (end ∷ ends) (suc (suc a)) lt = row_between numbers end ends (suc a) (omega arith)

-- a place lies within
pub start_within : (len from : ℕ) (ends : List ℕ) (a : ℕ) → AreEnds len from ends → a < length ends →
    (start_at from ends a ≤ get_or ends a 0) × (get_or ends a 0 ≤ len)
start_within len from [] a h lt = absurd (omega arith)
start_within len from (end ∷ ends) zero (le, h) lt = (le, ends_low len end ends h)
start_within len from (end ∷ ends) (suc zero) (le, h) lt = start_within len end ends zero h (omega arith)
start_within len from (end ∷ ends) (suc (suc a)) (le, h) lt = start_within len end ends (suc a) h (omega arith)

-- an end more
pub ends_push : (len more from : ℕ) (ends : List ℕ) → AreEnds len from ends → AreEnds (len + more) from (ends ++ (len + more) ∷ [])
ends_push len more from [] h = (omega arith, refl)
ends_push len more from (end ∷ ends) (le, h) = (le, ends_push len more end ends h)

drop_before : (from : ℕ) (xs ys : List ℕ) → from ≤ length xs → drop from (xs ++ ys) ≡ drop from xs ++ ys
drop_before zero xs ys le = refl
drop_before (suc from) [] ys le = absurd (omega arith)
drop_before (suc from) (x ∷ xs) ys le = drop_before from xs ys (omega arith)

take_before : (n : ℕ) (xs ys : List ℕ) → n ≤ length xs → take n (xs ++ ys) ≡ take n xs
take_before zero xs ys le = refl
take_before (suc n) [] ys le = absurd (omega arith)
take_before (suc n) (x ∷ xs) ys le = ap (λ zs. x ∷ zs) (take_before n xs ys (omega arith))

drop_all : (xs : List ℕ) → drop (length xs) xs ≡ []
drop_all [] = refl
drop_all (x ∷ xs) = drop_all xs

-- a row more, after the numbers of the others
pub rows_push : (numbers more : List ℕ) (from : ℕ) (ends : List ℕ) → AreEnds (length numbers) from ends → rows_between
    (numbers ++ more) from (ends ++ (length numbers + length more) ∷ []) ≡ rows_between numbers from ends ++ more ∷ []
rows_push numbers more from [] h =
    let e : drop from (numbers ++ more) ≡ more = drop_before from numbers more (omega arith) ∙ ap (λ z. drop z numbers ++ more) h ∙ ap
    (λ zs. zs ++ more) (drop_all numbers) in
    ap (λ zs. zs ∷ []) (ap (take (length numbers + length more - from)) e ∙ take_all (length numbers + length more - from) more
    (omega arith))
rows_push numbers more from (end ∷ ends) (le, h) =
    let high = ends_low (length numbers) end ends h in
    let e : take (end - from) (drop from (numbers ++ more)) ≡ take (end - from) (drop from numbers) = ap (take (end - from))
    (drop_before from numbers more (omega arith)) ∙ take_before (end - from) (drop from numbers) more
    (omega (arith, length-drop from numbers)) in
    ap (λ z. z ∷ rows_between (numbers ++ more) end (ends ++ (length numbers + length more) ∷ [])) e ∙ ap
    (λ zs. take (end - from) (drop from numbers) ∷ zs) (rows_push numbers more end ends h)

-- what is read of the row of a place: it begins at or before its end, which is within the numbers
pub record IsRow (rows : List (List ℕ)) (numbers ends : List ℕ) (a start end : ℕ) : Type 0 where
  pub place : a < length ends
  pub order : start ≤ end
  pub within : end ≤ length numbers
  pub is : take (end - start) (drop start numbers) ≡ row rows a

pub is_row : (rows : List (List ℕ)) (numbers ends : List ℕ) (a start end : ℕ) → rows_between numbers 0 ends ≡ rows → AreEnds
    (length numbers) 0 ends → a < length rows → start ≡ start_at 0 ends a → end ≡ get_or ends a end → IsRow rows numbers ends a start end
is_row rows numbers ends a start end view h lt starts is =
    let place : a < length ends = omega (arith, ap length view, rows_len numbers 0 ends) in
    let ends_at : end ≡ get_or ends a 0 = is ∙ get_or_default ends a end 0 place in
    let (low, high) = start_within (length numbers) 0 ends a h place in
    record {
      place = place;
      order = omega arith;
      within = omega arith;
      is = ap (λ z. take (end - z) (drop z numbers)) starts ∙ ap
          (λ z. take (z - start_at 0 ends a) (drop (start_at 0 ends a) numbers)) ends_at ∙ sym (row_between numbers 0 ends a place) ∙ ap
          (λ z. row z a) view;
    }

-- a place of the rows has an end
pub place_within : (rows : List (List ℕ)) (numbers ends : List ℕ) (a : ℕ) → rows_between numbers 0 ends ≡ rows → a < length rows
    → a < length ends
place_within rows numbers ends a view lt = omega (arith, ap length view, rows_len numbers 0 ends)
