-- A name has one number at most, where no name is there twice; and so have a moved number and a place.
use Rattle.std.proofs.Common.{◌≡◌, ◌+◌, ◌++◌, ◌⊎◌, inl, inr, ℕ, List, Some, length, ap, sym, ◌∙◌, arith}
use Rattle.std.proofs.lemmas.Option.{slice_get_within}
use Rattle.wb_lemmas.proofs.Places.{at_once, append_keeps, append_after}
use Rattle.wb_syntax_resolved.specs.Once.{Entry, NamesDiffer}
use Rattle.wb_syntax_resolved.specs.Owners.{Sees}
use Rattle.wb_names_numbers_theory.specs.Numbering.{IsNumber}
use Rattle.wb_names_numbers_theory.specs.Moved.{IsMovedNumber}

-- of two owners whom a third sees, one sees the other
pub meeting : (owner one other : ℕ) → Sees owner one → Sees owner other → Sees one other ⊎ Sees other one
meeting owner one other (inl a) b = inr (inl a)
meeting owner one other (inr a) (inl b) = inl (inl b)
meeting owner one other (inr a) (inr b) = inl (inr (b ∙ sym a))

-- a name has one number
pub one_number : (names : List Entry) → NamesDiffer names → (owner : ℕ) (name : List ℕ) (k j : ℕ) → IsNumber names owner name k
    → IsNumber names owner name j → k ≡ j
one_number names differ owner name k j x y = by_meeting (meeting owner x.other y.other x.seen y.seen) where
  by_meeting : Sees x.other y.other ⊎ Sees y.other x.other → k ≡ j
  by_meeting (inl sees) = differ k j x.other y.other name x.is y.is sees
  by_meeting (inr sees) = sym (differ j k y.other x.other name y.is x.is sees)

-- a number is moved to one
pub one_moved : (owner_in : ℕ → ℕ) (names others : List Entry) → NamesDiffer others → (number k j : ℕ)
    → IsMovedNumber owner_in names others number k → IsMovedNumber owner_in names others number j → k ≡ j
one_moved owner_in names others differ number k j x y =
    let same : (x.owner, x.name) ≡ (y.owner, y.name) = at_once names number (x.owner, x.name) (y.owner, y.name) x.before y.before in
    differ k j (owner_in x.owner) (owner_in y.owner) y.name
    (x.after ∙ ap (λ n. Some (owner_in x.owner, n)) (ap (λ (e : Entry). e.1) same)) y.after (inr (ap (λ (e : Entry). owner_in e.0) (sym
    same)))

-- names of the first part, and of the second
pub differ_left : (xs ys : List Entry) → NamesDiffer (xs ++ ys) → NamesDiffer xs
differ_left xs ys differ i j owner other name a b sees =
    differ i j owner other name (append_keeps xs ys i (owner, name) a) (append_keeps xs ys j (other, name) b) sees

pub differ_right : (xs ys : List Entry) → NamesDiffer (xs ++ ys) → NamesDiffer ys
differ_right xs ys differ i j owner other name a b sees =
    let same : length xs + i ≡ length xs + j = differ (length xs + i) (length xs + j) owner other name (append_after xs ys i ∙ a)
    (append_after xs ys j ∙ b) sees in
    omega (arith, same)

-- no name has a number in both parts
pub not_in_both : (xs ys : List Entry) → NamesDiffer (xs ++ ys) → (owner : ℕ) (name : List ℕ) (k j : ℕ) → IsNumber xs owner name k
    → IsNumber ys owner name j → ⊥
not_in_both xs ys differ owner name k j x y =
    let same : k ≡ length xs + j = one_number (xs ++ ys) differ owner name k (length xs + j)
    (record { other = x.other; is = append_keeps xs ys k (x.other, name) x.is; seen = x.seen })
    (record { other = y.other; is = append_after xs ys j ∙ y.is; seen = y.seen }) in
    let within = slice_get_within xs k (x.other, name) x.is in
    omega (arith, same, within)
