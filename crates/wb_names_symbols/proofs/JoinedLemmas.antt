-- Grouped rows in one list, and what is known of an answer by two clauses.
use Rattle.std.proofs.Common.{◌≡◌, ℕ, List, Result, Ok, Err, subst, sym}
use Rattle.std.specs.Prelude.{IfOk}
use Rattle.wb_names_symbols.specs.Rows.{AreGroupedBy}

-- a count and a list that are others
pub joined : {X Y : Type 0} (P : X → Type 0) (R : X → Y → Type 0) (xs : List X) (count total : ℕ) (rows all : List Y) → count ≡ total
    → rows ≡ all → AreGroupedBy total P R xs all → AreGroupedBy count P R xs rows
joined P R xs count total rows all same_count same_rows is =
    subst (λ (z : ℕ). AreGroupedBy z P R xs rows) (sym same_count) (subst (AreGroupedBy total P R xs) (sym same_rows) is)

-- two facts of a value, in one
pub ok_both : {X E : Type 0} (r : Result X E) (P Q R : X → Type 0) → ((x : X) → P x → Q x → R x) → IfOk r P → IfOk r Q → IfOk r R
ok_both (Ok x) P Q R both p q = both x p q
ok_both (Err e) P Q R both p q = tt
