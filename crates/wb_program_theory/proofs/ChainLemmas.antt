-- The first of some rules that fails has one code.
use Rattle.std.proofs.Common.{◌≡◌, ◌⊎◌, ◌∙◌, ℕ, List, inl, inr, sym}

-- the code is that of the first rule that fails: of this one, or where it holds of one after it
abbrev pub First : (Rule : Type 0) → (code : List ℕ) → (Later : List ℕ → Type 0) → List ℕ → Type 0
First Rule code Later x = ((¬ Rule) × (x ≡ code)) ⊎ (Rule × Later x)

-- no rule is left
abbrev pub NoneLeft : List ℕ → Type 0
NoneLeft x = ⊥

-- there is one code at most
abbrev pub HasOne : (List ℕ → Type 0) → Type 0
HasOne R = (x y : List ℕ) → R x → R y → x ≡ y

pub none_one : HasOne NoneLeft
none_one x y p q = absurd p

pub first_one : (Rule : Type 0) (code : List ℕ) (Later : List ℕ → Type 0) → HasOne Later → HasOne (First Rule code Later)
first_one Rule code Later one x y (inl (fails, is)) (inl (fails', is')) = is ∙ sym is'
first_one Rule code Later one x y (inl (fails, is)) (inr (holds, later)) = absurd (fails holds)
first_one Rule code Later one x y (inr (holds, later)) (inl (fails, is)) = absurd (fails holds)
first_one Rule code Later one x y (inr (holds, later)) (inr (holds', later')) = one x y later later'

-- where a rule holds, the first that fails comes after it
pub go_on : (Rule : Type 0) (code : List ℕ) (Later : List ℕ → Type 0) (x : List ℕ) → First Rule code Later x → Rule → Later x
go_on Rule code Later x (inl (fails, is)) holds = absurd (fails holds)
go_on Rule code Later x (inr (holds', later)) holds = later
