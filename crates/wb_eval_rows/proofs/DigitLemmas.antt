-- Digits to the base sixteen: they are those of one number.
use Rattle.std.proofs.Common.{◌≡◌, ◌≢◌, ◌∙◌, ◌≤◌, ◌<◌, ◌+◌, ◌*◌, ◌/◌, ◌%◌, ℕ, zero, suc, List, [], ◌∷◌, refl, sym, ap, arith}
use Rattle.wb_eval_rows.specs.Rows.{at}
use Rattle.wb_eval_rows.specs.Sparse.{digits_in, digits, node_at}

-- with more steps they are the same
enough : (f g n : ℕ) → n ≤ f → n ≤ g → digits_in f n ≡ digits_in g n
enough zero zero n le ge = refl
enough zero (suc g) zero le ge = refl
enough zero (suc g) (suc n) le ge = absurd (omega (arith, le))
enough (suc f) zero zero le ge = refl
enough (suc f) zero (suc n) le ge = absurd (omega (arith, ge))
enough (suc f) (suc g) zero le ge = refl
enough (suc f) (suc g) (suc n) le ge = ap (λ ds. suc n % 16 ∷ ds) (enough f g (suc n / 16) (omega (arith, le)) (omega (arith, ge)))

-- the digits of a number above 0
pub digits_of_some : (n : ℕ) → 0 < n → digits n ≡ n % 16 ∷ digits (n / 16)
unfolding digits
digits_of_some zero some = absurd (omega (arith, some))
digits_of_some (suc n) some = ap (λ ds. suc n % 16 ∷ ds) (enough n (suc n / 16) (suc n / 16) (omega arith) (omega arith))

pub digits_of_none : digits 0 ≡ []
unfolding digits
digits_of_none = refl

-- the number whose digits they are
abbrev value : List ℕ → ℕ
value [] = 0
value (d ∷ ds) = d + 16 * value ds

value_in : (f n : ℕ) → n ≤ f → value (digits_in f n) ≡ n
value_in zero zero le = refl
value_in zero (suc n) le = absurd (omega (arith, le))
value_in (suc f) zero le = refl
value_in (suc f) (suc n) le = let v = value_in f (suc n / 16) (omega (arith, le)) in omega (arith, v)

value_of : (n : ℕ) → value (digits n) ≡ n
unfolding digits
value_of n = value_in n n (omega arith)

pub one_number : (m n : ℕ) → digits m ≡ digits n → m ≡ n
one_number m n same = sym (value_of m) ∙ ap value same ∙ value_of n

-- two columns are one where their last digits are, and the others
pub one_column : (i j : ℕ) → i / 16 ≡ j / 16 → i % 16 ≡ j % 16 → i ≡ j
one_column i j quotients rests = omega (arith, quotients, rests)

-- the node of a row for a number of one digit, and of more
module _ (first links : List (List ℕ)) (row block : ℕ) where
  pub node_near : 0 < block → block < 16 → node_at first links row (digits block) ≡ at first row block
  node_near some less =
      let e : block / 16 ≡ 0 = omega (arith, less) in
      let d : block % 16 ≡ block = omega (arith, less) in
      ap (node_at first links row) (digits_of_some block some ∙ ap (λ n. block % 16 ∷ digits n) e ∙ ap (λ ds. block % 16 ∷ ds) digits_of_none)
      ∙ ap (at first row) d

  pub node_far : 16 ≤ block → node_at first links row (digits block) ≡ at links (node_at first links row (digits (block / 16))) (block % 16)
  node_far le =
      let up : digits (block / 16) ≡ block / 16 % 16 ∷ digits (block / 16 / 16) = digits_of_some (block / 16) (omega (arith, le)) in
      ap (node_at first links row) (digits_of_some block (omega (arith, le)) ∙ ap (λ ds. block % 16 ∷ ds) up)
      ∙ ap (λ ds. at links (node_at first links row ds) (block % 16)) (sym up)
