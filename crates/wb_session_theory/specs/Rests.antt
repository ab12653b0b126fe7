-- Texts with the same rest, and what is next on them.
use Rattle.std.specs.Prelude.{◌≡◌, ◌≤◌, ◌+◌, ℕ, List, drop, length}
use Rattle.wb_scan_theory.specs.Tokens.{Next, token, over, missing}

-- the one text from the one place on is the other text from the other place on
pub record SameRest (x : List ℕ) (a : ℕ) (y : List ℕ) (b : ℕ) : Type 0 where
  pub one : a ≤ length x
  pub other : b ≤ length y
  pub same : drop a x ≡ drop b y

-- the same is next, at places that are as far behind the one place as behind the other
pub data IsMoved (a b : ℕ) (next next' : Next) : Type 0 where
  a_token : (i j t : ℕ) (lexeme : List ℕ) → next ≡ token (a + i) t lexeme (a + j) → next' ≡ token (b + i) t lexeme (b + j) →
      IsMoved a b next next'
  an_end : (i : ℕ) → next ≡ over (a + i) → next' ≡ over (b + i) → IsMoved a b next next'
  a_gap : (i : ℕ) → next ≡ missing (a + i) → next' ≡ missing (b + i) → IsMoved a b next next'
