-- Two reports by the same checks are one.
use Rattle.std.proofs.Common.{◌≡◌, inl, inr, ℕ, List, Option, Some, None, sym, ◌∙◌, subst}
use Rattle.wb_program_files.specs.Checks.{Report, Ends, Check}
use Rattle.wb_program_files.specs.Files.{FileIs}
use Rattle.wb_program_files.specs.declared.status.Status.{Status}

-- two facts of one file are facts of one text
pub on_file : (file : Option (List ℕ)) (P Q : List ℕ → Type 0) (R : Type 0) → ((contents : List ℕ) → P contents → Q contents → R)
    → FileIs file P → FileIs file Q → R
on_file None P Q R both p q = absurd p
on_file (Some contents) P Q R both p q = both contents p q

-- two reports: one status, and one text
abbrev pub AreOne : Status → Status → List ℕ → List ℕ → Type 0
AreOne s t bytes others = (s ≡ t) × (bytes ≡ others)

-- what makes two reports by one check one: it fails or passes, fails in one way, passes with one value, and goes on as one
module _ {X : Type 0} (ending s t : Status) (bytes others : List ℕ) (Line : List ℕ → Type 0) (Passes : X → Type 0) (rest : X → Report)
    (excludes : (line : List ℕ) (x : X) → Line line → Passes x → ⊥) (one_line : Line bytes → Line others → bytes ≡ others)
    (one_value : (x y : X) → Passes x → Passes y → x ≡ y)
    (goes_on : (x : X) → Passes x → rest x s bytes → rest x t others → AreOne s t bytes others) where
  -- two reports by the check are one
  pub one_check : Check ending Line Passes rest s bytes → Check ending Line Passes rest t others → AreOne s t bytes others
  one_check (inl (ends, line)) (inl (ends', line')) = (ends ∙ sym ends', one_line line line')
  one_check (inl (ends, line)) (inr (y, passes', more')) = absurd (excludes bytes y line passes')
  one_check (inr (x, passes, more)) (inl (ends', line')) = absurd (excludes others x line' passes)
  one_check (inr (x, passes, more)) (inr (y, passes', more')) =
      goes_on x passes more (subst (λ (z : X). rest z t others) (one_value y x passes' passes) more')

-- two reports that end with one status and line are one
pub one_end : (ending s t : Status) (bytes others : List ℕ) (Line : List ℕ → Type 0) → (Line bytes → Line others → bytes ≡ others)
    → Ends ending Line s bytes → Ends ending Line t others → AreOne s t bytes others
one_end ending s t bytes others Line one (ends, line) (ends', line') = (ends ∙ sym ends', one line line')
