-- What is shown of a line that is longer than what is shown of it.
use Rattle.std.proofs.Common.{◌≡◌, ◌+◌, ◌-◌, ◌<◌, ◌∙◌, ℕ, Bool, true, false, List, ◌++◌, length, take, drop, nat_le, sym, ap, refl, arith, if◌then◌else◌, Result, Ok, Err, OnOk}
use lib.Chars.{codes}
use Rattle.std.proofs.lemmas.Bool.{leb-true}
use Rattle.std.specs.List.{prefix_len}
use Rattle.std.proofs.lemmas.List.Sums.{prefix_len-le-length}
use Rattle.std.proofs.lemmas.List.{length-take}
use Rattle.wb_lemmas.proofs.Parts.{append_assoc, take_to_end}
use Rattle.wb_explain_places.specs.Characters.{continues_character}
use Rattle.wb_explain_places.specs.Window.{broken, right_of, shown}

-- a run within a part of bytes is no longer than they are
pub run_within : (bytes : List ℕ) (n : ℕ) → prefix_len continues_character (take n bytes) < length bytes + 1
run_within bytes n = omega (arith, prefix_len-le-length continues_character (take n bytes), length-take n bytes)

-- what is shown after a place, where the line is longer
right_long : (after : List ℕ) (n : ℕ) → 64 < length after → n ≡ broken (take (length after - 64) (drop 64 after))
    → shown (take (64 + n) after) ++ codes "..." ≡ right_of after
right_long after n long is = cases (nat_le (length after) 64) refl where
  cases : (b : Bool) → nat_le (length after) 64 ≡ b → shown (take (64 + n) after) ++ codes "..." ≡ right_of after
  cases true e = absurd (omega (arith, leb-true (length after) 64 e, long))
  cases false e =
      ap (λ (m : ℕ). shown (take (64 + m) after) ++ codes "...") (is ∙ ap broken (take_to_end 64 after))
      ∙ sym (ap (λ (b : Bool). if b then shown after else shown (take (64 + broken (drop 64 after)) after) ++ codes "...") e)

-- what is pushed for it
pub pushed_long : {X E : Type 0} (r : Result X E) (after before mid now : List ℕ) (n : ℕ) → 64 < length after
    → n ≡ broken (take (length after - 64) (drop 64 after)) → mid ≡ before ++ shown (take (64 + n) after)
    → OnOk r (now ≡ mid ++ codes "...") → OnOk r (now ≡ before ++ right_of after)
pushed_long (Ok x) after before mid now n long is first second =
    second ∙ (ap (λ l. l ++ codes "...") first ∙ (append_assoc before (shown (take (64 + n) after)) (codes "...")
    ∙ ap (λ l. before ++ l) (right_long after n long is)))
pushed_long (Err e) after before mid now n long is first second = tt
