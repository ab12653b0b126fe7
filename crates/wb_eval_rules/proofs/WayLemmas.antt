-- Instructions that are kept, and their ways that are set.
use Rattle.std.proofs.Common.{◌≡◌, ◌∙◌, ◌<◌, ◌≤◌, ℕ, zero, suc, List, [], ◌∷◌, length, refl, sym, ap, arith, get_or, take}
use Rattle.std.specs.List.{slice_set}
use Rattle.wb_eval_rules.specs.Code.{Instruction, does, job_of, way_of, instruction_of, instructions}
use Rattle.wb_eval_rules.specs.Inner.Emitted.{set_way}
use Rattle.wb_eval_rules.specs.declared.code.After.{After}
use Rattle.wb_eval_rules.specs.declared.code.Op.{Op}

abbrev with_after : Op → After → Op
with_after o after = record { task = o.task; after = after }

pub way_set : (ops : List Op) (at : ℕ) (o : Op) (after : After) → at < length ops → o ≡ get_or ops at o
    → instructions (slice_set ops at (with_after o after)) ≡ set_way (instructions ops) at (way_of after)
way_set [] at o after within is = absurd (omega (arith, within))
way_set (p ∷ ops) zero o after within is = ap (λ (z : Op). does (job_of z.task) (way_of after) ∷ instructions ops) is
way_set (p ∷ ops) (suc at) o after within is =
    ap (λ l. instruction_of p ∷ l) (way_set ops at o after (omega (arith, within)) is)

pub way_past : (ops : List Op) (at : ℕ) (after : After) → length ops ≤ at
    → instructions ops ≡ set_way (instructions ops) at (way_of after)
way_past [] at after past = refl
way_past (p ∷ ops) zero after past = absurd (omega (arith, past))
way_past (p ∷ ops) (suc at) after past = ap (λ l. instruction_of p ∷ l) (way_past ops at after (omega (arith, past)))

-- all of a list
pub take_past : {X : Type 0} (xs : List X) (n : ℕ) → length xs ≤ n → take n xs ≡ xs
take_past [] zero past = refl
take_past [] (suc n) past = refl
take_past (x ∷ xs) zero past = absurd (omega (arith, past))
take_past (x ∷ xs) (suc n) past = ap (λ l. x ∷ l) (take_past xs n (omega (arith, past)))
