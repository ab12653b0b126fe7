-- Steps that are tested one by one lead from the one kind to the other.
use Rattle.std.proofs.Common.{◌≡◌, ◌<◌, ◌≤◌, ◌+◌, ◌∷◌, [], ℕ, zero, suc, List, length, drop, get_or, refl, sym, subst, ap, ◌∙◌, arith}
use Rattle.wb_base.specs.declared.symbol.Kind.{Kind}
use Rattle.wb_operations.specs.Operations.{OperationSignature}
use Rattle.wb_values.specs.Signature.{Signature}
use Rattle.wb_explain_mismatches.specs.declared.step.Step.{Step}
use Rattle.wb_explain_mismatches.specs.Steps.{Leads, Makes}

-- what is left from a place on is what is there, and what is left after it
drop_suc : {X : Type 0} (xs : List X) (i : ℕ) (x : X) → i < length xs → drop i xs ≡ get_or xs i x ∷ drop (suc i) xs
drop_suc [] i x within = absurd (omega (arith, within))
drop_suc (y ∷ xs) zero x within = refl
drop_suc (y ∷ xs) (suc i) x within = drop_suc xs i x (omega (arith, within))

drop_at : {X : Type 0} (xs : List X) (i : ℕ) (x : X) → i < length xs → drop i xs ≡ get_or xs i x ∷ drop (i + 1) xs
drop_at xs i x within =
    let e : suc i ≡ i + 1 = omega arith in
    drop_suc xs i x within ∙ ap (λ (n : ℕ). get_or xs i x ∷ drop n xs) e

drop_all : {X : Type 0} (xs : List X) (i : ℕ) → length xs ≤ i → drop i xs ≡ []
drop_all [] zero ended = refl
drop_all [] (suc i) ended = refl
drop_all (x ∷ xs) zero ended = absurd (omega (arith, ended))
drop_all (x ∷ xs) (suc i) ended = drop_all xs i (omega (arith, ended))

module _ (signatures : List Signature) (operations : List OperationSignature) (steps : List Step) (from to : Kind) where
  -- what is left would lead from the one kind to the other, if it led to this kind
  abbrev pub WouldLead : ℕ → Kind → Type 0
  WouldLead i kind = Leads signatures operations (drop i steps) from kind → Leads signatures operations steps from to

  -- one step more
  pub leads_more : (i : ℕ) (step : Step) (kind : Kind) → i < length steps → get_or steps i step ≡ step
      → Makes signatures operations step.maker step.from step.to → step.to ≡ kind → WouldLead i kind → WouldLead (i + 1) step.from
  leads_more i step kind within is makes same would left =
      would (subst (λ (z : List Step). Leads signatures operations z from kind) (sym (drop_at steps i step within))
      (subst (λ (z : Step). Leads signatures operations (z ∷ drop (i + 1) steps) from kind) (sym is) (makes, same, left)))

  -- at the end
  pub leads_all : (i : ℕ) (kind : Kind) → length steps ≤ i → from ≡ kind → WouldLead i kind → Leads signatures operations steps from to
  leads_all i kind ended same would =
      would (subst (λ (z : List Step). Leads signatures operations z from kind) (sym (drop_all steps i ended)) same)
