-- The standard table keeps its meaning, and a table that keeps it keeps it with one operation more.
use Rattle.std.proofs.Common.{◌≡◌, ◌+◌, ◌-◌, ◌<◌, ◌≤◌, get_or, ◌⊎◌, inl, inr, ℕ, zero, suc, List, [], ◌∷◌, ◌++◌, Some, length, refl, sym}
use Rattle.std.proofs.Common.{ap, subst, ◌∙◌, arith, length-append}
use Rattle.std.specs.Prelude.{slice_get, Result}
use Rattle.std.proofs.lemmas.Option.{slice_get_within, same_Some}
use Rattle.std.proofs.lemmas.List.{length-map}
use Rattle.std.specs.Borrow.{Bor}
use Rattle.wb_lemmas.proofs.Places.{at_push, push_keeps, at_within, read_at}
use Rattle.wb_values.specs.declared.value.Value.{Value}
use Rattle.wb_operations.specs.declared.meaning.OperationRefusal.{OperationRefusal}
use Rattle.wb_base.specs.declared.symbol.Kind.{Kind}
use Rattle.wb_values.specs.Tree.{Plain}
use Rattle.wb_values.specs.Kinds.{AreOfKinds}
use Rattle.wb_operations.specs.Given.{Given, GivesKind, FitKinds, IsGiven, plains_of}
use Rattle.wb_operations.specs.Operations.{OperationSignature, KeepsKinds}
use Rattle.wb_operations.specs.Standard.{StandardOperation, standard_operations, standard_at, standard, standard_signature}
use Rattle.wb_operations.specs.Standard.{standard_signatures}
use Rattle.wb_operations.specs.Kept.{Pre, Post, KeepsOne, IsBuiltIn, IsKept}
use Rattle.wb_operations.proofs.KindLemmas.{sound_at, signature_at, standard_count}

-- the standard operations alone
pub kept-standard : {R : Type 0} (signatures : List OperationSignature) (runs : List R) (pre : R → Pre) (post : R → Post)
    → signatures ≡ standard_signatures → runs ≡ [] → IsKept signatures 16 runs standard pre post
kept-standard {R} signatures runs pre post is none =
    let count : length standard_signatures ≡ 16 = length-map standard_operations (λ (o : StandardOperation). o.signature)
    ∙ standard_count in
    let below : (k : ℕ) (s : OperationSignature) → slice_get standard_signatures k ≡ Some s → k < 16 = λ k s at. subst
    (λ (n : ℕ). k < n) count (slice_get_within standard_signatures k s at) in
    subst (λ (ss : List OperationSignature). IsKept ss 16 runs standard pre post) (sym is)
    (subst (λ (rs : List R). IsKept standard_signatures 16 rs standard pre post) (sym none)
    (record {
      counted = sym count;
      standard_ones = λ number lt. record { one = lt; signature = signature_at number lt; means = λ values. refl };
      each = λ k s run at there. absurd (omega (arith, slice_get_within [] k run there));
      kinds = λ number s at values are.
          let lt = below number s at in
          let same : standard_signature number ≡ s = same_Some (standard_signature number) s (sym (signature_at number lt) ∙ at) in
          let taken = subst (λ (t : OperationSignature). AreOfKinds t.takes values) (sym same) are in
          subst (λ (t : OperationSignature). GivesKind t.gives (standard number values)) same ((sound_at number lt).kind values taken);
    }))

-- one operation more
pub kept-push : {R : Type 0} (signatures more : List OperationSignature) (s : OperationSignature) (built_in : ℕ)
    (runs reserved new_runs : List R) (run : R)
    (meaning : ℕ → List Plain → Given) (pre : R → Pre) (post : R → Post) → IsKept signatures built_in runs meaning pre post
    → more ≡ signatures ++ s ∷ [] → new_runs ≡ reserved ++ run ∷ [] → reserved ≡ runs
    → KeepsOne s (meaning (length signatures)) (pre run) (post run) →
    ((values : List Plain) → AreOfKinds s.takes values → GivesKind s.gives (meaning (length signatures) values))
    → IsKept more built_in new_runs meaning pre post
kept-push {R} signatures more s built_in runs reserved new_runs run meaning pre post kept pushed last same one kind =
    let runs_are : new_runs ≡ runs ++ run ∷ [] = last ∙ ap (λ (rs : List R). rs ++ run ∷ []) same in
    subst (λ (ss : List OperationSignature). IsKept ss built_in new_runs meaning pre post) (sym pushed)
    (subst (λ (rs : List R). IsKept (signatures ++ s ∷ []) built_in rs meaning pre post) (sym runs_are)
    (record {
      counted = omega (arith, kept.counted, length-append runs (run ∷ []), length-append signatures (s ∷ []));
      standard_ones = λ number lt.
          let was = kept.standard_ones number lt in
          record { one = was.one; signature = push_keeps signatures s number (standard_signature number) was.signature; means = was.means };
      each = λ k t r at there. by_place k t r (at_push signatures s t (built_in + k) at) (at_push runs run r k there);
      kinds = λ number t at values are. of_place number t values are (at_push signatures s t number at);
    }))
  where
    by_place : (k : ℕ) (t : OperationSignature) (r : R) → (slice_get signatures (built_in + k) ≡ Some t) ⊎
        ((built_in + k ≡ length signatures) × (s ≡ t))
        → (slice_get runs k ≡ Some r) ⊎ ((k ≡ length runs) × (run ≡ r)) → KeepsOne t (meaning (built_in + k)) (pre r) (post r)
    by_place k t r (inl at) (inl there) = kept.each k t r at there
    by_place k t r (inl at) (inr there) = absurd (omega (arith, slice_get_within signatures (built_in + k) t at, there.0, kept.counted))
    by_place k t r (inr at) (inl there) = absurd (omega (arith, slice_get_within runs k r there, at.0, kept.counted))
    by_place k t r (inr at) (inr there) =
        subst (λ (x : R). KeepsOne t (meaning (built_in + k)) (pre x) (post x)) there.1
        (subst (λ (u : OperationSignature). KeepsOne u (meaning (built_in + k)) (pre run) (post run)) at.1
        (subst (λ (n : ℕ). KeepsOne s (meaning n) (pre run) (post run)) (sym at.0) one))

    of_place : (number : ℕ) (t : OperationSignature) (values : List Plain) → AreOfKinds t.takes values →
        (slice_get signatures number ≡ Some t) ⊎ ((number ≡ length signatures) × (s ≡ t))
        → GivesKind t.gives (meaning number values)
    of_place number t values are (inl at) = kept.kinds number t at values are
    of_place number t values are (inr at) =
        subst (λ (u : OperationSignature). GivesKind u.gives (meaning number values)) at.1
        (subst (λ (n : ℕ). GivesKind s.gives (meaning n values)) (sym at.0)
        (kind values (subst (λ (u : OperationSignature). AreOfKinds u.takes values) (sym at.1) are)))

-- what is known of the closure of an operation, on values that fit
pub record Kept (given : List Plain → Given) (pre : Pre) (post : Post) (vs : Bor (List Value)) : Type 0 where
  pub callable : pre vs
  pub answers : (r : Result Value OperationRefusal) → post vs r → IsGiven (given (plains_of vs.now)) r

-- it is known of each operation that isn't a standard one
pub kept-at : {R : Type 0} (signatures : List OperationSignature) (built_in : ℕ) (runs : List R) (meaning : ℕ → List Plain → Given)
    (pre : R → Pre) (post : R → Post) (operation : ℕ) (run : R)
    (vs : Bor (List Value)) → IsKept signatures built_in runs meaning pre post → operation < length signatures → built_in ≤ operation
    → run ≡ get_or runs (operation - built_in) run
    → ((s : OperationSignature) → slice_get signatures operation ≡ Some s → FitKinds s.takes vs.now) → Kept (meaning operation) (pre run)
    (post run) vs
kept-at {R} signatures built_in runs meaning pre post operation run vs kept there after is fits =
    let k = operation - built_in in
    let e : built_in + k ≡ operation = omega arith in
    let (s, at) = at_within signatures operation there in
    let here : slice_get runs k ≡ Some run = read_at runs runs k run refl (omega (arith, kept.counted)) is in
    let one = kept.each k s run (subst (λ (n : ℕ). slice_get signatures n ≡ Some s) (sym e) at) here in
    let same = subst (λ (n : ℕ). KeepsOne s (meaning n) (pre run) (post run)) e one in
    record { callable = same.callable vs (fits s at); answers = λ r answer. same.answers vs r (fits s at) answer }
