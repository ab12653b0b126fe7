-- What a run has made where it answers, and where it stops.
use Rattle.std.proofs.Common.{◌≡◌, Result, Ok, Err, List, ℕ, ◌∷◌, inl, subst, sym}
use Rattle.std.specs.Result.{IsErrAnd}
use Rattle.wb_operations.specs.Operations.{OperationSignature}
use Rattle.wb_program_files.specs.Makes.{Makes}
use Rattle.wb_program_files.specs.Stops.{Read, file_of, StopsAt}
use Rattle.wb_program_files.specs.Stopped.{Outside, Stopped, GoesOn}
use Rattle.wb_program_files.specs.declared.answer.Answer.{Answer}
use Rattle.wb_program_files.specs.declared.files.ReadFailure.{ReadFailure}
use Rattle.wb_program_files.specs.declared.files.ReadFailure.TheVariants.{NoMemory}
use Rattle.wb_program_files.proofs.StopLemmas.{goes_on_twice, on_err, on_ok, weaker_stop, reason_since}

-- it answers
pub answered : {X : Type 0} {before now : Outside} {IsSo : X → Type 0} {Comes : (List ℕ → Type 0) → Type 0} (x : X) → IsSo x
    → GoesOn before now → Makes before now (Ok x) IsSo Comes
answered x is kept = record { ok = is; stopped = tt; goes_on = kept }

-- it hands on why it stops
pub handed : {X : Type 0} {before now : Outside} {IsSo : X → Type 0} {Comes : (List ℕ → Type 0) → Type 0} (result : Result X ReadFailure)
    (failure : ReadFailure) → IsErrAnd result (λ f. f ≡ failure) → Stopped before now Comes failure → GoesOn before now
    → Makes before now result IsSo Comes
handed (Ok x) failure is stopped kept = absurd is
handed {X} {before} {now} {IsSo} {Comes} (Err f) failure is stopped kept =
    record { ok = tt; stopped = subst (Stopped before now Comes) (sym is) stopped; goes_on = kept }

-- it has no memory left
pub exhausted : {X : Type 0} {before now : Outside} {IsSo : X → Type 0} {Comes : (List ℕ → Type 0) → Type 0}
    (result : Result X ReadFailure) → IsErrAnd result (λ f. f ≡ NoMemory) → GoesOn before now → Makes before now result IsSo Comes
exhausted result is kept = handed result NoMemory is tt kept

-- it stops at the first file
pub handed_first : {before now : Outside} {IsSo : Answer → Type 0} (operations : List OperationSignature) (read : Read)
    (reads : List Read) (result : Result Answer ReadFailure) (failure : ReadFailure) → IsErrAnd result (λ f. f ≡ failure)
    → Stopped before now (λ P. P (file_of read)) failure → GoesOn before now
    → Makes before now result IsSo (λ P. StopsAt operations before.files P (read ∷ reads))
handed_first {before} {now} operations read reads result failure is stopped kept =
    handed result failure is (weaker_stop before now (λ P. P (file_of read)) (λ P. StopsAt operations before.files P (read ∷ reads)) failure
    (λ P meets. inl meets) stopped) kept

-- what is made is so where that follows from what it is
pub made_so : {X : Type 0} {before now : Outside} {IsSo IsThere : X → Type 0} {Comes There : (List ℕ → Type 0) → Type 0}
    (result : Result X ReadFailure) → Makes before now result IsThere There → ((x : X) → IsThere x → IsSo x)
    → ((P : List ℕ → Type 0) → There P → Comes P) → Makes before now result IsSo Comes
made_so {X} {before} {now} {IsSo} {IsThere} {Comes} {There} result made so comes = record {
  ok = on_ok result IsThere IsSo so made.ok;
  stopped = on_err result (Stopped before now There) (Stopped before now Comes)
      (λ failure. weaker_stop before now There Comes failure comes) made.stopped;
  goes_on = made.goes_on;
}

-- what is made later is made since it began
pub made_since : {X : Type 0} {before between now : Outside} {IsSo IsThere : X → Type 0} {Comes There : (List ℕ → Type 0) → Type 0}
    (result : Result X ReadFailure) → GoesOn before between → Makes between now result IsThere There → ((x : X) → IsThere x → IsSo x)
    → ((P Q : List ℕ → Type 0) → ((file : List ℕ) → P file → Q file) → There P → Comes Q) → Makes before now result IsSo Comes
made_since {X} {before} {between} {now} {IsSo} {IsThere} {Comes} {There} result kept made so comes = record {
  ok = on_ok result IsThere IsSo so made.ok;
  stopped = on_err result (Stopped between now There) (Stopped before now Comes)
      (λ failure. reason_since before between now There Comes failure kept comes) made.stopped;
  goes_on = goes_on_twice before between now kept made.goes_on;
}
