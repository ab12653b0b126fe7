-- A run that stops at a later file has its cause: the files before it pass, and the count of this one rose since the run began.
use Rattle.std.proofs.Common.{◌≡◌, ◌≤◌, inl, inr, ℕ, List, [], ◌∷◌, Option, Some, None, Result, Ok, Err, IfOk, IfErr}
use Rattle.std.proofs.Common.{arith, refl, subst, ◌∙◌}
use Rattle.wb_world.specs.Cause.{Rose}
use Rattle.wb_world.specs.Shelf.{Files}
use Rattle.wb_certify_files.specs.HostContents.{IsHostText}
use Rattle.wb_certify_files.specs.WellDefined.{IsWellDefinedText}
use Rattle.wb_operations.specs.Operations.{OperationSignature}
use Rattle.wb_syntax_resolved.specs.declared.resolved.ResolvedParts.{ResolvedParts}
use Rattle.wb_program_files.specs.Stops.{Read, file_of, certified_host, well_defined_host, Passes, StopsAt, IsMissing, IsFaulty}
use Rattle.wb_program_files.specs.Files.{FileIs, KnownFile, KnownAbsent}
use Rattle.wb_program_files.specs.Stopped.{Outside, Stopped, GoesOn}
use Rattle.wb_program_files.specs.declared.files.ReadFailure.{ReadFailure}
use Rattle.wb_program_files.specs.declared.files.ReadFailure.TheVariants.{Absent, ReadFault, NoMemory}

-- a count that rose after it had not fallen rose since then
pub rose_since : (before between now : ℕ) → before ≤ between → Rose between now → Rose before now
rose_since before between now kept (inl rose) = inl (omega arith)
rose_since before between now kept (inr full) = inr full

-- the next lemma, of one file
some_file : (file : Option (List ℕ)) (Is : List ℕ → ResolvedParts → Type 0) (r : ResolvedParts) → FileIs file (λ contents. Is contents r)
    → FileIs file (λ contents. (s : ResolvedParts) × Is contents s)
some_file None Is r is = is
some_file (Some contents) Is r is = (r, is)

-- a file that is a host of this value is one of some value
some_known : (known : Option Files) (host : List ℕ) (Is : List ℕ → ResolvedParts → Type 0) (r : ResolvedParts)
    → KnownFile known host (λ contents. Is contents r) → KnownFile known host (λ contents. (s : ResolvedParts) × Is contents s)
some_known None host Is r is = tt
some_known (Some files) host Is r is = some_file (files host) Is r is

-- a file that is a certified host passes
pub some_certified : (operations : List OperationSignature) (known : Option Files) (host : List ℕ) (r : ResolvedParts)
    → KnownFile known host (λ contents. IsHostText operations contents r) → Passes operations known (certified_host host)
some_certified operations known host r is = some_known known host (IsHostText operations) r is

-- a file that is a host whose attributes are well defined passes
pub some_well_defined : (operations : List OperationSignature) (known : Option Files) (host : List ℕ) (r : ResolvedParts)
    → KnownFile known host (λ contents. IsWellDefinedText operations contents r) → Passes operations known (well_defined_host host)
some_well_defined operations known host r is = some_known known host (IsWellDefinedText operations) r is

-- where nothing was read, all is kept
pub goes_on_here : (now : Outside) → GoesOn now now
goes_on_here now = record { files = refl; absences = λ name. omega arith; faults = λ name. omega arith }

-- what is kept twice is kept
pub goes_on_twice : (before between now : Outside) → GoesOn before between → GoesOn between now → GoesOn before now
goes_on_twice before between now first second = record {
  files = second.files ∙ first.files;
  absences = λ name. omega (arith, first.absences name, second.absences name);
  faults = λ name. omega (arith, first.faults name, second.faults name);
}

-- a run that stops at its first file stops at one of its files
pub stops_first : (operations : List OperationSignature) (before now : Outside) (read : Read) (file : List ℕ) (reads : List Read)
    (failure : ReadFailure) → ((P : List ℕ → Type 0) → P file → StopsAt operations before.files P (read ∷ reads))
    → Stopped before now (λ P. P file) failure → Stopped before now (λ P. StopsAt operations before.files P (read ∷ reads)) failure
stops_first operations before now read file reads Absent first stopped =
    first (IsMissing before.files before.absences now.absences) stopped
stops_first operations before now read file reads ReadFault first stopped = first (IsFaulty before.faults now.faults) stopped
stops_first operations before now read file reads NoMemory first stopped = tt

-- a run that stops at its second file, after the first passed
pub stops_next : (operations : List OperationSignature) (before between now : Outside) (first second : Read) (failure : ReadFailure)
    → Passes operations before.files first → GoesOn before between → Stopped between now (λ P. P (file_of second)) failure
    → Stopped before now (λ P. StopsAt operations before.files P (first ∷ second ∷ [])) failure
stops_next operations before between now first second Absent passes kept (rose, absent) =
    let file = file_of second in
    inr (
      passes,
      inl (
        rose_since (before.absences file) (between.absences file) (now.absences file) (kept.absences file) rose,
        subst (λ known. KnownAbsent known file) kept.files absent,
      ),
    )
stops_next operations before between now first second ReadFault passes kept rose =
    let file = file_of second in
    inr (passes, inl (rose_since (before.faults file) (between.faults file) (now.faults file) (kept.faults file) rose))
stops_next operations before between now first second NoMemory passes kept stopped = tt

-- a run that stops for a reason stops for a weaker one
pub weaker_stop : (before now : Outside) (C D : (List ℕ → Type 0) → Type 0) (failure : ReadFailure)
    → ((P : List ℕ → Type 0) → C P → D P) → Stopped before now C failure → Stopped before now D failure
weaker_stop before now C D Absent weaker stopped = weaker (IsMissing before.files before.absences now.absences) stopped
weaker_stop before now C D ReadFault weaker stopped = weaker (IsFaulty before.faults now.faults) stopped
weaker_stop before now C D NoMemory weaker stopped = tt

-- a run that stops at a file later stops at it since it began
pub stops_since : (before between now : Outside) (file : List ℕ) (failure : ReadFailure) → GoesOn before between
    → Stopped between now (λ P. P file) failure → Stopped before now (λ P. P file) failure
stops_since before between now file Absent kept (rose, absent) = (
  rose_since (before.absences file) (between.absences file) (now.absences file) (kept.absences file) rose,
  subst
      (λ known. KnownAbsent known file) kept.files absent,
)
stops_since before between now file ReadFault kept rose = rose_since (before.faults file) (between.faults file) (now.faults file)
    (kept.faults file) rose
stops_since before between now file NoMemory kept stopped = tt

-- a run that stops later for a reason stops for it since it began
pub reason_since : (before between now : Outside) (C D : (List ℕ → Type 0) → Type 0) (failure : ReadFailure) → GoesOn before between
    → ((P Q : List ℕ → Type 0) → ((file : List ℕ) → P file → Q file) → C P → D Q) → Stopped between now C failure
    → Stopped before now D failure
reason_since before between now C D Absent kept weaker stopped =
    weaker (IsMissing between.files between.absences now.absences) (IsMissing before.files before.absences now.absences)
    (λ file missing. (
      rose_since (before.absences file) (between.absences file) (now.absences file) (kept.absences file) missing.0,
      subst (λ known. KnownAbsent known file) kept.files missing.1,
    )) stopped
reason_since before between now C D ReadFault kept weaker stopped =
    weaker (IsFaulty between.faults now.faults) (IsFaulty before.faults now.faults)
    (λ file rose. rose_since (before.faults file) (between.faults file) (now.faults file) (kept.faults file) rose) stopped
reason_since before between now C D NoMemory kept weaker stopped = tt

-- what holds of an answer, from what holds of it
pub on_ok : {X E : Type 0} (r : Result X E) (P Q : X → Type 0) → ((x : X) → P x → Q x) → IfOk r P → IfOk r Q
on_ok (Ok x) P Q weaker holds = weaker x holds
on_ok (Err e) P Q weaker holds = tt

-- the same of two
pub on_both_ok : {X E : Type 0} (r : Result X E) (P Q R : X → Type 0) → ((x : X) → P x → Q x → R x) → IfOk r P → IfOk r Q → IfOk r R
on_both_ok (Ok x) P Q R weaker p q = weaker x p q
on_both_ok (Err e) P Q R weaker p q = tt

-- what holds of an error, from what holds of it
pub on_err : {X E : Type 0} (r : Result X E) (P Q : E → Type 0) → ((e : E) → P e → Q e) → IfErr r P → IfErr r Q
on_err (Ok x) P Q weaker holds = tt
on_err (Err e) P Q weaker holds = weaker e holds

-- what holds of the answer that there is
pub ok_of : {X E : Type 0} (r : Result X E) (x : X) (P : X → Type 0) → r ≡ Ok x → IfOk r P → P x
ok_of {X} {E} r x P same holds = subst (λ (z : Result X E). IfOk z P) same holds

-- what holds of the error that there is
pub err_of : {X E : Type 0} (r : Result X E) (e : E) (P : E → Type 0) → r ≡ Err e → IfErr r P → P e
err_of {X} {E} r e P same holds = subst (λ (z : Result X E). IfErr z P) same holds

-- what holds of every answer
pub of_ok : {X E : Type 0} (r : Result X E) (P : X → Type 0) → ((x : X) → P x) → IfOk r P
of_ok (Ok x) P every = every x
of_ok (Err e) P every = tt

-- what holds of every error
pub of_err : {X E : Type 0} (r : Result X E) (P : E → Type 0) → ((e : E) → P e) → IfErr r P
of_err (Ok x) P every = tt
of_err (Err e) P every = every e
