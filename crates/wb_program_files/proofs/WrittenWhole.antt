-- A report that begins with checks has a status with which it is written whole, where the rest has one.
use Rattle.std.proofs.Common.{◌≢◌, inl, inr, ℕ, Option, List, subst, sym}
use Rattle.wb_certify_files.specs.declared.host_refusal.HostRefusal.{HostRefusal}
use Rattle.wb_syntax_resolved.specs.declared.resolved.ResolvedParts.{ResolvedParts}
use Rattle.wb_world.specs.Shelf.{Files}
use Rattle.wb_program_files.specs.Checks.{Report, Ends, Check}
use Rattle.wb_program_files.specs.HostChecks.{HostChecks}
use Rattle.wb_program_files.specs.Texts.{IsText, IsTooLongText}
use Rattle.wb_program_files.specs.declared.status.Status.{Status}
use Rattle.wb_program_files.specs.declared.status.Status.TheVariants.{Usage, TextTooLong, Absent, ReadFault, WriteFault, NoMemory}

-- a status of the report of a command that is written whole
abbrev pub IsReported : Status → Type 0
IsReported Usage = ⊥
IsReported Absent = ⊥
IsReported ReadFault = ⊥
IsReported WriteFault = ⊥
IsReported NoMemory = ⊥
IsReported other = Unit {0}

-- such a status isn't one that isn't
pub differs : (s t : Status) → IsReported s → ¬ IsReported t → s ≢ t
differs s t is none same = none (subst IsReported same is)

-- a check with such a status, and a rest with one
pub by_check : {X : Type 0} (ending s : Status) (bytes : List ℕ) (Line : List ℕ → Type 0) (Passes : X → Type 0) (rest : X → Report) →
    IsReported ending
    → ((x : X) → rest x s bytes → IsReported s) → Check ending Line Passes rest s bytes → IsReported s
by_check ending s bytes Line Passes rest is more (inl (same, line)) = subst IsReported (sym same) is
by_check ending s bytes Line Passes rest is more (inr (x, passes, goes)) = more x goes

-- an end with such a status
pub by_end : (ending s : Status) (bytes : List ℕ) (Line : List ℕ → Type 0) → IsReported ending → Ends ending Line s bytes → IsReported s
by_end ending s bytes Line is (same, line) = subst IsReported (sym same) is

-- the checks of a host, and a rest with such a status
pub by_host : (IsHost : List ℕ → ResolvedParts → Type 0) (IsRefused : List ℕ → HostRefusal → Type 0) (known : Option Files) (file : List ℕ)
    (rest : ResolvedParts → Report) (s : Status) (bytes : List ℕ) → ((r : ResolvedParts) → rest r s bytes → IsReported s)
    → HostChecks IsHost IsRefused known file rest s bytes → IsReported s
by_host IsHost IsRefused known file rest s bytes more (inl (same, line)) = subst IsReported (sym same) tt
by_host IsHost IsRefused known file rest s bytes more (inr (inl (same, line))) = subst IsReported (sym same) tt
by_host IsHost IsRefused known file rest s bytes more (inr (inr (r, passes, goes))) = more r goes

-- a text that isn't too long, and a rest with such a status
pub by_text : (known : Option Files) (file : List ℕ) (rest : List ℕ → Report) (s : Status) (bytes : List ℕ)
    → ((text : List ℕ) → rest text s bytes → IsReported s)
    → Check TextTooLong (IsTooLongText known file) (IsText known file) rest s bytes → IsReported s
by_text known file rest s bytes = by_check TextTooLong s bytes (IsTooLongText known file) (IsText known file) rest tt
