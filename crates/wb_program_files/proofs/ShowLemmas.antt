-- What `show` makes of a file is its report, and a file is refused in one way.
use Rattle.std.proofs.Common.{◌≡◌, inl, inr, ℕ, List, Option, Some, sym, ◌∙◌, ap}
use Rattle.std.proofs.lemmas.Option.{same_Some}
use Rattle.wb_certify_files.specs.HostContents.{IsBadText}
use Rattle.wb_reader.proofs.Excluding.{none_refused, one_refusal}
use Rattle.wb_reader.specs.OneAnswer.{IsNoMemory}
use Rattle.wb_reader.specs.Refusals.{HasCause, IsAcceptedText}
use Rattle.wb_reader.specs.declared.refusal.SpecRefusal.{SpecRefusal}
use Rattle.wb_reader.specs.declared.refusal.SpecRefusal.TheVariants as s
use Rattle.wb_report.specs.declared.refusal.Refusal.{Refusal}
use Rattle.wb_certify_files.specs.Shows.{written_reason, of_spec}
use Rattle.wb_syntax.specs.SpecText.{SpecView}
use Rattle.wb_world.specs.Shelf.{Files}
use Rattle.wb_program_files.specs.Contents.{ContentsAre, ReadIs}
use Rattle.wb_program_files.specs.declared.files.Contents.{Contents}
use Rattle.wb_program_files.specs.declared.files.Contents.TheVariants.{Whole, TooLong}
use Rattle.wb_program_files.specs.declared.status.Status.{Status}
use Rattle.wb_program_files.proofs.FileLemmas.{read_is}
use Rattle.wb_program_files.specs.Commands.Show.{ShowReport}
use Rattle.wb_program_files.specs.Inner.Shown.{ContentsShow, RefusesRead, ShowsRefusal}

-- what is shown isn't out of memory
not_memory : (refusal : SpecRefusal) (shown : Refusal) → of_spec (written_reason refusal) ≡ Some shown → ¬ IsNoMemory refusal
not_memory s.TooLong shown shows none = none
not_memory s.WrongFormat shown shows none = none
not_memory (s.Syntax at) shown shows none = none
not_memory (s.BadRegex at) shown shows none = none
not_memory (s.MatchesEmpty name) shown shows none = none
not_memory (s.NoMemory error) shown shows none = absurd (cc shows)

-- what holds of what was read holds of it more weakly
weaker_read : (contents : Contents) (P Q : List ℕ → Type 0) → ((text : List ℕ) → P text → Q text) → ReadIs contents P → ReadIs contents Q
weaker_read (Whole bytes) P Q weaker is = weaker bytes.items is
weaker_read TooLong P Q weaker is = λ text long. weaker text (is text long)

-- what was read and has this refusal isn't a specification, and the line says so
pub refuses_read : (contents : Contents) (refusal : SpecRefusal) (file bytes : List ℕ) → ReadIs contents (λ text. HasCause text refusal)
    → ShowsRefusal refusal file bytes → RefusesRead contents file bytes
refuses_read contents refusal file bytes cause line = record {
  shown = line.shown;
  cause = weaker_read contents (λ text. HasCause text refusal) (λ text. IsBadText text line.shown)
      (λ text has. record { refusal = refusal; cause = has; shows = line.shows }) cause;
  line = line.line;
}

-- the report of what was read is that of the file
pub show_checks : (known : Option Files) (file : List ℕ) (contents : Contents) (status : Status) (bytes : List ℕ)
    → ContentsAre 1048576 known file contents → ContentsShow contents status bytes file → ShowReport known file status bytes
show_checks known file contents status bytes are (inl (ends, x)) = inl (
  ends,
  record { shown = x.shown; cause = read_is known file contents (λ text. IsBadText text x.shown) are x.cause; line = x.line },
)
show_checks known file contents status bytes are (inr (spec, is, rest)) =
    inr (spec, read_is known file contents (λ text. IsAcceptedText text spec) are is, rest)

-- a specification isn't refused
pub none_bad : (contents : List ℕ) (spec : SpecView) (shown : Refusal) → IsAcceptedText contents spec → ¬ IsBadText contents shown
none_bad contents spec shown is bad = not_memory bad.refusal shown bad.shows (none_refused contents spec bad.refusal is bad.cause)

-- contents are refused in one way
pub one_bad : (contents : List ℕ) (shown other : Refusal) → IsBadText contents shown → IsBadText contents other → shown ≡ other
one_bad contents shown other x y =
    let same : x.refusal ≡ y.refusal = one_refusal contents x.refusal y.refusal x.cause y.cause (not_memory x.refusal shown x.shows)
    (not_memory y.refusal other y.shows) in
    same_Some shown other (sym x.shows ∙ (ap (λ (refusal : SpecRefusal). of_spec (written_reason refusal)) same ∙ y.shows))
