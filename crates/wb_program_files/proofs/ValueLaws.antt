-- The report of `value`: it is written whole, and known files have one status, and one text where the host is well defined.
use Rattle.std.proofs.Common.{◌≡◌, ℕ, List, Option, Some, None, sym, ◌∙◌, subst}
use Rattle.wb_certify_files.specs.WellDefined.{IsWellDefinedText, IsWellDefinedTextRefusal}
use Rattle.wb_operations.specs.Operations.{OperationSignature, Operations}
use Rattle.wb_syntax_resolved.specs.Attribution.{IsAttribution}
use Rattle.wb_syntax_resolved.specs.declared.attribution.AttributionParts.{AttributionParts}
use Rattle.wb_syntax_resolved.specs.declared.resolved.ResolvedParts.{ResolvedParts}
use Rattle.wb_eval_root.proofs.OneAnswer.{one_answer as one_root}
use Rattle.wb_eval_root.specs.declared.answer.RootAnswer.{RootAnswer}
use Rattle.wb_eval_root.specs.declared.answer.RootAnswer.TheVariants as answered
use Rattle.wb_world.specs.Shelf.{Files}
use Rattle.wb_program_files.specs.Checks.{Check}
use Rattle.wb_program_files.specs.Files.{FileIs}
use Rattle.wb_program_files.specs.Texts.{IsText, IsTooLongText}
use Rattle.wb_program_files.specs.declared.status.Status.{Status}
use Rattle.wb_program_files.specs.declared.status.Status.TheVariants.{TextTooLong}
use Rattle.wb_program_files.proofs.OneCheck.{AreOne}
use Rattle.wb_program_files.proofs.OneHostChecks.{AreAlike, are_alike, one_short_report, one_well_defined_report}
use Rattle.wb_program_files.proofs.WrittenWhole.{IsReported, by_host, by_text}
use Rattle.wb_program_files.specs.Commands.Value.{RootReport, TermReport, ValueReport}

-- an answer has one report
one_shown : (file attribute : List ℕ) (answer : RootAnswer) (s t : Status) (bytes others : List ℕ)
    → RootReport file attribute answer s bytes → RootReport file attribute answer t others → AreOne s t bytes others
one_shown file attribute (answered.Refused reason) s t bytes others (ends, line) (ends', line') = (ends ∙ sym ends', line ∙ sym line')
one_shown file attribute answered.UnknownAttribute s t bytes others (ends, line) (ends', line') = (ends ∙ sym ends', line ∙ sym line')
one_shown file attribute (answered.Fault operation code) s t bytes others (ends, line) (ends', line') =
    (ends ∙ sym ends', line ∙ sym line')
one_shown file attribute answered.MoreSteps s t bytes others (ends, line) (ends', line') = (ends ∙ sym ends', line ∙ sym line')
one_shown file attribute answered.TooLong s t bytes others (ends, line) (ends', line') = (ends ∙ sym ends', line ∙ sym line')
one_shown file attribute (answered.Value printed) s t bytes others (ends, line) (ends', line') = (ends ∙ sym ends', line ∙ sym line')

-- two reports of a term are one
one_term_report : (operations : Operations) (parts : AttributionParts) (file attribute text : List ℕ) (s t : Status)
    (bytes others : List ℕ) → IsAttribution parts → TermReport operations parts file attribute text s bytes
    → TermReport operations parts file attribute text t others → AreOne s t bytes others
one_term_report operations parts file attribute text s t bytes others are x y =
    let same : y.answer ≡ x.answer = one_root parts operations are text attribute 1000000 y.answer x.answer y.is x.is in
    one_shown file attribute x.answer s t bytes others x.shown
    (subst (λ (z : RootAnswer). RootReport file attribute z t others) same y.shown)

-- the attributes of a host that was read are an attribution
are_attributes : (operations : List OperationSignature) (file : Option (List ℕ)) (r : ResolvedParts)
    → FileIs file (λ contents. IsWellDefinedText operations contents r) → IsAttribution r.attributes
are_attributes operations None r is = absurd is
are_attributes operations (Some contents) r is = is.stands.resolved.attributes

-- two reports of `value`
pub one_value_report : (operations : Operations) (files : Files) (host file attribute : List ℕ) (s t : Status)
    (bytes others : List ℕ) → ValueReport operations (Some files) host file attribute s bytes
    → ValueReport operations (Some files) host file attribute t others → AreAlike s t bytes others
one_value_report operations files host file attribute s t bytes others =
    one_well_defined_report operations.signatures files host s t bytes others
    (λ r. Check TextTooLong (IsTooLongText (Some files) file) (IsText (Some files) file)
    (λ (text : List ℕ). TermReport operations r.attributes file attribute text))
    (λ r is p q. are_alike s t bytes others (one_short_report files file s t bytes others
    (λ (text : List ℕ). TermReport operations r.attributes file attribute text)
    (λ text. one_term_report operations r.attributes file attribute text s t bytes others
    (are_attributes operations.signatures (files host) r is)) p q))

-- a report of an attribute at the root of a term
root_reported : (file attribute : List ℕ) (answer : RootAnswer) (s : Status) (bytes : List ℕ) → RootReport file attribute answer s bytes
    → IsReported s
root_reported file attribute (answered.Refused reason) s bytes (same, line) = subst IsReported (sym same) tt
root_reported file attribute answered.UnknownAttribute s bytes (same, line) = subst IsReported (sym same) tt
root_reported file attribute (answered.Fault operation code) s bytes (same, line) = subst IsReported (sym same) tt
root_reported file attribute answered.MoreSteps s bytes (same, line) = subst IsReported (sym same) tt
root_reported file attribute answered.TooLong s bytes (same, line) = subst IsReported (sym same) tt
root_reported file attribute (answered.Value printed) s bytes (same, line) = subst IsReported (sym same) tt

-- a report of `value`
pub value_reported : (operations : Operations) (known : Option Files) (host file attribute : List ℕ) (s : Status) (bytes : List ℕ)
    → ValueReport operations known host file attribute s bytes → IsReported s
value_reported operations known host file attribute s bytes =
    by_host (IsWellDefinedText operations.signatures) (IsWellDefinedTextRefusal operations.signatures) known host
    (λ r. Check TextTooLong (IsTooLongText known file) (IsText known file)
    (λ (text : List ℕ). TermReport operations r.attributes file attribute text)) s bytes
    (λ r. by_text known file (λ (text : List ℕ). TermReport operations r.attributes file attribute text) s bytes
    (λ text report. root_reported file attribute report.answer s bytes report.shown))
