-- What laws of the crates below say: that contents, texts and numbers have one answer.
use Rattle.std.specs.Prelude.{◌≡◌, ℕ, List}
use Rattle.wb_base.specs.Different.{Differ}
use Rattle.wb_compose_texts.specs.EditAnswers.{HasOneEditsAnswer}
use Rattle.wb_compose_texts.specs.Answers.{HasSameAnswer}
use Rattle.wb_compose_texts.specs.Generated.{HasOneText}
use Rattle.wb_compose_texts.specs.Readings.{HasOneReading}
use Rattle.wb_compose_texts.specs.Roots.{HasOneRootAttribute}
use Rattle.wb_compose_texts.specs.Values.{HasOneTextValue}
use Rattle.wb_compose_texts.specs.Withdrawn.{HasOneWithdrawn}
use Rattle.wb_operations.specs.Operations.{Operations, OperationSignature}
use Rattle.wb_program_files.specs.OneRecheckAnswer.{HaveOneExtensionAnswer as HaveOneRecheckedExtension, HaveOneHostAnswer}
use Rattle.wb_program_files.specs.CertificateTexts.{IsExtensionCertificate, IsHostCertificate}
use Rattle.wb_session_edits.specs.Edits.{IsList, IsListOf}
use Rattle.wb_session_edits.specs.declared.edit.Edit.{Edit}
use Rattle.wb_syntax_resolved.specs.declared.resolved.ResolvedParts.{ResolvedParts}
use Rattle.wb_text_parts.specs.Faults.{IsFirstFault}
use Rattle.wb_program_files.specs.Excludes.{ExcludesExtensions, ExcludesHeaders}
use Rattle.wb_program_texts.specs.SeveralChecks.{names_of}

-- what bytes say of lists of edits: they are one list at most, and then have no fault, and else one first fault
pub record HaveOneList (contents : List ℕ) : Type 0 where
  pub one : (edits others : List Edit) → IsListOf contents edits → IsListOf contents others → edits ≡ others
  pub no_fault : (edits : List Edit) (at : ℕ) → IsListOf contents edits → ¬ IsFirstFault IsList contents at
  pub one_fault : (m n : ℕ) → IsFirstFault IsList contents m → IsFirstFault IsList contents n → m ≡ n

-- of extensions, of what is composed, of texts, of certificates, and of what numbers make
pub record LawsBelow : Type 0 where
  pub extensions : ExcludesExtensions
  pub headers : ExcludesHeaders
  pub withdrawn : (host : ResolvedParts) (operations : List OperationSignature) (extensions : List ResolvedParts)
      → HasOneWithdrawn host operations extensions
  pub texts : (host : ResolvedParts) (operations : List OperationSignature) (extensions : List ResolvedParts)
      → HasSameAnswer host operations extensions extensions
  pub lists : (contents : List ℕ) → HaveOneList contents
  pub edits : (host : ResolvedParts) (operations : List OperationSignature) (extensions : List ResolvedParts)
      → HasOneEditsAnswer host operations extensions
  pub readings : (host : ResolvedParts) (operations : List OperationSignature) (extensions : List ResolvedParts)
      → HasOneReading host operations extensions
  pub attributes : (host : ResolvedParts) (operations : List OperationSignature) (extensions : List ResolvedParts)
      → Differ (names_of extensions) → HasOneRootAttribute host operations extensions
  pub values : (host : ResolvedParts) (operations : Operations) (extensions : List ResolvedParts)
      → Differ (names_of extensions) → HasOneTextValue host operations extensions
  pub host_certificates : (host : ResolvedParts) (text other : List ℕ) → IsHostCertificate host text → IsHostCertificate host other
      → text ≡ other
  pub extension_certificates : (extension : ResolvedParts) (text other : List ℕ) → IsExtensionCertificate extension text
      → IsExtensionCertificate extension other → text ≡ other
  pub rechecked_hosts : (operations : List OperationSignature) (contents text : List ℕ) → HaveOneHostAnswer operations contents text
  pub rechecked_extensions : (host : ResolvedParts) (operations : List OperationSignature) (contents text : List ℕ)
      → HaveOneRecheckedExtension host operations contents text
  pub made : (host : ResolvedParts) (operations : List OperationSignature) (extensions : List ResolvedParts) (number size : ℕ)
      → HasOneText host operations extensions number size
