-- Contents are by a text one certified extension of a host at most, and refusals are of one sort.
use Rattle.std.proofs.Common.{◌≡◌, inl, inr, ℕ, List}
use Rattle.wb_certify_files.proofs.OneExtensionAnswer.{ExcludesBeside, ExcludesNames, names_or_host, no_bad_names, no_bad_text}
use Rattle.wb_certify_files.proofs.OneExtensionAnswer.{no_other_host, one_host, one_value}
use Rattle.wb_certify_files.specs.ExtensionContents.{NamesOtherHost, StandsFor}
use Rattle.wb_certify_shown.specs.Extensions.{extension_refusal_shown}
use Rattle.wb_operations.specs.Operations.{OperationSignature}
use Rattle.wb_recheck.specs.ExtensionRefusals.{IsBesideRecheckRefusal, IsNoExtensionCertificate}
use Rattle.wb_recheck.specs.HostRefusals.{IsMemory as IsRecheckMemory}
use Rattle.wb_recheck.specs.OneAnswer.{HasOneExtensionAnswer, HasOneExtensionSort}
use Rattle.wb_recheck.specs.declared.refusal.RecheckRefusal.{RecheckRefusal}
use Rattle.wb_recheck.specs.declared.refusal.RecheckRefusal.TheVariants as r
use Rattle.wb_report.specs.declared.refusal.Refusal.{Refusal}
use Rattle.wb_syntax_resolved.specs.declared.resolved.ResolvedParts.{ResolvedParts}
use Rattle.wb_certify_files.specs.RecheckedExtensions.{IsNoExtension, IsRecheckedExtension}
use Rattle.wb_certify_files.specs.OneRecheckAnswer.{HaveOneExtensionAnswer}
use Rattle.wb_certify_files.proofs.RecheckShownLemmas.{Holds}
use Rattle.wb_certify_files.proofs.RecheckSortLemmas.{AreFixed, none_refused, one_sort}

-- what the law of certificates says
abbrev pub ExtensionsExclude : Type 0
ExtensionsExclude = (host value : ResolvedParts) (operations : List OperationSignature) (text : List ℕ)
    → HasOneExtensionAnswer host value operations text

abbrev pub ExtensionsAreSorted : Type 0
ExtensionsAreSorted = (host value : ResolvedParts) (operations : List OperationSignature) (text : List ℕ)
    → HasOneExtensionSort host value operations text

module _ (beside : ExcludesBeside) (names : ExcludesNames) (excludes : ExtensionsExclude) (sorted : ExtensionsAreSorted)
    (host : ResolvedParts) (operations : List OperationSignature) (contents text : List ℕ) where
  no_extension : (shown : Refusal) (value : ResolvedParts) → StandsFor host contents value → IsNoExtension host contents shown → ⊥
  no_extension shown value stands (inl bad) = no_bad_text contents shown stands.spec stands.accepted bad
  no_extension shown value stands (inr bad) = no_bad_names beside names host contents shown value stands bad

  none_or_other : (shown : Refusal) (name : List ℕ) → IsNoExtension host contents shown → NamesOtherHost host contents name → ⊥
  none_or_other shown name (inl bad) other = no_bad_text contents shown other.spec other.accepted bad
  none_or_other shown name (inr bad) other = names_or_host host contents shown name other bad

  fixed : AreFixed (StandsFor host contents) (λ value rule. IsBesideRecheckRefusal host value operations text (r.Certify rule))
      (λ value. IsNoExtensionCertificate value operations text) (IsNoExtension host contents) (NamesOtherHost host contents)
  fixed = record {
    one_value = one_value host contents;
    resolved = no_extension;
    own = λ name value stands other. no_other_host host contents name value stands other;
    apart = none_or_other;
    one_other = one_host host contents;
    sorts = λ value. sorted host value operations text;
  }

  -- a value that is certified by the text has no refusal
  none_here : (value : ResolvedParts) → IsRecheckedExtension host operations contents text value → (refusal : RecheckRefusal)
      → Holds (λ rule. IsBesideRecheckRefusal host value operations text (r.Certify rule)) (IsNoExtensionCertificate value operations text)
      refusal → IsRecheckMemory refusal
  none_here value is (r.Certify rule) holds = excludes host value operations text is.certified is.certificate (r.Certify rule) holds
  none_here value is (r.Syntax place) holds = excludes host value operations text is.certified is.certificate (r.Syntax place) holds
  none_here value is (r.WrongLine number) holds =
      excludes host value operations text is.certified is.certificate (r.WrongLine number) holds
  none_here value is (r.Missing kernel) holds = excludes host value operations text is.certified is.certificate (r.Missing kernel) holds
  none_here value is (r.NoMemory error) holds = tt

  pub one_answer : HaveOneExtensionAnswer host operations contents text
  one_answer = record {
    one = λ x y first second. one_value host contents x y first.stands second.stands;
    excluded = λ value is. none_refused (StandsFor host contents)
        (λ v rule. IsBesideRecheckRefusal host v operations text (r.Certify rule)) (λ v. IsNoExtensionCertificate v operations text)
        extension_refusal_shown (IsNoExtension host contents) (NamesOtherHost host contents) fixed value is.stands (none_here value is);
    sorts = one_sort (StandsFor host contents) (λ v rule. IsBesideRecheckRefusal host v operations text (r.Certify rule))
        (λ v. IsNoExtensionCertificate v operations text) extension_refusal_shown (IsNoExtension host contents)
        (NamesOtherHost host contents) fixed;
  }
