-- Contents are by a text one certified host at most, and refusals are of one sort.
use Rattle.std.proofs.Common.{◌≡◌, inl, inr, ℕ, List}
use Rattle.wb_certify_files.proofs.OneHostAnswer.{no_bad_names, no_bad_text, one_value}
use Rattle.wb_certify_files.specs.HostContents.{StandsFor}
use Rattle.wb_certify_shown.specs.Shows.{refusal_shown}
use Rattle.wb_operations.specs.Operations.{OperationSignature}
use Rattle.wb_recheck.specs.HostRefusals.{IsNoHostCertificate, IsValueRecheckRefusal, IsMemory as IsRecheckMemory}
use Rattle.wb_recheck.specs.OneAnswer.{HasOneHostAnswer, HasOneHostSort}
use Rattle.wb_recheck.specs.declared.refusal.RecheckRefusal.{RecheckRefusal}
use Rattle.wb_recheck.specs.declared.refusal.RecheckRefusal.TheVariants as r
use Rattle.wb_report.specs.declared.refusal.Refusal.{Refusal}
use Rattle.wb_syntax_resolved.specs.declared.resolved.ResolvedParts.{ResolvedParts}
use Rattle.wb_certify_files.specs.RecheckedHosts.{IsNoHost, IsRecheckedHost}
use Rattle.wb_certify_files.specs.OneRecheckAnswer.{HaveOneHostAnswer}
use Rattle.wb_certify_files.proofs.RecheckShownLemmas.{Holds}
use Rattle.wb_certify_files.proofs.RecheckSortLemmas.{AreFixed, none_refused, one_sort}

-- what the law of certificates says
abbrev pub HostsExclude : Type 0
HostsExclude = (value : ResolvedParts) (operations : List OperationSignature) (text : List ℕ) → HasOneHostAnswer value operations text

abbrev pub HostsAreSorted : Type 0
HostsAreSorted = (value : ResolvedParts) (operations : List OperationSignature) (text : List ℕ) → HasOneHostSort value operations text

module _ (excludes : HostsExclude) (sorted : HostsAreSorted) (operations : List OperationSignature) (contents text : List ℕ) where
  no_host : (shown : Refusal) (value : ResolvedParts) → StandsFor contents value → IsNoHost contents shown → ⊥
  no_host shown value stands (inl bad) = no_bad_text contents shown stands.spec stands.accepted bad
  no_host shown value stands (inr bad) = no_bad_names contents shown value stands bad

  fixed : AreFixed (StandsFor contents) (λ value rule. IsValueRecheckRefusal value operations text (r.Certify rule))
      (λ value. IsNoHostCertificate value operations text) (IsNoHost contents) (λ name. ⊥)
  fixed = record {
    one_value = one_value contents;
    resolved = no_host;
    own = λ name value stands other. other;
    apart = λ shown name none other. other;
    one_other = λ name other first second. absurd first;
    sorts = λ value. sorted value operations text;
  }

  -- a value that is certified by the text has no refusal
  none_here : (value : ResolvedParts) → IsRecheckedHost operations contents text value → (refusal : RecheckRefusal)
      → Holds (λ rule. IsValueRecheckRefusal value operations text (r.Certify rule)) (IsNoHostCertificate value operations text) refusal
      → IsRecheckMemory refusal
  none_here value is (r.Certify rule) holds = excludes value operations text is.certified is.certificate (r.Certify rule) holds
  none_here value is (r.Syntax place) holds = excludes value operations text is.certified is.certificate (r.Syntax place) holds
  none_here value is (r.WrongLine number) holds = excludes value operations text is.certified is.certificate (r.WrongLine number) holds
  none_here value is (r.Missing kernel) holds = excludes value operations text is.certified is.certificate (r.Missing kernel) holds
  none_here value is (r.NoMemory error) holds = tt

  pub one_answer : HaveOneHostAnswer operations contents text
  one_answer = record {
    one = λ x y first second. one_value contents x y first.stands second.stands;
    excluded = λ value is. none_refused (StandsFor contents) (λ v rule. IsValueRecheckRefusal v operations text (r.Certify rule))
        (λ v. IsNoHostCertificate v operations text) refusal_shown (IsNoHost contents) (λ name. ⊥) fixed value is.stands
        (none_here value is);
    sorts = one_sort (StandsFor contents) (λ v rule. IsValueRecheckRefusal v operations text (r.Certify rule))
        (λ v. IsNoHostCertificate v operations text) refusal_shown (IsNoHost contents) (λ name. ⊥) fixed;
  }
