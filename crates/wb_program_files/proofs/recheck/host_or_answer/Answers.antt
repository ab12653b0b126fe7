-- The host that was found, or the answer for its refusal.
use Rattle.std.proofs.Common.{◌≡◌, ℕ, List, Ok, IfOk, IfErr, subst}
use Rattle.std.specs.Result.{IsErrAnd}
use Rattle.wb_certify_files.specs.RecheckedHosts.{IsRecheckedHost, IsRefusedHost}
use Rattle.wb_program_files.specs.CertificateChecks.{RefusedPair}
use Rattle.wb_program_files.specs.Contents.{ReadIs}
use Rattle.wb_program_files.specs.Inner.Pairs.{IsHostBy, IsMadeHost}
use Rattle.wb_program_files.proofs.FileLemmas.{kept_ok}
use Rattle.wb_program_files.proofs.PairLemmas.{made_of}
use Rattle.wb_program_files.proofs.StopLemmas.{on_both_ok}
use Rattle.wb_program_files.proofs.recheck.host_or_answer.Goals as goal

pub returns : goal.returns
returns g c =
    let operations = c.args.operations.now.signatures in
    let pair = c.args.pair in
    let file = c.args.file.now in
    let certificate = c.args.certificate.now in
    let found = c.host_in-found.result in
    let ok = subst (λ (text : List ℕ). IfOk found
    (λ host. ReadIs pair.contents (λ bytes. IsRecheckedHost operations bytes text host.resolved)))
    c.deref.ensures.value c.host_in-found.ensures.ok in
    let refused = subst (λ (text : List ℕ). IfErr found
    (λ refusal. ReadIs pair.contents (λ bytes. IsRefusedHost operations bytes text refusal)))
    c.deref.ensures.value c.host_in-found.ensures.refused in
    on_both_ok c.certified_or_answer.result (λ made. IfOk made (λ host. found ≡ Ok host))
    (λ made. IfErr made (λ answer. IsErrAnd found (λ refusal. RefusedPair file certificate refusal answer.status answer.report.items)))
    (IsMadeHost operations pair file certificate)
    (λ made same shown. record {
      is = made_of (IsHostBy operations) (IsRefusedHost operations) pair file certificate found made same shown ok refused;
      signatures = kept_ok found made (λ host. host.operations ≡ operations) same c.host_in-found.ensures.operations;
    }) c.certified_or_answer.ensures.ok c.certified_or_answer.ensures.refused
