-- The name that was found, or the answer for a refusal.
use Rattle.std.proofs.Common.{◌≡◌, ℕ, List, Ok, IfOk, IfErr, subst}
use Rattle.std.specs.Result.{IsErrAnd}
use Rattle.wb_certify_files.specs.RecheckedExtensions.{IsRecheckedNamed, IsRefusedExtension}
use Rattle.wb_program_files.specs.CertificateChecks.{RefusedPair}
use Rattle.wb_program_files.specs.Contents.{ReadIs}
use Rattle.wb_program_files.specs.Inner.Pairs.{IsMade}
use Rattle.wb_program_files.proofs.PairLemmas.{made_of}
use Rattle.wb_program_files.proofs.StopLemmas.{on_both_ok}
use Rattle.wb_program_files.proofs.recheck.name_or_answer.Goals as goal

pub returns : goal.returns
returns g c =
    let operations = c.args.operations.now.signatures in
    let host = c.args.host.now.resolved in
    let pair = c.args.pair in
    let file = c.args.file.now in
    let certificate = c.args.certificate.now in
    let found = c.name_in-found.result in
    let ok = subst (λ (text : List ℕ). IfOk found
    (λ name. ReadIs pair.contents (λ bytes. IsRecheckedNamed host operations bytes text name)))
    c.deref.ensures.value c.name_in-found.ensures.ok in
    let refused = subst (λ (text : List ℕ). IfErr found
    (λ refusal. ReadIs pair.contents (λ bytes. IsRefusedExtension host operations bytes text refusal)))
    c.deref.ensures.value c.name_in-found.ensures.refused in
    on_both_ok c.certified_or_answer.result (λ made. IfOk made (λ name. found ≡ Ok name))
    (λ made. IfErr made (λ answer. IsErrAnd found (λ refusal. RefusedPair file certificate refusal answer.status answer.report.items)))
    (IsMade (IsRecheckedNamed host operations) (IsRefusedExtension host operations) pair file certificate)
    (λ made same shown.
    made_of (IsRecheckedNamed host operations) (IsRefusedExtension host operations) pair file certificate found made same shown ok refused)
    c.certified_or_answer.ensures.ok c.certified_or_answer.ensures.refused
