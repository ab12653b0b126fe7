use Rattle.std.proofs.Common.{ℕ, List, ◌<◌, ◌≤◌, length, sym, subst}
use Rattle.std.specs.Prelude.{MatchOption}
use Rattle.std.proofs.lemmas.Result.{IfOk-weaker}
use Rattle.wb_recheck.specs.CertificateTexts.{IsExtensionCertificate}
use Rattle.wb_recheck.specs.Inner.Fit.{IsFitWithHoles, IsTextOfHoles}
use Rattle.wb_recheck.proofs.TextLemmas.{extension_told}
use Rattle.wb_recheck.proofs.written.extension_certificate.Goals as goal

pub certificate_of-requires-clause-fit : goal.certificate_of-requires-clause-fit
certificate_of-requires-clause-fit c =
    let v = c.resolved.ensures.certified in
    subst IsFitWithHoles (sym c.resolved.ensures.resolved)
    (record { grammar = v.grammar; start = v.start; fit = v.deterministic.deterministic.both.fit })

pub certificate_of-requires-clause-names : goal.certificate_of-requires-clause-names
certificate_of-requires-clause-names c = c.in_ok-head.ensures.names

pub returns : goal.returns
returns c =
    let whole = c.args.extension.now.resolved in
    let r = c.resolved.result.now in
    let v = c.resolved.ensures.certified in
    IfOk-weaker c.certificate_of.result (IsTextOfHoles r c.in_ok-head.head c.args.limit)
    (λ made. MatchOption made ((text : List ℕ) → IsExtensionCertificate whole text → c.args.limit < length text)
    (λ text. IsExtensionCertificate whole text × (length text ≤ c.args.limit)))
    (λ made within. extension_told whole r c.in_ok-head.head c.args.limit c.resolved.ensures.resolved c.in_ok-head.ensures v.grammar
    v.start made
    within) c.certificate_of.ensures
