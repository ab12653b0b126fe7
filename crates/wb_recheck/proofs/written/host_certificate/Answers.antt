use Rattle.std.proofs.Common.{ℕ, List, ◌≡◌, ◌<◌, ◌≤◌, length, sym, ◌∙◌, ap, subst}
use Rattle.std.specs.Prelude.{MatchOption}
use Rattle.std.proofs.lemmas.Result.{IfOk-weaker}
use Rattle.wb_base.specs.Identifiers.{IsName}
use Rattle.wb_recheck_text.specs.declared.certificate.Head.TheVariants.{Host}
use Rattle.wb_syntax_resolved.specs.declared.resolved.ResolvedParts.{ResolvedParts}
use Rattle.wb_recheck.specs.CertificateTexts.{IsHostCertificate}
use Rattle.wb_recheck.specs.Inner.Fit.{IsFitWithHoles, IsTextOfHoles}
use Rattle.wb_recheck.proofs.TextLemmas.{host_told}
use Rattle.wb_recheck.proofs.written.host_certificate.Goals as goal

pub certificate_of-requires-clause-fit : goal.certificate_of-requires-clause-fit
certificate_of-requires-clause-fit c =
    let v = c.resolved-resolved.ensures.certified in
    subst IsFitWithHoles (sym c.resolved-resolved.ensures.resolved)
    (record { grammar = v.grammar; start = v.start; fit = v.deterministic.fit })

pub certificate_of-requires-clause-names : goal.certificate_of-requires-clause-names
certificate_of-requires-clause-names c =
    subst IsName (sym (c.in_ok-name.ensures.ok ∙ ap (λ (r : ResolvedParts). r.host) c.parts.ensures.parts)) c.parts.ensures.whole.host

pub returns : goal.returns
returns c =
    let whole = c.args.host.now.resolved in
    let r = c.resolved-resolved.result.now in
    let v = c.resolved-resolved.ensures.certified in
    let named : c.in_ok-name.name ≡ r.host = c.in_ok-name.ensures.ok ∙ ap (λ (z : ResolvedParts). z.host) c.parts.ensures.parts in
    IfOk-weaker c.certificate_of.result (IsTextOfHoles r (Host c.in_ok-name.name) c.args.limit)
    (λ made. MatchOption made ((text : List ℕ) → IsHostCertificate whole text → c.args.limit < length text)
    (λ text. IsHostCertificate whole text × (length text ≤ c.args.limit)))
    (λ made within. host_told whole r c.in_ok-name.name c.args.limit c.resolved-resolved.ensures.resolved named v.grammar v.start made
    within)
    c.certificate_of.ensures
