-- A file that is too long is refused for that.
use Rattle.std.proofs.Common.{subst, sym}
use Rattle.wb_certify_files.specs.declared.extension_refusal.FileRefusal.TheVariants as f
use Rattle.wb_certify_files.specs.RecheckedHosts.{IsRefusedHost}
use Rattle.wb_certify_files.specs.declared.contents_refusal.ContentsRefusal.{ContentsRefusal}
use Rattle.wb_certify_files.specs.declared.contents_refusal.ContentsRefusal.TheVariants as k
use Rattle.wb_report.specs.declared.refusal.Refusal.TheVariants as r
use Rattle.wb_report.specs.declared.spec_reason.SpecReason.TheVariants as t
use Rattle.wb_program_files.specs.Contents.{ReadIs}
use Rattle.wb_program_files.specs.declared.files.Contents.{Contents}
use Rattle.wb_program_files.proofs.RecheckLemmas.{too_long_host}
use Rattle.wb_program_files.proofs.recheck.host_in.Goals as goal

pub returns-in-TooLong-clause-refused : goal.returns-in-TooLong-clause-refused
returns-in-TooLong-clause-refused g c =
    let operations = c.args.operations.now.signatures in
    let text = c.args.text.now in
    subst (λ (z : ContentsRefusal). ReadIs c.args.contents (λ bytes. IsRefusedHost operations bytes text z)) (sym c.too_long.ensures)
    (subst (λ (contents : Contents). ReadIs contents
    (λ bytes. IsRefusedHost operations bytes text (k.File (f.Specification (r.Specification t.TooLong))))) (sym c.in-TooLong.is)
    (λ bytes long. too_long_host operations bytes text long))
