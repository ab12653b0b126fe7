-- What was read is such a host, and so the file is; or the file is refused.
use Rattle.std.proofs.Common.{◌≡◌}
use Rattle.wb_certify_files.specs.Hosts.{IsCertifiedValue}
use Rattle.wb_certify_files.specs.HostContents.{IsHostText, IsHostRefusal}
use Rattle.wb_lemmas.proofs.Refusals.{handed_on}
use Rattle.wb_program_files.specs.Contents.{ReadIs}
use Rattle.wb_program_files.specs.Files.{KnownFile}
use Rattle.wb_program_files.specs.HostChecks.{IsHostFile}
use Rattle.wb_program_files.specs.Stopped.{outside, Stopped}
use Rattle.wb_program_files.specs.declared.files.ReadFailure.{ReadFailure}
use Rattle.wb_program_files.proofs.StopLemmas.{on_both_ok, on_err}
use Rattle.wb_program_files.proofs.FileLemmas.{kept_ok, kept_refused, read_is}
use Rattle.wb_program_files.proofs.hosts.read_host.Goals as goal

pub returns-in_err-word-clause-stopped : goal.returns-in_err-word-clause-stopped
returns-in_err-word-clause-stopped g c =
    let Stops : ReadFailure → Type 0 = Stopped (outside (g.S.Shelf.files c.args.shelf.now) (g.S.Shelf.absences c.args.shelf.now) (g.S.Shelf.faults c.args.shelf.now))
    (outside (g.S.Shelf.files c.named_contents.new.shelf) (g.S.Shelf.absences c.named_contents.new.shelf)
    (g.S.Shelf.faults c.named_contents.new.shelf)) (λ P. P c.args.file.now) in
    handed_on Stops Stops c.from_residual.result c.in_err-word.field-0.0 c.from_residual.ensures.1 (λ failure stops. stops)
    c.in_err-word.ensures.stopped

pub returns-clause-ok : goal.returns-clause-ok
returns-clause-ok g c =
    let known = g.S.Shelf.files c.args.shelf.now in
    let operations = c.args.operations.now.signatures in
    let contents = c.in_ok-word.contents in
    kept_ok c.host_in-host.result c.in_ok-answered.field-0 (λ host. IsHostFile operations known c.args.file.now host.resolved) c.in_ok-answered.ensures.ok
    (on_both_ok c.host_in-host.result (λ host. IsCertifiedValue host.resolved operations)
    (λ host. ReadIs contents (λ bytes. IsHostText operations bytes host.resolved))
    (λ host. IsHostFile operations known c.args.file.now host.resolved)
    (λ host certified is. record {
      certified = certified;
      contents = read_is known c.args.file.now contents (λ bytes. IsHostText operations bytes host.resolved) c.in_ok-word.ensures.contents is;
    }) c.host_in-host.ensures.certified c.host_in-host.ensures.ok)

pub returns-clause-operations : goal.returns-clause-operations
returns-clause-operations g c =
    kept_ok c.host_in-host.result c.in_ok-answered.field-0 (λ host. host.operations ≡ c.args.operations.now.signatures)
    c.in_ok-answered.ensures.ok c.host_in-host.ensures.operations

pub returns-clause-refused : goal.returns-clause-refused
returns-clause-refused g c =
    let known = g.S.Shelf.files c.args.shelf.now in
    let operations = c.args.operations.now.signatures in
    let contents = c.in_ok-word.contents in
    kept_refused (IsHostRefusal operations) known c.args.file.now c.in_ok-word.word c.host_in-host.result c.in_ok-answered.field-0
    c.in_ok-word.ensures.word
    (on_err c.host_in-host.result (λ refusal. ReadIs contents (λ bytes. IsHostRefusal operations bytes refusal))
    (λ refusal. KnownFile known c.args.file.now (λ bytes. IsHostRefusal operations bytes refusal))
    (λ refusal. read_is known c.args.file.now contents (λ bytes. IsHostRefusal operations bytes refusal) c.in_ok-word.ensures.contents)
    c.host_in-host.ensures.refused) c.in_ok-answered.ensures.refused

pub returns-clause-goes_on : goal.returns-clause-goes_on
returns-clause-goes_on g c = c.named_contents.ensures.goes_on

pub returns-in_err-answered-clause-goes_on : goal.returns-in_err-answered-clause-goes_on
returns-in_err-answered-clause-goes_on g c = c.named_contents.ensures.goes_on

pub returns-in_err-word-clause-goes_on : goal.returns-in_err-word-clause-goes_on
returns-in_err-word-clause-goes_on g c = c.named_contents.ensures.goes_on
