-- What was read is such a host, and so the file is; or the file is refused.
use Rattle.wb_certify_files.specs.WellDefinedHosts.{HasWellDefinedAttributes}
use Rattle.wb_certify_files.specs.WellDefined.{IsWellDefinedText, IsWellDefinedTextRefusal}
use Rattle.wb_lemmas.proofs.Refusals.{handed_on}
use Rattle.wb_program_files.specs.Contents.{ReadIs}
use Rattle.wb_program_files.specs.Files.{KnownFile}
use Rattle.wb_program_files.specs.Inner.Hosts.{IsWellDefinedFile}
use Rattle.wb_program_files.specs.Stopped.{outside, Stopped}
use Rattle.wb_program_files.specs.declared.files.ReadFailure.{ReadFailure}
use Rattle.wb_program_files.proofs.StopLemmas.{on_both_ok, on_err}
use Rattle.wb_program_files.proofs.FileLemmas.{kept_ok, kept_refused, read_is}
use Rattle.wb_program_files.proofs.hosts.read_well_defined.Goals as goal

pub returns-in_err-word-clause-stopped : goal.returns-in_err-word-clause-stopped
returns-in_err-word-clause-stopped g c =
    let Stops : ReadFailure → Type 0 = Stopped (outside (g.S.Shelf.files c.args.shelf.now) (g.S.Shelf.absences c.args.shelf.now) (g.S.Shelf.faults c.args.shelf.now))
    (outside (g.S.Shelf.files c.named_contents.new.shelf) (g.S.Shelf.absences c.named_contents.new.shelf)
    (g.S.Shelf.faults c.named_contents.new.shelf)) (λ P. P c.args.file.now) in
    handed_on Stops Stops c.from_residual.result c.in_err-word.field-0.0 c.from_residual.ensures.1 (λ failure stops. stops)
    c.in_err-word.ensures.stopped

pub returns-clause-ok : goal.returns-clause-ok
returns-clause-ok g c =
    let known = g.S.Shelf.files c.args.shelf.now in
    let operations = c.args.operations.now.signatures in
    let contents = c.in_ok-word.contents in
    kept_ok c.well_defined_in-host.result c.in_ok-answered.field-0 (λ host. IsWellDefinedFile operations known c.args.file.now host) c.in_ok-answered.ensures.ok
    (on_both_ok c.well_defined_in-host.result (λ host. HasWellDefinedAttributes host operations)
    (λ host. ReadIs contents (λ bytes. IsWellDefinedText operations bytes host))
    (λ host. IsWellDefinedFile operations known c.args.file.now host)
    (λ host well_defined is. record {
      well_defined = well_defined;
      contents = read_is known c.args.file.now contents (λ bytes. IsWellDefinedText operations bytes host) c.in_ok-word.ensures.contents is;
    }) c.well_defined_in-host.ensures.well_defined c.well_defined_in-host.ensures.ok)

pub returns-clause-refused : goal.returns-clause-refused
returns-clause-refused g c =
    let known = g.S.Shelf.files c.args.shelf.now in
    let operations = c.args.operations.now.signatures in
    let contents = c.in_ok-word.contents in
    kept_refused (IsWellDefinedTextRefusal operations) known c.args.file.now c.in_ok-word.word c.well_defined_in-host.result c.in_ok-answered.field-0
    c.in_ok-word.ensures.word
    (on_err c.well_defined_in-host.result (λ refusal. ReadIs contents (λ bytes. IsWellDefinedTextRefusal operations bytes refusal))
    (λ refusal. KnownFile known c.args.file.now (λ bytes. IsWellDefinedTextRefusal operations bytes refusal))
    (λ refusal. read_is known c.args.file.now contents (λ bytes. IsWellDefinedTextRefusal operations bytes refusal) c.in_ok-word.ensures.contents)
    c.well_defined_in-host.ensures.refused) c.in_ok-answered.ensures.refused

pub returns-clause-goes_on : goal.returns-clause-goes_on
returns-clause-goes_on g c = c.named_contents.ensures.goes_on

pub returns-in_err-answered-clause-goes_on : goal.returns-in_err-answered-clause-goes_on
returns-in_err-answered-clause-goes_on g c = c.named_contents.ensures.goes_on

pub returns-in_err-word-clause-goes_on : goal.returns-in_err-word-clause-goes_on
returns-in_err-word-clause-goes_on g c = c.named_contents.ensures.goes_on
