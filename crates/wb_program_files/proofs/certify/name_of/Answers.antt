-- What was read is a certified extension of this name, and so the file is; or the run ends with its refusal.
use Rattle.std.proofs.Common.{◌≡◌, Ok, Err, subst, List, ℕ}
use Rattle.wb_certify_files.specs.ExtensionContents.{IsExtensionText, IsExtensionRefusal}
use Rattle.wb_program_files.specs.ExtensionChecks.{RefusedExtension}
use Rattle.wb_program_files.specs.Files.{KnownFile}
use Rattle.wb_program_files.proofs.FileLemmas.{read_is}
use Rattle.wb_program_files.proofs.MakesLemmas.{answered, exhausted, handed}
use Rattle.wb_program_files.proofs.ExtensionLemmas.{is_named, refused_ends}
use Rattle.wb_program_files.proofs.certify.name_of.Goals as goal

pub returns-in_ok-extension_name-in-Ok : goal.returns-in_ok-extension_name-in-Ok
returns-in_ok-extension_name-in-Ok g c =
    let known = g.S.Shelf.files c.args.shelf.now in
    let host = c.args.host.now.resolved in
    let operations = c.args.operations.now.signatures in
    let value = c.in-Ok.extension.resolved in
    let is : KnownFile known c.args.file.now (λ contents. IsExtensionText host operations contents value) =
    read_is known c.args.file.now c.in_ok-word.contents (λ bytes. IsExtensionText host operations bytes value)
    c.in_ok-word.ensures.contents c.in-Ok.ensures.ok in
    let name = c.in_ok-extension_name-in-Ok.field-0 in
    answered (Ok name) (is_named operations known host c.args.file.now name value is c.in_ok-extension_name-in-Ok.ensures)
    c.named_contents.ensures.goes_on

pub returns-in_ok-refused_extension-in-Err : goal.returns-in_ok-refused_extension-in-Err
returns-in_ok-refused_extension-in-Err g c =
    let known = g.S.Shelf.files c.args.shelf.now in
    let host = c.args.host.now.resolved in
    let operations = c.args.operations.now.signatures in
    let answer = c.in_ok-refused_extension-in-Err.field-0 in
    let cause : KnownFile known c.args.file.now (λ contents. IsExtensionRefusal host operations contents c.in-Err.refusal) =
    read_is known c.args.file.now c.in_ok-word.contents (λ bytes. IsExtensionRefusal host operations bytes c.in-Err.refusal)
    c.in_ok-word.ensures.contents c.in-Err.ensures.refused in
    let word : c.in_ok-word.word ≡ c.args.file.now = c.in_ok-word.ensures.word in
    let shown : RefusedExtension c.args.file.now c.in-Err.refusal answer.status answer.report.items =
    subst (λ (file : List ℕ). RefusedExtension file c.in-Err.refusal answer.status answer.report.items) word
    c.in_ok-refused_extension-in-Err.ensures in
    answered (Err answer)
    (refused_ends operations known host c.args.file.now c.in-Err.refusal answer.status answer.report.items cause shown)
    c.named_contents.ensures.goes_on

pub returns-in_err-word : goal.returns-in_err-word
returns-in_err-word g c =
    handed c.from_residual.result c.in_err-word.field-0.0 c.from_residual.ensures.1 c.in_err-word.ensures.stopped
    c.named_contents.ensures.goes_on

pub returns-in_err-extension_name-in-Ok : goal.returns-in_err-extension_name-in-Ok
returns-in_err-extension_name-in-Ok g c =
    exhausted c.from_residual-in_err-extension_name-in-Ok.result c.from_residual-in_err-extension_name-in-Ok.ensures.1
    c.named_contents.ensures.goes_on

pub returns-in_err-refused_extension-in-Err : goal.returns-in_err-refused_extension-in-Err
returns-in_err-refused_extension-in-Err g c =
    exhausted c.from_residual-in_err-refused_extension-in-Err.result c.from_residual-in_err-refused_extension-in-Err.ensures.1
    c.named_contents.ensures.goes_on
