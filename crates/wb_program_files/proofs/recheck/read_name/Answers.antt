-- What is made of what was read is made of the files.
use Rattle.std.proofs.Common.{Err, inl, subst}
use Rattle.wb_certify_files.specs.RecheckedExtensions.{IsRecheckedNamed, IsRefusedExtension}
use Rattle.wb_program_files.specs.Inner.Pairs.{ArePair, IsReadPair}
use Rattle.wb_program_files.specs.CertificateChecks.{HasTooLongCertificate}
use Rattle.wb_program_files.proofs.MakesLemmas.{answered, exhausted, handed}
use Rattle.wb_program_files.proofs.PairLemmas.{found_made}
use Rattle.wb_program_files.proofs.recheck.read_name.Goals as goal

pub returns-in_ok-name_or_answer-in-Ok : goal.returns-in_ok-name_or_answer-in-Ok
returns-in_ok-name_or_answer-in-Ok g c =
    let known = g.S.Shelf.files c.args.shelf.now in
    let file = c.args.file.now in
    let certificate = c.args.certificate.now in
    let host = c.args.host.now.resolved in
    let operations = c.args.operations.now.signatures in
    let are : ArePair known file certificate c.in-Ok.pair =
    subst (IsReadPair known file certificate) c.in-Ok.is c.in_ok-pair.ensures.ok in
    let made = c.in_ok-name_or_answer-in-Ok.field-0 in
    answered made
    (found_made known file certificate c.in-Ok.pair are (IsRecheckedNamed host operations) (IsRefusedExtension host operations) made
    c.in_ok-name_or_answer-in-Ok.ensures) c.read_pair.ensures.goes_on

pub returns-in_err-name_or_answer-in-Ok : goal.returns-in_err-name_or_answer-in-Ok
returns-in_err-name_or_answer-in-Ok g c =
    exhausted c.from_residual-in_err-name_or_answer-in-Ok.result c.from_residual-in_err-name_or_answer-in-Ok.ensures.1
    c.read_pair.ensures.goes_on

pub returns-in-Err : goal.returns-in-Err
returns-in-Err g c =
    let known = g.S.Shelf.files c.args.shelf.now in
    let file = c.args.file.now in
    let certificate = c.args.certificate.now in
    let answer = c.in-Err.answer in
    let long : HasTooLongCertificate known file certificate answer.status answer.report.items =
    subst (IsReadPair known file certificate) c.in-Err.is c.in_ok-pair.ensures.ok in
    answered (Err answer) (inl long) c.read_pair.ensures.goes_on

pub returns-in_err-pair : goal.returns-in_err-pair
returns-in_err-pair g c =
    handed c.from_residual.result c.in_err-pair.field-0.0 c.from_residual.ensures.1 c.in_err-pair.ensures.stopped
    c.read_pair.ensures.goes_on
