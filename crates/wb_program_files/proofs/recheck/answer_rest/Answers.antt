-- Where an extension is named it has the report of its checks, and else the host has its.
use Rattle.std.proofs.Common.{◌≡◌, ◌∷◌, ◌⊎◌, ℕ, List, Some, None, drop, arith, subst}
use Rattle.std.proofs.lemmas.Grind.{common_steps}
use Rattle.wb_certify_files.specs.RecheckedExtensions.{IsRecheckedNamed, IsRefusedExtension}
use Rattle.wb_program_words.specs.Asked.{texts}
use Rattle.wb_program_files.specs.Commands.Recheck.{extension_reads}
use Rattle.wb_program_files.specs.Inner.Pairs.{IsFound}
use Rattle.wb_program_files.specs.Stopped.{outside}
use Rattle.wb_program_files.specs.Stops.{StopsAt}
use Rattle.wb_program_files.proofs.MakesLemmas.{answered, exhausted, handed}
use Rattle.wb_program_files.proofs.RecheckLemmas.{alone, both, few_words, refused, stops_rest, two_texts}
use Rattle.wb_program_files.proofs.StopLemmas.{goes_on_here, weaker_stop}
use Rattle.wb_program_files.proofs.recheck.answer_rest.Goals as goal

pub returns-then-extension-lt2 : goal.returns-then-extension-lt2
returns-then-extension-lt2 g c =
    let known = g.S.Shelf.files c.args.shelf.now in
    let answer = c.in_ok-rechecked_answer.field-0 in
    answered answer
    (alone c.args.operations.now.signatures known c.args.host.now.resolved (texts c.args.extension.now) answer.status answer.report.items
    (few_words c.args.extension.now (omega arith)) c.in_ok-rechecked_answer.ensures)
    (goes_on_here (outside (g.S.Shelf.files c.args.shelf.now) (g.S.Shelf.absences c.args.shelf.now) (g.S.Shelf.faults c.args.shelf.now)))

pub returns-in_err-rechecked_answer : goal.returns-in_err-rechecked_answer
returns-in_err-rechecked_answer g c =
    exhausted c.from_residual.result c.from_residual.ensures.1
    (goes_on_here (outside (g.S.Shelf.files c.args.shelf.now) (g.S.Shelf.absences c.args.shelf.now) (g.S.Shelf.faults c.args.shelf.now)))

pub returns-in_ok-rechecked_answer-in-Ok : goal.returns-in_ok-rechecked_answer-in-Ok
returns-in_ok-rechecked_answer-in-Ok g c =
    let known = g.S.Shelf.files c.args.shelf.now in
    let operations = c.args.operations.now.signatures in
    let host = c.args.host.now.resolved in
    let words = c.args.extension.now in
    let file = c.as_str-file.result.now in
    let certificate = c.as_str-certificate.result.now in
    let two : texts words ≡ file ∷ certificate ∷ drop 2 (texts words) =
    two_texts words c.index-extension-0.result c.index-extension-1.result file certificate (grind (arith, common_steps))
    c.index-extension-0.is c.index-extension-1.is c.as_str-file.ensures.value c.as_str-certificate.ensures.value in
    let found = subst (IsFound (IsRecheckedNamed host operations) (IsRefusedExtension host operations) known file certificate)
    c.in-Ok.is c.in_ok-name.ensures.ok in
    let answer = c.in_ok-rechecked_answer-in-Ok.field-0 in
    answered answer
    (both operations known host file certificate (drop 2 (texts words)) (texts words) two c.in-Ok.name answer.status answer.report.items
    found c.in_ok-rechecked_answer-in-Ok.ensures) c.read_name.ensures.goes_on

pub returns-in_err-rechecked_answer-in-Ok : goal.returns-in_err-rechecked_answer-in-Ok
returns-in_err-rechecked_answer-in-Ok g c =
    exhausted c.from_residual-in_err-rechecked_answer-in-Ok.result c.from_residual-in_err-rechecked_answer-in-Ok.ensures.1
    c.read_name.ensures.goes_on

pub returns-in-Err : goal.returns-in-Err
returns-in-Err g c =
    let known = g.S.Shelf.files c.args.shelf.now in
    let operations = c.args.operations.now.signatures in
    let host = c.args.host.now.resolved in
    let words = c.args.extension.now in
    let file = c.as_str-file.result.now in
    let certificate = c.as_str-certificate.result.now in
    let two : texts words ≡ file ∷ certificate ∷ drop 2 (texts words) =
    two_texts words c.index-extension-0.result c.index-extension-1.result file certificate (grind (arith, common_steps))
    c.index-extension-0.is c.index-extension-1.is c.as_str-file.ensures.value c.as_str-certificate.ensures.value in
    let found = subst (IsFound (IsRecheckedNamed host operations) (IsRefusedExtension host operations) known file certificate)
    c.in-Err.is c.in_ok-name.ensures.ok in
    answered c.in-Err.answer
    (refused operations known host file certificate (drop 2 (texts words)) (texts words) two c.in-Err.answer found)
    c.read_name.ensures.goes_on

pub returns-in_err-name : goal.returns-in_err-name
returns-in_err-name g c =
    let known = g.S.Shelf.files c.args.shelf.now in
    let operations = c.args.operations.now.signatures in
    let host = c.args.host.now.resolved in
    let words = c.args.extension.now in
    let file = c.as_str-file.result.now in
    let certificate = c.as_str-certificate.result.now in
    let two : texts words ≡ file ∷ certificate ∷ drop 2 (texts words) =
    two_texts words c.index-extension-0.result c.index-extension-1.result file certificate (grind (arith, common_steps))
    c.index-extension-0.is c.index-extension-1.is c.as_str-file.ensures.value c.as_str-certificate.ensures.value in
    let before = outside (g.S.Shelf.files c.args.shelf.now) (g.S.Shelf.absences c.args.shelf.now) (g.S.Shelf.faults c.args.shelf.now) in
    let now = outside (g.S.Shelf.files c.read_name.new.shelf) (g.S.Shelf.absences c.read_name.new.shelf)
    (g.S.Shelf.faults c.read_name.new.shelf) in
    let failure = c.in_err-name.field-0.0 in
    handed c.from_residual-in_err-name.result failure c.from_residual-in_err-name.ensures.1
    (weaker_stop before now (λ P. P file ⊎ P certificate) (λ P. StopsAt operations known P (extension_reads (texts words))) failure
    (stops_rest operations known host file certificate (drop 2 (texts words)) (texts words) two) c.in_err-name.ensures.stopped)
    c.read_name.ensures.goes_on
