-- Extensions are read after their host, and their report comes after that host's checks.
use Rattle.std.proofs.Common.{rules, ◌≤◌, sym, [], Option, inr, length, map, subst, arith}
use Rattle.wb_certify_files.specs.HostContents.{IsHostText, IsHostRefusal}
use Rattle.wb_world.specs.Shelf.{Files}
use Rattle.wb_program_words.specs.Asked.{texts}
use Rattle.wb_program_files.specs.Stops.{certified_extension}
use Rattle.wb_program_files.specs.Files.{KnownFile}
use Rattle.wb_program_files.specs.HostChecks.{IsHostFile, RefusesHost}
use Rattle.wb_program_files.specs.Stopped.{outside}
use Rattle.wb_program_files.proofs.StopLemmas.{err_of, goes_on_here, some_certified}
use Rattle.wb_program_files.proofs.WordLemmas.{few_texts}
use Rattle.wb_program_files.specs.Commands.Certify.{ExtensionsReport}
use Rattle.wb_program_files.proofs.MakesLemmas.{answered, exhausted, handed, made_since}
use Rattle.wb_program_files.proofs.ExtensionLemmas.{certify_certified, certify_refused, certify_too_many, certify_stops_first}
use Rattle.wb_program_files.proofs.ExtensionLemmas.{stops_at_since}
use Rattle.wb_program_files.proofs.certify.answer_certify.Goals as goal

pub returns-then-extensions-gt-MOST_EXTENSIONS : goal.returns-then-extensions-gt-MOST_EXTENSIONS
returns-then-extensions-gt-MOST_EXTENSIONS g c =
    let files = g.S.Shelf.files c.args.shelf.now in
    let answer = c.in_ok-reported.field-0 in
    answered answer (certify_too_many c.args.operations.now.signatures files c.args.host.now c.args.extensions.now answer.status
    answer.report.items (omega arith) c.in_ok-reported.ensures.status c.in_ok-reported.ensures.report)
    (goes_on_here (outside files (g.S.Shelf.absences c.args.shelf.now) (g.S.Shelf.faults c.args.shelf.now)))

pub returns-in_err-reported : goal.returns-in_err-reported
returns-in_err-reported g c =
    exhausted c.from_residual.result c.from_residual.ensures.1
    (goes_on_here (outside (g.S.Shelf.files c.args.shelf.now) (g.S.Shelf.absences c.args.shelf.now) (g.S.Shelf.faults c.args.shelf.now)))

pub returns-in-Ok : goal.returns-in-Ok
returns-in-Ok g c =
    let files = g.S.Shelf.files c.args.shelf.now in
    let between = g.S.Shelf.files c.read_host.new.shelf in
    let same = c.read_host.ensures.goes_on.files in
    let operations = c.args.operations.now.signatures in
    let host = c.args.host.now in
    let r = c.in-Ok.certified.resolved in
    let extensions = texts c.args.extensions.now in
    let few : length extensions ≤ 64 = few_texts c.args.extensions.now 64 (omega arith) in
    let is : IsHostFile operations files host r = search rules in
    let is_later : KnownFile between host (λ contents. IsHostText operations contents r) =
    subst (λ (known : Option Files). KnownFile known host (λ contents. IsHostText operations contents r)) (sym same) is.contents in
    made_since c.answer_extensions-answer.result c.read_host.ensures.goes_on c.answer_extensions-answer.ensures
    (λ answer shown. certify_certified operations files host extensions r answer.status answer.report.items few is
    (subst (λ (known : Option Files). ExtensionsReport operations known r extensions [] answer.status answer.report.items) same shown))
    (λ P Q weaker stops. (
      few,
      inr (
        some_certified operations files host r is.contents,
        stops_at_since operations files between P Q (map (certified_extension host) extensions) same weaker (stops host is_later),
      ),
    ))

pub returns-in-Err : goal.returns-in-Err
returns-in-Err g c =
    let known = g.S.Shelf.files c.args.shelf.now in
    let operations = c.args.operations.now.signatures in
    let host = c.args.host.now in
    let extensions = texts c.args.extensions.now in
    let few : length extensions ≤ 64 = few_texts c.args.extensions.now 64 (omega arith) in
    let answer = c.in-Err.answer in
    let refused : RefusesHost (IsHostRefusal operations) known host answer.status answer.report.items =
    err_of c.in_ok-certified.field-0 answer (λ made. RefusesHost (IsHostRefusal operations) known host made.status made.report.items)
    c.in-Err.is c.in_ok-certified.ensures.refused in
    answered answer (certify_refused operations known host extensions answer.status answer.report.items few refused)
    c.read_host.ensures.goes_on

pub returns-in_err-certified : goal.returns-in_err-certified
returns-in_err-certified g c =
    let before = outside (g.S.Shelf.files c.args.shelf.now) (g.S.Shelf.absences c.args.shelf.now) (g.S.Shelf.faults c.args.shelf.now) in
    let now = outside (g.S.Shelf.files c.read_host.new.shelf) (g.S.Shelf.absences c.read_host.new.shelf)
    (g.S.Shelf.faults c.read_host.new.shelf) in
    let extensions = texts c.args.extensions.now in
    let few : length extensions ≤ 64 = few_texts c.args.extensions.now 64 (omega arith) in
    let failure = c.in_err-certified.field-0.0 in
    handed c.from_residual-in_err-certified.result failure c.from_residual-in_err-certified.ensures.1
    (certify_stops_first c.args.operations.now.signatures before now c.args.host.now extensions failure few
    c.in_err-certified.ensures.stopped)
    c.read_host.ensures.goes_on
