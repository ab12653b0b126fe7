-- A certified host has its report.
use Rattle.std.proofs.Common.{rules, []}
use Rattle.wb_certify_files.specs.HostContents.{IsHostRefusal}
use Rattle.wb_program_files.specs.HostChecks.{IsHostFile, RefusesHost}
use Rattle.wb_program_files.specs.Stops.{certified_host}
use Rattle.wb_program_files.proofs.StopLemmas.{err_of}
use Rattle.wb_program_files.proofs.MakesLemmas.{answered, handed_first, exhausted}
use Rattle.wb_program_files.proofs.HostLemmas.{check_done, check_refused}
use Rattle.wb_program_files.proofs.check.answer_check.Goals as goal

pub returns-in_ok-certified_answer-in-Ok : goal.returns-in_ok-certified_answer-in-Ok
returns-in_ok-certified_answer-in-Ok g c =
    let files = g.S.Shelf.files c.args.shelf.now in
    let operations = c.args.operations.now.signatures in
    let answer = c.in_ok-certified_answer-in-Ok.field-0 in
    let is : IsHostFile operations files c.args.host.now c.in-Ok.certified.resolved = search rules in
    answered answer (check_done operations files c.args.host.now c.in-Ok.certified.resolved answer.status answer.report.items is
    c.in_ok-certified_answer-in-Ok.ensures.status c.in_ok-certified_answer-in-Ok.ensures.report) c.read_host.ensures.goes_on

pub returns-in_err-certified_answer-in-Ok : goal.returns-in_err-certified_answer-in-Ok
returns-in_err-certified_answer-in-Ok g c =
    exhausted c.from_residual-in_err-certified_answer-in-Ok.result c.from_residual-in_err-certified_answer-in-Ok.ensures.1
    c.read_host.ensures.goes_on

pub returns-in-Err : goal.returns-in-Err
returns-in-Err g c =
    let known = g.S.Shelf.files c.args.shelf.now in
    let operations = c.args.operations.now.signatures in
    let host = c.args.host.now in
    let answer = c.in-Err.answer in
    let refused : RefusesHost (IsHostRefusal operations) known host answer.status answer.report.items =
    err_of c.in_ok-certified.field-0 answer (λ made. RefusesHost (IsHostRefusal operations) known host made.status made.report.items)
    c.in-Err.is c.in_ok-certified.ensures.refused in
    answered answer (check_refused operations known host answer.status answer.report.items refused) c.read_host.ensures.goes_on

pub returns-in_err-certified : goal.returns-in_err-certified
returns-in_err-certified g c =
    handed_first c.args.operations.now.signatures (certified_host c.args.host.now) [] c.from_residual.result c.in_err-certified.field-0.0
    c.from_residual.ensures.1 c.in_err-certified.ensures.stopped c.read_host.ensures.goes_on
