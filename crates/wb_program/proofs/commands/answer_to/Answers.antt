-- Each command's answer is the report of what it asks.
use Rattle.std.proofs.Common.{inl}
use Rattle.wb_operations.specs.Operations.{Operations}
use Rattle.wb_program_texts.proofs.MakesLemmas.{made_so}
use Rattle.wb_program.proofs.Answering.{of_command}
use Rattle.wb_program.proofs.commands.answer_to.Goals as goal

pub returns-in-Value : goal.returns-in-Value
returns-in-Value g c =
    let operations : Operations = record { signatures = c.args.operations.now.signatures; meaning = g.M.Meaning.meaning } in
    of_command operations c.answer_value.result c.args.command c.in-Value.is c.answer_value.ensures

pub returns-in-Show : goal.returns-in-Show
returns-in-Show g c =
    let operations : Operations = record { signatures = c.args.operations.now.signatures; meaning = g.M.Meaning.meaning } in
    of_command operations c.answer_show.result c.args.command c.in-Show.is
    (made_so c.answer_show.result c.answer_show.ensures (λ answer report. report) (λ P meets. inl meets))

pub returns-in-Check : goal.returns-in-Check
returns-in-Check g c =
    let operations : Operations = record { signatures = c.args.operations.now.signatures; meaning = g.M.Meaning.meaning } in
    of_command operations c.answer_check.result c.args.command c.in-Check.is c.answer_check.ensures

pub returns-in-Certify : goal.returns-in-Certify
returns-in-Certify g c =
    let operations : Operations = record { signatures = c.args.operations.now.signatures; meaning = g.M.Meaning.meaning } in
    of_command operations c.answer_certify.result c.args.command c.in-Certify.is c.answer_certify.ensures

pub returns-in-Compose : goal.returns-in-Compose
returns-in-Compose g c =
    let operations : Operations = record { signatures = c.args.operations.now.signatures; meaning = g.M.Meaning.meaning } in
    of_command operations c.answer_compose.result c.args.command c.in-Compose.is c.answer_compose.ensures

pub returns-in-Certificate : goal.returns-in-Certificate
returns-in-Certificate g c =
    let operations : Operations = record { signatures = c.args.operations.now.signatures; meaning = g.M.Meaning.meaning } in
    of_command operations c.answer_certificate.result c.args.command c.in-Certificate.is c.answer_certificate.ensures

pub returns-in-Recheck : goal.returns-in-Recheck
returns-in-Recheck g c =
    let operations : Operations = record { signatures = c.args.operations.now.signatures; meaning = g.M.Meaning.meaning } in
    of_command operations c.answer_recheck.result c.args.command c.in-Recheck.is c.answer_recheck.ensures
