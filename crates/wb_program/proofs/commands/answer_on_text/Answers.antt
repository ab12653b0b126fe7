-- Each command's answer is the report of what it asks of a text.
use Rattle.std.proofs.Common.{ap}
use Rattle.wb_program_words.specs.Asked.{asked_by, texts}
use Rattle.wb_operations.specs.Operations.{Operations}
use Rattle.wb_program.proofs.Answering.{of_command}
use Rattle.wb_program.proofs.commands.answer_on_text.Goals as goal

pub returns-in-Tree : goal.returns-in-Tree
returns-in-Tree g c =
    let operations : Operations = record { signatures = c.args.operations.now.signatures; meaning = g.M.Meaning.meaning } in
    of_command operations c.answer_tree.result c.args.command c.in-Tree.is c.answer_tree.ensures

pub returns-in-Run : goal.returns-in-Run
returns-in-Run g c =
    let operations : Operations = record { signatures = c.args.operations.now.signatures; meaning = g.M.Meaning.meaning } in
    of_command operations c.answer_run.result c.args.command c.in-Run.is c.answer_run.ensures

pub answer_generate-requires-clause-size : goal.answer_generate-requires-clause-size
answer_generate-requires-clause-size g c =
    let x = c.in-Generate in
    c.requires.leaves x.number x.size x.attribute.now x.host.now (texts x.extensions.now) (ap asked_by x.is)

pub returns-in-Generate : goal.returns-in-Generate
returns-in-Generate g c =
    let operations : Operations = record { signatures = c.args.operations.now.signatures; meaning = g.M.Meaning.meaning } in
    of_command operations c.answer_generate.result c.args.command c.in-Generate.is c.answer_generate.ensures

pub returns-in-Edit : goal.returns-in-Edit
returns-in-Edit g c =
    let operations : Operations = record { signatures = c.args.operations.now.signatures; meaning = g.M.Meaning.meaning } in
    of_command operations c.answer_edit.result c.args.command c.in-Edit.is c.answer_edit.ensures

pub returns-in-Reading : goal.returns-in-Reading
returns-in-Reading g c =
    let operations : Operations = record { signatures = c.args.operations.now.signatures; meaning = g.M.Meaning.meaning } in
    of_command operations c.answer_reading.result c.args.command c.in-Reading.is c.answer_reading.ensures
