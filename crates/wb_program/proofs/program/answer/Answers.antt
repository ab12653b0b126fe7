-- What a command is answered is the report of the words that ask for it.
use Rattle.std.proofs.Common.{rules, ◌≡◌}
use Rattle.wb_operations.specs.Operations.{Operations}
use Rattle.wb_program_words.specs.Asked.{asked_by, texts}
use Rattle.wb_program_words.specs.Words.{Asks}
use Rattle.wb_program_words.proofs.FewLeaves.{few_leaves}
use Rattle.wb_program_texts.specs.Stopped.{outside, Stopped}
use Rattle.wb_program_texts.specs.files.ReadFailure.TheVariants.{NoMemory}
use Rattle.wb_program_texts.proofs.StopLemmas.{goes_on_here, on_err}
use Rattle.wb_program.specs.Commands.{ReadsTo}
use Rattle.wb_program.specs.Report.{InCommandSet}
use Rattle.wb_program_texts.proofs.MakesLemmas.{answered, exhausted, made_so}
use Rattle.wb_program.proofs.AnswerLemmas.{replies, replies_usage}
use Rattle.wb_program.proofs.CauseLemmas.{comes_to, stopped_asked}
use Rattle.wb_program.proofs.program.answer.Goals as goal

pub answer_to-requires-clause-leaves : goal.answer_to-requires-clause-leaves
answer_to-requires-clause-leaves g c =
    let words = texts c.args.words.now in
    let asked = asked_by c.in-Some.command in
    let asks : Asks words asked = search rules in
    few_leaves words asked asks

pub returns-in-Some-clause-replies : goal.returns-in-Some-clause-replies
returns-in-Some-clause-replies g c =
    let files = g.S.Shelf.files c.args.shelf.now in
    let words = texts c.args.words.now in
    let asked = asked_by c.in-Some.command in
    let operations : Operations = record { signatures = c.args.operations.now.signatures; meaning = g.M.Meaning.meaning } in
    let asks : Asks words asked = search rules in
    made_so c.answer_to.result c.answer_to.ensures (λ answer. replies operations words files asked answer asks)
    (λ P comes. record { asked = asked; asks = asks; comes = comes })

pub returns-in-Some-clause-asked : goal.returns-in-Some-clause-asked
returns-in-Some-clause-asked g c =
    let files = g.S.Shelf.files c.args.shelf.now in
    let signatures = c.args.operations.now.signatures in
    let words = texts c.args.words.now in
    let asked = asked_by c.in-Some.command in
    let before = outside files (g.S.Shelf.absences c.args.shelf.now) (g.S.Shelf.faults c.args.shelf.now) in
    let now = outside (g.S.Shelf.files c.answer_to.new.shelf) (g.S.Shelf.absences c.answer_to.new.shelf)
    (g.S.Shelf.faults c.answer_to.new.shelf) in
    let asks : Asks words asked = search rules in
    on_err c.answer_to.result (Stopped before now (ReadsTo signatures files asked)) (λ failure. ¬ InCommandSet words → failure ≡ NoMemory)
    (λ failure stopped. stopped_asked signatures before now words failure
    (comes_to signatures before now words asked failure asks stopped)) c.answer_to.ensures.stopped

pub returns-in_ok-usage-in-None-clause-replies : goal.returns-in_ok-usage-in-None-clause-replies
returns-in_ok-usage-in-None-clause-replies g c =
    let files = g.S.Shelf.files c.args.shelf.now in
    let answer = c.in_ok-usage-in-None.field-0 in
    let operations : Operations = record { signatures = c.args.operations.now.signatures; meaning = g.M.Meaning.meaning } in
    answered answer (replies_usage operations (texts c.args.words.now) files answer (λ is. c.in-None.ensures.none is.asked is.asks)
    c.in_ok-usage-in-None.ensures.status c.in_ok-usage-in-None.ensures.report)
    (goes_on_here (outside files (g.S.Shelf.absences c.args.shelf.now) (g.S.Shelf.faults c.args.shelf.now)))

pub returns-in_ok-usage-in-None-clause-asked : goal.returns-in_ok-usage-in-None-clause-asked
returns-in_ok-usage-in-None-clause-asked g c = tt

pub returns-in_err-usage-in-None-clause-replies : goal.returns-in_err-usage-in-None-clause-replies
returns-in_err-usage-in-None-clause-replies g c =
    exhausted c.from_residual.result c.from_residual.ensures.1
    (goes_on_here (outside (g.S.Shelf.files c.args.shelf.now) (g.S.Shelf.absences c.args.shelf.now) (g.S.Shelf.faults c.args.shelf.now)))
