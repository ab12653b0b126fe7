-- The words ask for a tree where something comes.
use Rattle.std.proofs.Common.{inr}
use Rattle.wb_program_words.specs.Asked.{texts}
use Rattle.wb_explain_shown.specs.Asking.{AsksTree}
use Rattle.wb_explain_shown.proofs.ShownLemmas.{always}
use Rattle.wb_explain_shown.proofs.run.tree_of_run.Goals as goal

pub returns-in-Some-clause-none : goal.returns-in-Some-clause-none
returns-in-Some-clause-none g c =
    let asks : AsksTree (texts c.args.words.now) = rw c.in-Some.is at c.in_ok-contents.ensures.asks in
    always c.tree_of-answer.result _ (λ more. inr asks)
