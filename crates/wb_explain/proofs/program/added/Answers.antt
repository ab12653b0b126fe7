-- What is added is what there is to say, or what is shown of a run that comes to its end.
use Rattle.std.proofs.Common.{◌≡◌, rules}
use Rattle.wb_program_words.specs.Asked.{texts}
use Rattle.wb_explain_lines.specs.Outside.{outside}
use Rattle.wb_explain_lines.proofs.KeepLemmas.{keeps_here}
use Rattle.wb_explain.specs.Inner.Ends.{shown_as}
use Rattle.wb_explain.proofs.EndLemmas.{adds_ended, adds_said, on_ok}
use Rattle.wb_explain.proofs.program.added.Goals as goal

pub returns-then-has_failed-clause-keeps : goal.returns-then-has_failed-clause-keeps
returns-then-has_failed-clause-keeps g c =
    keeps_here (outside (g.S.Shelf.files c.args.shelf.now) (g.S.Shelf.absences c.args.shelf.now) (g.S.Shelf.faults c.args.shelf.now))

pub returns-in-Done-clause-adds : goal.returns-in-Done-clause-adds
returns-in-Done-clause-adds g c =
    let unfailed : c.args.page.now.failures ≡ 0 = search rules in
    on_ok c.ended.result _ _
    (adds_ended (shown_as c.args.draws (texts c.args.words.now)) c.args.status c.args.page.now c.ended.new.page unfailed c.in-Done.is)
    c.ended.ensures.ends

pub returns-in_default-clause-adds : goal.returns-in_default-clause-adds
returns-in_default-clause-adds g c =
    let unfailed : c.args.page.now.failures ≡ 0 = search rules in
    on_ok c.add_said.result _ _
    (adds_said (shown_as c.args.draws (texts c.args.words.now)) c.args.status c.args.page.now c.add_said.new.page unfailed (search rules))
    c.add_said.ensures.begins
