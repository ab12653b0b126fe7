-- After the lines comes the tree, or a picture is in their place.
use Rattle.std.proofs.Common.{◌≡◌, ◌++◌, subst}
use Rattle.wb_program_words.specs.Asked.{texts}
use Rattle.wb_explain.proofs.EndLemmas.{on_ok, shows_picture, shows_tree}
use Rattle.wb_explain.proofs.program.ended.Goals as goal

pub returns-then-draws-clause-ends : goal.returns-then-draws-clause-ends
returns-then-draws-clause-ends g c =
    on_ok c.draw.result _ _
    (shows_picture c.args.draws (texts c.args.words.now) c.args.page.now.bytes c.draw.new.page.bytes c.if-draws.true) c.draw.ensures.picture

pub returns-clause-ends : goal.returns-clause-ends
returns-clause-ends g c =
    on_ok c.add-answer.result _ _
    (λ added. shows_tree c.args.draws (texts c.args.words.now) c.args.page.now.bytes c.add-answer.new.self.bytes c.in_ok-more.more.items
    c.if-draws.false (let lent = c.deref.ensures in cc) c.in_ok-more.ensures.none) c.add-answer.ensures
