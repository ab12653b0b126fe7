-- Where nothing comes, a sentence is drawn.
use Rattle.std.proofs.Common.{◌≡◌, ◌≢◌, [], OnOk, rules, subst}
use Rattle.wb_explain_drawing.specs.Pictures.{AddsPicture}
use Rattle.wb_explain_shown.proofs.ShownLemmas.{drawn_there}
use Rattle.wb_explain_shown.proofs.run.push_picture.Goals as goal

pub returns-then-len-eq0 : goal.returns-then-len-eq0
returns-then-len-eq0 g c =
    let none : c.push_picture_in.new.out.items ≡ [] = search rules in
    subst (λ before. OnOk c.push_blank.result (AddsPicture before c.push_blank.new.out.items)) none c.push_blank.ensures

pub returns : goal.returns
returns g c =
    let some : c.push_picture_in.new.out.items ≢ [] = search rules in
    drawn_there c.args.operations.now.signatures c.deref.result.now c.deref-2.result.now c.args.out.now.items
    c.push_picture_in.new.out.items c.requires some c.in_ok-push_picture_in.ensures
