-- What is on the page is the picture.
use Rattle.std.proofs.Common.{◌≡◌, ◌∙◌, [], subst, sym, rules}
use Rattle.wb_explain_shown.specs.Pictures.{AddsPicture}
use Rattle.wb_explain.proofs.EndLemmas.{on_ok}
use Rattle.wb_explain.proofs.program.draw.Goals as goal

pub returns-clause-picture : goal.returns-clause-picture
returns-clause-picture g c =
    on_ok c.put-answer.result _ _
    (λ put. subst (AddsPicture []) (sym (put ∙ c.deref.ensures.value)) c.in_ok-made.ensures.picture) c.put-answer.ensures
