use Rattle.std.proofs.Common.{sym, subst}
use Rattle.std.proofs.lemmas.Result.{IfOk-weaker}
use Rattle.wb_recheck.specs.Inner.Fit.{IsFit, IsTextOfHoles, IsTextWithin}
use Rattle.wb_recheck.proofs.FitLemmas.{fit_with_holes}
use Rattle.wb_recheck.proofs.TextLemmas.{holes_are, holes_within}
use Rattle.wb_recheck.proofs.written.certificate_of.Goals as goal

pub text_within-text-requires-clause-fit : goal.text_within-text-requires-clause-fit
text_within-text-requires-clause-fit c =
    let r = c.args.resolved.now in
    let fit = c.requires.fit in
    subst IsFit (sym (holes_are r fit.grammar c.in-Ok.grammar fit.start c.in-Ok.ensures)) (fit_with_holes r fit.grammar fit.fit)

pub returns-in-Ok : goal.returns-in-Ok
returns-in-Ok c =
    let r = c.args.resolved.now in
    IfOk-weaker c.text_within-text.result (IsTextWithin c.in-Ok.grammar c.args.head c.args.limit) (IsTextOfHoles r c.args.head c.args.limit)
    (λ text within. holes_within r c.in-Ok.grammar c.args.head c.args.limit c.in-Ok.ensures text within) c.text_within-text.ensures
