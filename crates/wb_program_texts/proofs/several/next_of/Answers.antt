-- The contents are the specification that is an extension after others.
use Rattle.wb_compose_texts.specs.Unions.{all_resolved}
use Rattle.wb_program_texts.specs.SeveralChecks.{IsNextText}
use Rattle.wb_program_texts.specs.Inner.Several.{IsNextSpec}
use Rattle.wb_program_files.proofs.StopLemmas.{on_ok}
use Rattle.wb_program_texts.proofs.several.next_of.Goals as goal

pub returns-in-Ok-clause-ok : goal.returns-in-Ok-clause-ok
returns-in-Ok-clause-ok g c =
    let operations = c.args.operations.now.signatures in
    let host = c.args.host.now.resolved in
    let before = all_resolved c.args.before.now in
    on_ok c.next_with-answer.result (λ extension. IsNextSpec operations host before c.in-Ok.spec extension.resolved)
    (λ extension. IsNextText operations host before c.args.contents.now extension.resolved)
    (λ extension is. is c.args.contents.now c.in-Ok.ensures.spec) c.next_with-answer.ensures.ok
