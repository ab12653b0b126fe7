-- The contents are the specification that is an extension after others.
use Rattle.wb_compose_texts.specs.Unions.{all_resolved}
use Rattle.wb_compose_files.specs.Extensions.{IsNextText}
use Rattle.wb_compose_files.specs.Inner.Next.{IsNextSpec}
use Rattle.wb_compose_files.proofs.NextLemmas.{on_ok}
use Rattle.wb_compose_files.proofs.extend.next_of.Goals as goal

pub returns-in-Ok-clause-ok : goal.returns-in-Ok-clause-ok
returns-in-Ok-clause-ok g c =
    let operations = c.args.operations.now.signatures in
    let host = c.args.host.now.resolved in
    let before = all_resolved c.args.before.now in
    on_ok c.next_with-answer.result (λ extension. IsNextSpec operations host before c.in-Ok.spec extension.resolved)
    (λ extension. IsNextText operations host before c.args.contents.now extension.resolved)
    (λ extension is. is c.args.contents.now c.in-Ok.ensures.spec) c.next_with-answer.ensures.ok
