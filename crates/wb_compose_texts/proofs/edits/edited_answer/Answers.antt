-- All edits are done, and the lines are shown.
use Rattle.wb_compose_texts.specs.Names.{terminals_of}
use Rattle.wb_compose_texts.specs.Signatures.{signatures_of}
use Rattle.wb_compose_texts.specs.Unions.{all_resolved}
use Rattle.wb_compose_texts.proofs.WalkLemmas.{come_all}
use Rattle.wb_compose_texts.proofs.edits.edited_answer.Goals as goal

pub returns-in-Ok : goal.returns-in-Ok
returns-in-Ok c =
    let names = terminals_of c.args.host.now.resolved (all_resolved c.args.extensions.now) in
    let signatures = signatures_of c.args.host.now.resolved (all_resolved c.args.extensions.now) in
    let session = c.args.session.now in
    come_all names signatures session.language session.text c.args.edits.now c.edit_all.new.session.text c.edit_all.new.lines
    c.answer.result c.in-Ok.ensures.done c.answer.ensures.lines
