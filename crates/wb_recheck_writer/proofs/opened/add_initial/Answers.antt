use Rattle.std.proofs.lemmas.Result.{on_ok_weaker}
use Rattle.wb_recheck_writer.proofs.OpenedLemmas.{row_more}
use Rattle.wb_recheck_writer.proofs.opened.add_initial.Goals as goal

pub returns : goal.returns
returns c =
    let (right, rule) = c.requires.production in
    on_ok_weaker c.add.result
    (row_more c.args.opening.now c.requires.opening c.args.entries.now c.args.production c.args.terminal right rule c.requires.member
    c.requires.before c.add.new.self) c.add.ensures
