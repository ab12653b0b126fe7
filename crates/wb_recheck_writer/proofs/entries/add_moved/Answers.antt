use Rattle.std.proofs.lemmas.Result.{on_ok_weaker}
use Rattle.wb_recheck_writer.proofs.EndLemmas.{good_lines}
use Rattle.wb_recheck_writer.proofs.OpenedLemmas.{moved_more}
use Rattle.wb_recheck_writer.proofs.entries.add_moved.Goals as goal

pub returns : goal.returns
returns c =
    on_ok_weaker c.add.result
    (moved_more (good_lines c.args.context.now c.requires.context) c.args.entries.now c.args.source c.requires.room c.args.symbol
    c.requires.symbol c.moved-kernel.result c.moved-kernel.ensures.within c.moved-kernel.ensures.is c.requires.before c.add.new.self)
    c.add.ensures
