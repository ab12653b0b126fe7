use Rattle.std.proofs.lemmas.Result.{on_ok_weaker}
use Rattle.wb_recheck_writer.specs.Inner.Reached.{grammar_of, lines_of}
use Rattle.wb_recheck_writer.proofs.ReachedLemmas.{first_reached}
use Rattle.wb_recheck_writer.proofs.entries.add_first.Goals as goal

pub returns : goal.returns
returns c =
    on_ok_weaker c.add.result
    (first_reached (grammar_of c.args.context.now) (lines_of c.args.context.now) c.productions-production.ensures.in_range
    c.args.entries.now
    c.requires.none c.productions-production.result c.terminals-terminal.result c.productions-production.ensures.count
    c.terminals-terminal.ensures c.add.new.self) c.add.ensures
