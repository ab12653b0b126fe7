use Rattle.wb_recheck_writer.proofs.ReachedLemmas.{reached_complete}
use Rattle.wb_recheck_writer.proofs.entries.follow.Goals as goal

pub returns-in-None : goal.returns-in-None
returns-in-None c =
    reached_complete c.args.entries.now (record { place = c.args.place; entry = c.at-entry.result }) c.requires.before c.at-entry.ensures
    c.in-None.ensures.symbol
