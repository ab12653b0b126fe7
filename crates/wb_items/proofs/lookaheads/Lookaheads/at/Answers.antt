use Rattle.wb_items.proofs.RowLemmas.{set_there}
use Rattle.wb_items.proofs.lookaheads.Lookaheads.at.Goals as goal

pub returns : goal.returns
returns c =
    set_there c.args.self.now c.args.state c.args.place c.number_at.result c.set.result.now c.requires.place c.number_at.ensures.number
    c.set.ensures
