use Rattle.wb_items.proofs.CallerLemmas.{union_answer}
use Rattle.wb_lookahead.proofs.spread.unite.Goals as goal

pub returns : goal.returns
returns c =
    union_answer c.args.place.state c.args.place.at c.args.place.item c.requires.here c.union_at.ensures.after c.union_at.ensures.stayed
