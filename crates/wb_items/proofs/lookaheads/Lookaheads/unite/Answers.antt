use Rattle.wb_items.proofs.CallerLemmas.{union_answer}
use Rattle.wb_items.proofs.lookaheads.Lookaheads.unite.Goals as goal

pub returns : goal.returns
returns c =
    union_answer c.args.state c.place-place.result c.args.item c.place-place.ensures c.union_at.ensures.after c.union_at.ensures.stayed
