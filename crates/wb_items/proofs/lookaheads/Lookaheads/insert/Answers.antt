use Rattle.wb_items.proofs.RowLemmas.{place_number}
use Rattle.wb_items.proofs.lookaheads.Lookaheads.insert.Goals as goal

pub returns : goal.returns
returns c =
    let (n, there, after) = c.insert_at.ensures.after in
    record {
      number = n;
      has = place_number c.args.self.now c.args.state c.place-place.result n c.args.item c.place-place.ensures there;
      after = after;
      was_new = c.insert_at.ensures.new n there;
    }
