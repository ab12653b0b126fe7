use Rattle.std.proofs.Common.{refl}
use Rattle.wb_determinism.proofs.envelope.add_entry.Goals as goal

pub returns : goal.returns
returns c = record {
  looks = record { item = c.args.item; set = c.in_ok-set.set };
  of_item = refl;
  envelope = c.in_ok-set.ensures;
  after = c.in_ok-push.ensures.ok;
}
