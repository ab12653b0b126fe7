-- The set is filled by the flags, one after another.
use Rattle.wb_compose_texts.proofs.FlagLemmas.{all_filled, none_filled}
use Rattle.wb_compose_texts.proofs.markers.set_of.Goals as goal

pub flags-init : goal.flags-init
flags-init c = none_filled c.args.flags.now c.in_ok-set.set c.in_ok-set.ensures

pub returns : goal.returns
returns c = all_filled c.args.flags.now c.flags.number c.flags.set c.flags-test.false c.flags.invariant
