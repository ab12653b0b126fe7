use Rattle.wb_compose_texts.specs.Inner.Sets.{IsFilled}
use Rattle.wb_compose_texts.proofs.markers.set_of.Given as goal

abbrev pub invariant-flags : goal.invariant-flags
invariant-flags l = IsFilled l.flags l.number l.set
