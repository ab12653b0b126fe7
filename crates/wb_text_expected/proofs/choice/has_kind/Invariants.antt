use Rattle.std.proofs.Common.{◌≡◌, drop}
use Rattle.wb_text_predictive.specs.Kinds.{is_member}
use Rattle.wb_text_expected.proofs.choice.has_kind.Given as goal

abbrev pub invariant-loop-other : goal.invariant-loop-other
invariant-loop-other g l = is_member g.K.PartialEq.eq l.kind l.kinds ≡ is_member g.K.PartialEq.eq l.kind (drop l.other-index l.kinds)
