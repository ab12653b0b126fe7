use Rattle.std.proofs.Common.{subst}
use Rattle.std.proofs.lemmas.Result.{IfOk-weaker}
use Rattle.wb_determinism_lookaheads.specs.Inner.Spreading.{IsAllPassed}
use Rattle.wb_determinism_lookaheads.proofs.PassedLemmas.{HaveWidth, whole}
use Rattle.wb_determinism_lookaheads.proofs.TrueLemmas.{true_empty}
use Rattle.wb_determinism_lookaheads.proofs.fill.fill_by.Goals as goal

pub spread-requires-clause-sound : goal.spread-requires-clause-sound
spread-requires-clause-sound c = true_empty c.args.context.now c.add_empty.new.sets.items c.in_ok-add_empty.ensures

pub returns : goal.returns
returns c =
    IfOk-weaker c.is_all_passed.result _ _
    (λ answer f holds. whole c.requires.context c.spread.new.sets.items c.in_ok-width.width c.requires.slots c.in_ok-width.ensures.count
    (subst (HaveWidth c.in_ok-width.width) c.deref.ensures.value (c.are_wide.ensures c.if-not-are_wide.false)) c.in_ok-spread.ensures
    (subst (IsAllPassed c.args.context.now) c.deref-2.ensures.value (f holds))) c.is_all_passed.ensures
