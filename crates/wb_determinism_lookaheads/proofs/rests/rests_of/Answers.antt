use Rattle.std.proofs.Common.{◌≡◌, subst}
use Rattle.std.specs.Prelude.{IfSome}
use Rattle.wb_lookahead.proofs.RestRows.{length_more}
use Rattle.wb_determinism_lookaheads.specs.Inner.Rests.{AreRestsOf}
use Rattle.wb_determinism_lookaheads.proofs.RestLemmas.{rows_more}
use Rattle.wb_determinism_lookaheads.proofs.rests.rests_of.Goals as goal

pub productions-preserved : goal.productions-preserved
productions-preserved c = record {
  len = length_more c.productions.rests.items c.push.new.list.items c.in_ok-rests_in.field-0 c.productions.production
      c.productions.invariant.len c.in_ok-push.ensures.ok;
  each = rows_more c.args.grammar.now c.productions.rests.items c.push.new.list.items c.productions.production c.in_ok-rests_in.field-0
      c.productions.invariant.len c.in_ok-push.ensures.ok
      (λ a right rule. subst (λ z. AreRestsOf c.args.grammar.now z c.in_ok-rests_in.field-0)
      (subst (λ o. IfSome o (λ p. c.right.result.now ≡ p.1)) rule c.right.ensures.right) c.in_ok-rests_in.ensures)
      c.productions.invariant.each;
}
