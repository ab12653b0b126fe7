use Rattle.std.proofs.Common.{refl, arith}
use Rattle.wb_text_parts.proofs.NumberLemmas.{longest_at_byte, longest_at_end}
use Rattle.wb_text_parts.proofs.numbers.longest.Goals as goal

pub returns-in-None : goal.returns-in-None
returns-in-None c =
    longest_at_byte c.args.text.now c.loop-at.value c.loop-at.at _ c.loop-at.invariant.1 (omega (arith, c.loop-at-test.true)) refl
    c.loop-at.invariant.2 c.in-None.ensures

pub returns : goal.returns
returns c =
    longest_at_end c.args.text.now c.loop-at.value c.loop-at.at c.loop-at.invariant.1 c.loop-at.invariant.0
    (omega (arith, c.loop-at-test.false)) c.loop-at.invariant.2
