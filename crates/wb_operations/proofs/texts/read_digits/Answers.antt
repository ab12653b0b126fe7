use Rattle.std.proofs.Common.{sym, ◌∙◌}
use Rattle.wb_operations.proofs.DigitLemmas.{numeral_digits, written_numeral}
use Rattle.wb_operations.proofs.texts.read_digits.Goals as goal

pub magnitude-requires : goal.magnitude-requires
magnitude-requires c = numeral_digits c.args.digits.now (sym c.is_numeral.ensures ∙ c.if-not-is_numeral.false)

pub returns-in-Some-clause-answer : goal.returns-in-Some-clause-answer
returns-in-Some-clause-answer c = rw (written_numeral c.args.negative c.args.digits.now c.in-Some.size
    (sym c.is_numeral.ensures ∙ c.if-not-is_numeral.false) c.in-Some.ensures) c.with_sign.ensures.answer
