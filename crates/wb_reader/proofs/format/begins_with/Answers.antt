use Rattle.wb_reader.proofs.FormatLemmas.{no_word, no_number, decides}
use Rattle.wb_reader.proofs.format.begins_with.Goals as goal

pub returns-in_default : goal.returns-in_default
returns-in_default c = (
  λ t. absurd (cc),
  λ r. absurd (no_word c.args.bytes.now c.args.wanted c.in_ok-word.field-0 c.in_ok-word.ensures.next c.in_default.is r),
)

pub returns-in_default-2 : goal.returns-in_default-2
returns-in_default-2 c = (
  λ t. absurd (cc),
  λ r. absurd
      (no_number c.args.bytes.now c.args.wanted c.in-Some.word c.in_ok-word.field-0 c.in_ok-number.field-0
      c.in_ok-word.ensures.next c.in-Some.is c.in_ok-number.ensures.next c.in_default-2.is r),
)

pub returns : goal.returns
returns c =
    decides c.args.bytes.now c.args.wanted c.in-Some.word c.in-Some-2.number c.in_ok-word.field-0 c.in_ok-number.field-0 c.in_ok-mark.mark
    c.in_ok-word.ensures.next c.in-Some.is
    c.in_ok-number.ensures.next c.in-Some-2.is c.in_ok-mark.ensures.next c.is_some.result c.is_some.ensures
