use Rattle.std.proofs.Common.{sym, subst, take}
use Rattle.std.specs.Str.Parse.{AllDigits}
use Rattle.wb_text_tokens.proofs.IntegerLemmas.{run_digits}
use Rattle.wb_text_tokens.proofs.integer.number.Goals as goal

pub magnitude-requires : goal.magnitude-requires
magnitude-requires c = subst (λ n. AllDigits 10 (take n c.args.text.now)) (sym c.digit_count-count.ensures) (run_digits c.args.text.now)
