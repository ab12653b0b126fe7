use Rattle.std.proofs.Common.{arith, sym, ◌∙◌}
use Rattle.wb_base.specs.Identifiers.{is_name_byte}
use Rattle.wb_lemmas.proofs.Runs.{run_is}
use Rattle.wb_text_tokens.proofs.name.name_len.Goals as goal

pub returns-then-not-is_name_byte : goal.returns-then-not-is_name_byte
returns-then-not-is_name_byte c = run_is is_name_byte c.args.text.now _ (omega arith) c.loop-place.invariant
    (λ _. sym c.is_name_byte.ensures ∙ c.if-not-is_name_byte.true)

pub returns : goal.returns
returns c = run_is is_name_byte c.args.text.now _ (omega arith) (λ k h. c.loop-place.invariant k (omega arith)) (λ h. absurd (omega arith))
