use Rattle.std.proofs.Common.{arith, sym, ap, not, ◌∙◌}
use Rattle.wb_explain_places.specs.Characters.{continues_character}
use Rattle.wb_lemmas.proofs.Runs.{run_is}
use Rattle.wb_explain_places.proofs.characters.continued.Goals as goal

pub returns-then-begins_character : goal.returns-then-begins_character
returns-then-begins_character c = run_is continues_character c.args.bytes.now _ (omega arith) c.loop-place.invariant
    (λ _. ap not (sym c.begins_character.ensures ∙ c.if-begins_character.true))

pub returns : goal.returns
returns c = run_is continues_character c.args.bytes.now _ (omega arith) (λ k h. c.loop-place.invariant k (omega arith))
    (λ h. absurd (omega arith))
