use Rattle.std.proofs.Common.{true, false, drop, arith, w64, SFits}
use Rattle.std.proofs.lemmas.Int.{to_z-of_z}
use Rattle.std.proofs.lemmas.List.{take_rest}
use Rattle.wb_text_tokens.proofs.IntegerLemmas.{integer_longest, integer_none, signed_text, unsigned_text}
use Rattle.wb_text_tokens.proofs.integer.integer.Goals as goal

pub returns-in_err-value : goal.returns-in_err-value
returns-in_err-value c = λ dialect.
    let text = c.args.text.now in
    rw c.from_residual.ensures (integer_none dialect text true (drop 1 text)
    (signed_text text c.requires.some c.if-text-eq45.true) c.requires.begins (rw take_rest at c.in_err-value.ensures))

pub returns-in_err-value-2 : goal.returns-in_err-value-2
returns-in_err-value-2 c = λ dialect.
    let text = c.args.text.now in
    rw c.from_residual-in_err-value-2.ensures (integer_none dialect text false text
    (unsigned_text text c.if-text-eq45.false) c.requires.begins c.in_err-value-2.ensures)

pub returns-in_ok-value : goal.returns-in_ok-value
returns-in_ok-value c = λ dialect.
    let text = c.args.text.now in
    let fits : SFits w64 c.in_ok-value.value = c.in_ok-value.ensures.3 in
    rw to_z-of_z (integer_longest dialect text true (drop 1 text)
    (signed_text text c.requires.some c.if-text-eq45.true) c.requires.begins _ c.in_ok-value.count _
    (rw take_rest at c.in_ok-value.ensures) (omega arith))

pub returns-in_ok-value-2 : goal.returns-in_ok-value-2
returns-in_ok-value-2 c = λ dialect.
    let text = c.args.text.now in
    let fits : SFits w64 c.in_ok-value-2.value = c.in_ok-value-2.ensures.3 in
    rw to_z-of_z (integer_longest dialect text false text
    (unsigned_text text c.if-text-eq45.false) c.requires.begins _ c.in_ok-value-2.count _ c.in_ok-value-2.ensures (omega arith))
