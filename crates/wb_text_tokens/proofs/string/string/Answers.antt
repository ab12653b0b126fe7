use Rattle.std.proofs.lemmas.List.{take_rest}
use Rattle.wb_text_tokens.proofs.QuotedLemmas.{string_found, string_missing}
use Rattle.wb_text_tokens.proofs.string.string.Goals as goal

pub returns-in_default : goal.returns-in_default
returns-in_default c = λ dialect.
    let none = rw take_rest at (rw c.in_default.is at c.in_ok-decoded.ensures) in
    string_missing dialect c.args.text.now c.requires.some c.requires.begins none

pub returns : goal.returns
returns c = λ dialect.
    let found = rw take_rest at (rw c.in-Some.is at c.in_ok-decoded.ensures) in
    let same = c.in_ok-decoded-2.ensures.ok in
    let d = c.deref.ensures.value in
    rw (same, d) (string_found dialect c.args.text.now _ c.in-Some.place c.requires.some c.requires.begins found)
