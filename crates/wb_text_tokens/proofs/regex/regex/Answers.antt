use Rattle.std.proofs.Common.{◌≡◌, ◌<◌, ◌+◌, ◌-◌, arith}
use Rattle.std.proofs.lemmas.List.{take_rest}
use Rattle.wb_text_tokens.proofs.QuotedLemmas.{regex_found, regex_missing, regex_without}
use Rattle.wb_text_tokens.proofs.regex.regex.Goals as goal

pub returns-in_default : goal.returns-in_default
returns-in_default c = λ dialect. regex_missing dialect c.args.text.now c.requires.some c.requires.begins (rw take_rest at c.in_default.ensures)

pub returns-then-place-eq0 : goal.returns-then-place-eq0
returns-then-place-eq0 c = λ dialect.
    let found = rw take_rest at (rw c.if-place-eq0.true at c.in-Some.ensures) in
    regex_without dialect c.args.text.now c.requires.some c.requires.begins found

pub returns : goal.returns
returns c = λ dialect.
    let found = rw take_rest at c.in-Some.ensures in
    let more : 0 < c.in-Some.place = omega arith in
    let count : (c.in-Some.place + 1) - 1 ≡ c.in-Some.place = omega arith in
    let same = c.in_ok-body.ensures.ok in
    rw (same, count) (regex_found dialect c.args.text.now c.in-Some.place c.requires.some c.requires.begins more found)
