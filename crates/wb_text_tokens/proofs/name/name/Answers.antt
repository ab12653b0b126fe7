use Rattle.std.proofs.Common.{get_or, sym}
use Rattle.wb_text_tokens.specs.declared.token.Token.TheVariants as t
use Rattle.wb_text_tokens.proofs.FirstByteLemmas.{begins_letter}
use Rattle.wb_text_tokens.proofs.LongestLemmas.{name_longest, identifier}
use Rattle.wb_text_tokens.proofs.name.name.Goals as goal

pub returns-in-Some : goal.returns-in-Some
returns-in-Some c =
    let text = c.args.text.now in
    rw c.name_len-length.ensures (name_longest c.args.dialect text (t.Word c.in-Some.word) (begins_letter (get_or text 0 0) c.requires.begins) tt
    (rw c.name_len-length.ensures at c.in-Some.ensures))

pub returns : goal.returns
returns c =
    let text = c.args.text.now in
    let begins = begins_letter (get_or text 0 0) c.requires.begins in
    let same = rw c.name_len-length.ensures at c.in_ok-name.ensures.ok in
    let free = rw c.name_len-length.ensures at c.in_default.ensures in
    rw c.name_len-length.ensures (name_longest c.args.dialect text (t.Name c.in_ok-name.name) begins tt (
      sym same,
      identifier text c.requires.some begins,
      free,
    ))
