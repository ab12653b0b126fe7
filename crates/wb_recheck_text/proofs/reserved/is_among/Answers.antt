use Rattle.std.proofs.Common.{◌≡◌, ◌∙◌, sym, rules, arith}
use Rattle.wb_recheck_text.proofs.ReservedLemmas.{among, not_among}
use Rattle.wb_recheck_text.proofs.reserved.is_among.Goals as goal

pub returns-then-eq : goal.returns-then-eq
returns-then-eq c =
    let same : c.text.result.now ≡ c.args.text.now = search rules in
    among c.args.words.now c.loop-word.word-index _ c.args.text.now c.loop-word-test.true (sym c.text.ensures ∙ same)

pub returns : goal.returns
returns c = not_among c.args.words.now c.loop-word.word-index c.args.text.now (omega (arith, c.loop-word-test.false)) c.loop-word.invariant
