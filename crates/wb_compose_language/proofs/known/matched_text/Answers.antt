use Rattle.std.proofs.Common.{◌∙◌, Some, ap, arith, sym}
use Rattle.std.proofs.lemmas.Option.{IfSome_then}
use Rattle.wb_compose_language.proofs.TextMachineLemmas.{listed_at, matched_answer, turned_answer}
use Rattle.wb_compose_language.proofs.known.matched_text.Goals as goal

pub returns-in-Some : goal.returns-in-Some
returns-in-Some c =
    let patterns = c.args.known.now.owns.now.patterns.items in
    let text = c.as_slice.result.now in
    let len = c.requires.known.texts.len in
    let within = c.requires.one in
    let listed = listed_at c.args.known.now.texts.now c.args.one c.index-known-one.result (Some text) (omega (arith, len, within))
    c.index-known-one.is (c.in-Some.is ∙ ap Some (sym c.as_slice.ensures)) in
    IfSome_then c.matched_by.result c.matched_by.ensures (λ answer is p q at at'.
    matched_answer patterns c.args.other answer text p q (c.requires.known.texts.each c.args.one p text at listed) is at')

pub returns-in-Some-texts : goal.returns-in-Some-texts
returns-in-Some-texts c =
    let patterns = c.args.known.now.owns.now.patterns.items in
    let text = c.as_slice-in-Some-texts.result.now in
    let len = c.requires.known.texts.len in
    let within = c.requires.other in
    let listed = listed_at c.args.known.now.texts.now c.args.other c.index-known-other.result (Some text) (omega (arith, len, within))
    c.index-known-other.is (c.in-Some-texts.is ∙ ap Some (sym c.as_slice-in-Some-texts.ensures)) in
    IfSome_then c.matched_by-in-Some-texts.result c.matched_by-in-Some-texts.ensures (λ answer is p q at at'.
    turned_answer answer p q (matched_answer patterns c.args.one answer text q p (c.requires.known.texts.each c.args.other q text at' listed) is
    at))
