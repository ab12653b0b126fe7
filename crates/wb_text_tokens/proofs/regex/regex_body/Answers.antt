use Rattle.std.proofs.Common.{rules, refl, sym, arith}
use Rattle.std.proofs.lemmas.List.{take_rest}
use Rattle.wb_text_tokens.specs.Spelling.{IsRegexBody}
use Rattle.wb_text_tokens.proofs.PartLemmas.{regex_step, regex_open}
use Rattle.wb_text_tokens.proofs.regex.regex_body.Goals as goal

pub loop-count-init : goal.loop-count-init
loop-count-init c = (omega arith, IsRegexBody.none refl)

pub loop-count-preserved : goal.loop-count-preserved
loop-count-preserved c =
    let i = c.loop-count.invariant in
    regex_step c.args.x.now c.loop-count.at c.in-Some.count i.0 i.1 (sym (rw take_rest at c.in-Some.ensures))

pub returns-else-has_byte : goal.returns-else-has_byte
returns-else-has_byte c = regex_open c.args.x.now c.loop-count.at c.loop-count.invariant.1
    (sym (rw take_rest at c.in_default.ensures)) (λ h. let e = c.if-has_byte.ensures.1 h in search rules)
