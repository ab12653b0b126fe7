use Rattle.std.proofs.Common.{rules, refl, sym, arith}
use Rattle.std.proofs.lemmas.List.{take_rest}
use Rattle.wb_text_tokens.specs.Spelling.{IsStringBody}
use Rattle.wb_text_tokens.proofs.PartLemmas.{string_step, string_open}
use Rattle.wb_text_tokens.proofs.string.string_body.Goals as goal

pub loop-b-init : goal.loop-b-init
loop-b-init c = (omega arith, IsStringBody.none refl c.new-text.ensures.items)

pub loop-b-preserved : goal.loop-b-preserved
loop-b-preserved c =
    let i = c.loop-b.invariant in
    let s = string_step c.args.x.now c.loop-b.text.items c.loop-b.at c.in-Some.b c.in-Some.count i.0 i.1
    (sym (rw take_rest at c.in-Some.ensures)) in
    (s.0, rw c.in_ok-push.ensures.items s.1)

pub returns-else-has_byte : goal.returns-else-has_byte
returns-else-has_byte c = string_open c.args.x.now c.loop-b.text.items c.loop-b.at c.loop-b.invariant.1
    (sym (rw take_rest at c.in_default.ensures)) (λ h. let e = c.if-has_byte.ensures.1 h in search rules)
