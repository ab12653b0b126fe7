use Rattle.std.proofs.lemmas.Result.{on_ok_weaker}
use Rattle.wb_eval.specs.declared.machine.Key.TheVariants as key
use Rattle.wb_explain_instances.proofs.HeadLemmas.{headed, last_at}
use Rattle.wb_explain_instances.proofs.said.push_head.Goals as goal

pub returns-then-keys-eq1 : goal.returns-then-keys-eq1
returns-then-keys-eq1 c =
    on_ok_weaker c.push_text.result
    (λ is. headed c.args.shown.now.attributes.now.productions c.args.shown.now.store.now c.args.shown.now.waiting.now
    c.args.shown.now.files.now _
    (last_at c.as_slice-keys.result.now c.args.shown.now.waiting.now.keys.items (key.Synthesized 0 0) c.as_slice-keys.ensures.value
    c.if-keys-eq0.false) c.ended.result.now c.args.out.now.items c.push_equation.new.out.items _
    c.push_text.new.out.items c.requires c.in_ok-push_equation.ensures is) c.push_text.ensures

pub returns : goal.returns
returns c =
    on_ok_weaker c.push_text-2.result
    (λ is. headed c.args.shown.now.attributes.now.productions c.args.shown.now.store.now c.args.shown.now.waiting.now
    c.args.shown.now.files.now _
    (last_at c.as_slice-keys.result.now c.args.shown.now.waiting.now.keys.items (key.Synthesized 0 0) c.as_slice-keys.ensures.value
    c.if-keys-eq0.false) c.ended.result.now c.args.out.now.items c.push_equation.new.out.items _
    c.push_text-2.new.out.items c.requires c.in_ok-push_equation.ensures is) c.push_text-2.ensures
