use Rattle.std.proofs.Common.{sym, ◌∙◌}
use Rattle.std.proofs.lemmas.Bool.{true≢false}
use Rattle.wb_determinism_kernels.proofs.HoleLemmas.{after_pass, after_take}
use Rattle.wb_determinism_kernels.proofs.markers.add_after.Goals as goal

pub returns-in_ok-push : goal.returns-in_ok-push
returns-in_ok-push c =
    let (rest, is) = c.begins.ensures.0 c.if-begins.true in
    after_take c.args.grammar.now c.args.marker c.args.production c.right.result.now c.requires.production c.right.ensures.right
    c.args.items.now.items c.requires.before rest is c.push.new.list.items c.in_ok-push.ensures.ok

pub returns-else-begins : goal.returns-else-begins
returns-else-begins c =
    after_pass c.args.grammar.now c.args.marker c.args.production c.right.result.now c.requires.production c.right.ensures.right
    c.args.items.now.items c.requires.before
    (λ rest is. true≢false (sym (c.begins.ensures.1 (rest, is)) ∙ c.if-begins.false))
