use Rattle.std.proofs.Common.{◌∙◌, arith, sym}
use Rattle.std.proofs.lemmas.Bool.{true≢false}
use Rattle.wb_compose_kernels.proofs.NextLemmas.{next_host, next_passed}
use Rattle.wb_compose_kernels.proofs.lists.list_host.Goals as goal

pub returns-then-has_hole : goal.returns-then-has_hole
returns-then-has_hole c ok =
    next_passed c.args.splice.now ok c.requires.given c.args.kernels.now.items c.args.state c.len-number.result c.args.blocks
    c.kernel-kernel.result.now
    (c.requires.blocks ok) c.kernel-kernel.ensures.exact (c.has_hole.ensures.0 c.if-has_hole.true) (c.requires.before ok)

pub returns : goal.returns
returns c ok =
    next_host c.args.splice.now ok c.requires.given c.args.kernels.now.items c.push.new.list.items c.args.state c.len-number.result
    c.args.blocks
    c.kernel-kernel.result.now c.in_ok-list.list (c.requires.blocks ok) c.requires.state
    (let e = c.len-number.ensures in let f = c.args.kernels.now.ok.0 in omega (arith, e, f)) c.kernel-kernel.ensures.exact
    c.kernel-kernel.ensures.in_order (λ h. true≢false (sym (c.has_hole.ensures.1 h) ∙ c.if-has_hole.false)) c.in_ok-list.ensures
    c.in_ok-push.ensures.ok (c.requires.before ok)
