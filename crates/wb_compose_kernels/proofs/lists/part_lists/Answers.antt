use Rattle.std.proofs.Common.{◌≡◌, arith, length, subst, sym}
use Rattle.wb_compose_kernels.specs.Inner.Lists.{PartsUpTo}
use Rattle.wb_compose_kernels.proofs.EachLemmas.{each_listed}
use Rattle.wb_compose_kernels.proofs.LoopLemmas.{parts_start}
use Rattle.wb_compose_kernels.proofs.lists.part_lists.Goals as goal

pub new_lists-requires-clause-before : goal.new_lists-requires-clause-before
new_lists-requires-clause-before c ok = (c.parts.invariant ok).so_far

pub parts-preserved : goal.parts-preserved
parts-preserved c ok =
    each_listed c.args.splice.now ok c.requires.given c.args.kernels.now.items c.parts.kernels.items c.new_lists.new.kernels.items
    c.parts.new.items c.push.new.list.items c.parts.part c.in_ok-numbers.numbers c.parts-test.true c.in_ok-push.ensures.ok
    (c.parts.invariant ok) (c.in_ok-numbers.ensures ok)

pub parts-init : goal.parts-init
parts-init c ok =
    let kernels = c.args.kernels.now.items in
    subst (λ z. PartsUpTo c.args.splice.now ok kernels kernels z 0) (sym c.in_ok-new.ensures.items)
    (parts_start c.args.splice.now ok kernels (c.requires.before ok))

pub blocks_at-requires : goal.blocks_at-requires
blocks_at-requires c =
    let len = (c.requires.blocks c.requires.given.spliceable).len in
    let lt = c.parts-test.true in
    omega (arith, len, lt)

pub new_lists-requires-clause-blocks : goal.new_lists-requires-clause-blocks
new_lists-requires-clause-blocks c ok = (c.requires.blocks ok).each c.parts.part c.blocks_at.result c.blocks_at.ensures

pub returns : goal.returns
returns c ok =
    let done : c.parts.part ≡ length c.args.splice.now.parts.now = omega arith in
    subst (PartsUpTo c.args.splice.now ok c.args.kernels.now.items c.parts.kernels.items c.parts.new.items) done (c.parts.invariant ok)
