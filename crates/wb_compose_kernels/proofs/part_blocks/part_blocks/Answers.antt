use Rattle.std.proofs.Common.{◌≡◌, arith, length, subst, sym}
use Rattle.wb_compose_kernels.specs.Inner.Blocks.{BlocksUpTo}
use Rattle.wb_compose_kernels.proofs.EachLemmas.{each_blocks}
use Rattle.wb_compose_kernels.proofs.LoopLemmas.{before_start, blocks_start}
use Rattle.wb_compose_kernels.proofs.part_blocks.part_blocks.Goals as goal

pub parts-init : goal.parts-init
parts-init c = record {
  blocks = λ ok. subst (BlocksUpTo c.args.splice.now ok 0) (sym c.in_ok-list.ensures.items) (blocks_start c.args.splice.now ok);
  counted = λ ok. before_start c.args.splice.now ok;
}

pub parts-preserved : goal.parts-preserved
parts-preserved c =
    let made = each_blocks c.args.splice.now c.parts.part c.parts.before c.size_of-size.result c.in_ok-sums.sums
    c.blocks_with-blocks.result c.parts.list.items c.push.new.list.items c.parts-test.true c.parts.invariant.counted c.size_of-size.ensures
    c.blocks_with-blocks.ensures c.in_ok-sums.ensures c.in_ok-push.ensures.ok c.parts.invariant.blocks in
    record { blocks = made.0; counted = made.1 }

pub returns : goal.returns
returns c ok =
    let done : c.parts.part ≡ length c.args.splice.now.parts.now = omega arith in
    subst (λ n. BlocksUpTo c.args.splice.now ok n c.parts.list.items) done (c.parts.invariant.blocks ok)
