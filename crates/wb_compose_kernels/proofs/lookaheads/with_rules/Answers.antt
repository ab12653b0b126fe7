use Rattle.std.proofs.Common.{length, subst, sym}
use Rattle.wb_compose_kernels.specs.Inner.Blocks.{AreBlocksUpTo}
use Rattle.wb_compose_kernels.proofs.lookaheads.with_rules.Goals as goal

pub with_blocks-made-requires-clause-blocks : goal.with_blocks-made-requires-clause-blocks
with_blocks-made-requires-clause-blocks c =
    subst (AreBlocksUpTo c.args.splice.now (length c.args.splice.now.parts.now)) (sym c.deref.ensures.value) c.in_ok-blocks.ensures
