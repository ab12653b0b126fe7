use Rattle.wb_generate.proofs.GroupLemmas.{below_at, uses_all, uses_more, uses_none}
use Rattle.wb_generate.proofs.groups.add_uses.Goals as goal

pub symbols-init : goal.symbols-init
symbols-init c = uses_none c.args.production c.args.groups.now.items

pub add_use-requires : goal.add_use-requires
add_use-requires c = below_at _ _ c.args.right.now c.symbols.symbol-index _ c.symbols.invariant.len c.symbols-test.true c.requires

pub symbols-preserved : goal.symbols-preserved
symbols-preserved c = uses_more c.args.right.now c.symbols.symbol-index c.args.production _ c.args.groups.now.items c.symbols.groups.items
    c.add_use.new.groups.items c.symbols-test.true c.symbols.invariant c.in_ok-add_use.ensures

pub returns : goal.returns
returns c = uses_all c.args.right.now c.symbols.symbol-index c.args.production c.args.groups.now.items c.symbols.groups.items
    c.symbols-test.false c.symbols.invariant
