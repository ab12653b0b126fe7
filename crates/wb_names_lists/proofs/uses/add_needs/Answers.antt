use Rattle.wb_names_theory.specs.Uses.{needs_uses}
use Rattle.wb_names_lists.proofs.ListLemmas.{flat_map_next, flat_map_all}
use Rattle.wb_names_lists.proofs.uses.add_needs.Goals as goal

pub needs-preserved : goal.needs-preserved
needs-preserved c =
    flat_map_next (needs_uses c.args.nonterminal.now)
    c.args.needs.now c.needs.attribute-index c.attribute-item.result c.args.out.now.items c.needs.out.items c.add_need.new.out.items
    c.needs.invariant c.needs-test.true c.attribute-item.is c.in_ok-add_need.ensures

pub returns : goal.returns
returns c =
    flat_map_all (needs_uses c.args.nonterminal.now)
    c.args.needs.now c.needs.attribute-index c.args.out.now.items c.needs.out.items c.needs.invariant c.needs-test.false
