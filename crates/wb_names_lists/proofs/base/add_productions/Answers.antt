use Rattle.wb_names_theory.specs.Declares.{production_declarations}
use Rattle.wb_names_lists.proofs.ListLemmas.{flat_map_next, flat_map_all}
use Rattle.wb_names_lists.proofs.base.add_productions.Goals as goal

pub productions-preserved : goal.productions-preserved
productions-preserved c =
    flat_map_next (production_declarations c.args.base.now)
    c.args.productions.now c.productions.production-index c.production-item.result c.args.out.now.items c.productions.out.items
    c.add_production.new.out.items
    c.productions.invariant c.productions-test.true c.production-item.is c.in_ok-add_production.ensures

pub returns : goal.returns
returns c =
    flat_map_all (production_declarations c.args.base.now)
    c.args.productions.now c.productions.production-index c.args.out.now.items c.productions.out.items c.productions.invariant
    c.productions-test.false
