use Rattle.std.proofs.Common.{ap}
use Rattle.std.specs.List.{flat_map}
use Rattle.wb_names_theory.specs.Uses.{equation_uses, node_uses, target_uses}
use Rattle.wb_names_lists.proofs.ListLemmas.{both_added, flat_map_next, flat_map_all}
use Rattle.wb_names_lists.proofs.uses.add_equations.Goals as goal

pub equations-preserved : goal.equations-preserved
equations-preserved c =
    let e = c.equation-item.result in
    flat_map_next (equation_uses c.args.production.now)
    c.args.equations.now c.equations.equation-index e c.args.out.now.items c.equations.out.items c.add_nodes.new.out.items
    c.equations.invariant c.equations-test.true c.equation-item.is
    (both_added (target_uses c.args.production.now e.target) _ _ c.equations.out.items c.add_target.new.out.items
    c.add_nodes.new.out.items c.in_ok-add_target.ensures c.in_ok-add_nodes.ensures
    (ap (flat_map (node_uses c.args.production.now)) c.as_slice.ensures))

pub returns : goal.returns
returns c =
    flat_map_all (equation_uses c.args.production.now)
    c.args.equations.now c.equations.equation-index c.args.out.now.items c.equations.out.items c.equations.invariant c.equations-test.false
