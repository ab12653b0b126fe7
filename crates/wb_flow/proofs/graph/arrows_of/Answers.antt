use Rattle.std.proofs.Common.{List, subst}
use Rattle.wb_flow.specs.declared.arrows.Arrow.{Arrow}
use Rattle.wb_flow.specs.Adding.{Adds}
use Rattle.wb_flow.specs.Inner.Arrows.{IsRuleArrow}
use Rattle.wb_flow.proofs.GraphLemmas.{arrows_all}
use Rattle.wb_flow.proofs.graph.arrows_of.Goals as goal

pub returns : goal.returns
returns c =
    arrows_all c.args.scope.now.attributes.now c.requires.attribution c.args.production.now c.requires.listed c.args.trees.now c.requires.trees
    c.add_reads.new.arrows.items c.add_needs.new.arrows.items c.add_copies.new.arrows.items
    (subst (λ (z : List Arrow). Adds z c.add_reads.new.arrows.items (IsRuleArrow c.args.production.now)) c.new-arrows.ensures.items
    c.in_ok-add_reads.ensures) c.in_ok-add_needs.ensures c.in_ok-add_copies.ensures
