use Rattle.std.proofs.Common.{◌≡◌, length, arith, subst}
use Rattle.wb_flow.specs.declared.positions.Position.TheVariants.{Child}
use Rattle.wb_flow.specs.Inner.Adding.{SomeBelow}
use Rattle.wb_flow.specs.Adding.{Adds}
use Rattle.wb_flow.specs.Inner.Positions.{IsTreeOf}
use Rattle.wb_flow.proofs.AddingLemmas.{adds_start_below, adds_more_below}
use Rattle.wb_flow.proofs.positions.add_children.Goals as goal

pub children-init : goal.children-init
children-init c = adds_start_below c.args.trees.now.items (λ k. IsTreeOf c.args.production.now (Child k))

pub children-preserved : goal.children-preserved
children-preserved c =
    adds_more_below c.args.trees.now.items c.children.trees.items c.add_tree.new.trees.items
    (λ k. IsTreeOf c.args.production.now (Child k)) c.children.child c.children.invariant c.in_ok-add_tree.ensures

pub returns : goal.returns
returns c =
    let ended : c.children.child ≡ length c.args.production.now.children = omega arith in
    subst (λ n. Adds c.args.trees.now.items c.children.trees.items (SomeBelow n (λ k. IsTreeOf c.args.production.now (Child k)))) ended
    c.children.invariant
