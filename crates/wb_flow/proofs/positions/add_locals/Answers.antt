use Rattle.std.proofs.Common.{◌≡◌, length, arith, subst}
use Rattle.wb_flow.specs.declared.positions.Position.TheVariants.{Local}
use Rattle.wb_flow.specs.Inner.Adding.{SomeBelow}
use Rattle.wb_flow.specs.Adding.{Adds}
use Rattle.wb_flow.specs.Inner.Positions.{IsTreeOf}
use Rattle.wb_flow.proofs.AddingLemmas.{adds_start_below, adds_more_below}
use Rattle.wb_flow.proofs.positions.add_locals.Goals as goal

pub locals-init : goal.locals-init
locals-init c = adds_start_below c.args.trees.now.items (λ k. IsTreeOf c.args.production.now (Local k))

pub locals-preserved : goal.locals-preserved
locals-preserved c =
    adds_more_below c.args.trees.now.items c.locals.trees.items c.add_tree.new.trees.items
    (λ k. IsTreeOf c.args.production.now (Local k)) c.locals.local c.locals.invariant c.in_ok-add_tree.ensures

pub returns : goal.returns
returns c =
    let ended : c.locals.local ≡ length c.args.production.now.locals = omega arith in
    subst (λ n. Adds c.args.trees.now.items c.locals.trees.items (SomeBelow n (λ k. IsTreeOf c.args.production.now (Local k)))) ended
    c.locals.invariant
