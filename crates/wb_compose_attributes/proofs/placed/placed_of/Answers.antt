use Rattle.std.proofs.Common.{◌≡◌, ◌∙◌, ◌++◌, ◌∷◌, [], IfSome, ap, subst, arith}
use Rattle.std.proofs.lemmas.List.{take_all}
use Rattle.wb_lemmas.proofs.Places.{at_within}
use Rattle.wb_compose_theory_lists.specs.Joined.{numbered}
use Rattle.wb_compose_attributes.specs.declared.placed.Placed.{Placed}
use Rattle.wb_compose_attributes.specs.Inner.Counted.{placed_by}
use Rattle.wb_compose_attributes.proofs.NumberedLemmas.{numbered_next}
use Rattle.wb_compose_attributes.proofs.placed.placed_of.Goals as goal

pub additions-preserved : goal.additions-preserved
additions-preserved c =
    let xs = c.args.additions.now in
    let (x, at) = at_within xs c.additions.number (omega arith) in
    let next : c.in_ok-next.next ≡ placed_by c.args.host.now xs c.additions.number x =
    subst (λ o. IfSome o (λ z. c.in_ok-next.next ≡ placed_by c.args.host.now xs c.additions.number z)) at c.in_ok-next.ensures in
    numbered_next (placed_by c.args.host.now xs) xs c.additions.number x c.additions.placed.items c.push.new.list.items at
    c.additions.invariant (c.in_ok-push.ensures.ok ∙ ap (λ (z : Placed). c.additions.placed.items ++ z ∷ []) next)

pub returns : goal.returns
returns c =
    let xs = c.args.additions.now in
    c.additions.invariant ∙ ap (numbered (placed_by c.args.host.now xs) 0) (take_all c.additions.number xs c.additions-test.false)
