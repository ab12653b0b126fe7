use Rattle.std.proofs.Common.{◌⊎◌, length}
use Rattle.std.proofs.lemmas.Result.{on_ok_weaker}
use Rattle.wb_flow.specs.Inner.Adding.{SomeOf, SomeBelow}
use Rattle.wb_flow.specs.Inner.Arrows.{IsEquationArrow, IsLocalArrow, IsForwardArrow}
use Rattle.wb_flow.proofs.AddingLemmas.{adds_both}
use Rattle.wb_flow.proofs.KindLemmas.{rules_all}
use Rattle.wb_flow.proofs.arrows.add_reads.Goals as goal

pub returns : goal.returns
returns c = on_ok_weaker c.add_forward.result (λ adds.
    let p = c.args.production.now in
    let xs = c.args.arrows.now.items in
    let two = adds_both xs c.add_equations.new.arrows.items c.add_locals.new.arrows.items (SomeOf p.equations IsEquationArrow)
    (SomeBelow (length p.locals) (IsLocalArrow p)) c.in_ok-add_equations.ensures c.in_ok-add_locals.ensures in
    rules_all p xs c.add_forward.new.arrows.items
    (adds_both xs c.add_locals.new.arrows.items c.add_forward.new.arrows.items
    (λ r. SomeOf p.equations IsEquationArrow r ⊎ SomeBelow (length p.locals) (IsLocalArrow p) r) (IsForwardArrow p) two adds))
    c.add_forward.ensures
