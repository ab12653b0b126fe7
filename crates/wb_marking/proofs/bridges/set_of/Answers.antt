use Rattle.std.proofs.Common.{◌<◌, [], get_or, subst, sym}
use Rattle.std.proofs.lemmas.List.{take_all}
use Rattle.wb_marking.specs.Inner.Begun.{AreIn}
use Rattle.wb_marking.proofs.PlaceLemmas as p
use Rattle.wb_marking.proofs.bridges.set_of.Goals as goal

pub numbers-init : goal.numbers-init
numbers-init c = subst (AreIn c.args.count []) (sym c.in_ok-set.ensures) (p.set_none c.args.count)

pub insert-requires : goal.insert-requires
insert-requires c =
    subst (λ z. get_or c.args.numbers.now c.numbers.number-index 0 < z) (sym c.numbers.invariant.len)
    (c.requires c.numbers.number-index 0 c.numbers-test.true)

pub numbers-preserved : goal.numbers-preserved
numbers-preserved c =
    p.set_more c.args.count c.args.numbers.now c.numbers.number-index 0 c.numbers.set c.insert.new.self c.numbers-test.true
    (c.requires c.numbers.number-index 0 c.numbers-test.true) c.numbers.invariant c.insert.ensures.after

pub returns : goal.returns
returns c =
    subst (λ z. AreIn c.args.count z c.numbers.set) (take_all c.numbers.number-index c.args.numbers.now c.numbers-test.false)
    c.numbers.invariant
