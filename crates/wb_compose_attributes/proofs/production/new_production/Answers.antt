use Rattle.std.proofs.Common.{◌≡◌, [], IfOk, subst}
use Rattle.wb_compose_attributes.specs.Inner.Filled.{with_rules}
use Rattle.wb_compose_attributes.specs.Inner.Written.{production_by}
use Rattle.wb_compose_attributes.proofs.production.new_production.Goals as goal

pub returns : goal.returns
returns c =
    let rules = c.in_ok-add_rules.ensures in
    let plain = production_by c.args.numbers.now c.args.writers.now.on.row.now [] in
    subst (λ z. IfOk c.production_of.result (λ made. made ≡ z)) (λ j. with_rules plain (rules.locals j) (rules.forward j)
    (rules.equations j)) c.production_of.ensures
