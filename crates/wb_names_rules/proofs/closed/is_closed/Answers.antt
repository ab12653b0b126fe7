use Rattle.wb_names_rules.proofs.ClosedLemmas.{none_closed, closed_test}
use Rattle.wb_names_rules.proofs.closed.is_closed.Goals as goal

pub returns-in-None : goal.returns-in-None
returns-in-None c =
    let none = rw c.in-None.is at c.in_ok-symbol.ensures.none in
    (λ e. absurd (cc), λ has. absurd (none_closed c.args.base.now c.args.index.now c.requires c.args.name.now none has))

pub returns-in-Some : goal.returns-in-Some
returns-in-Some c =
    let (is, at) = rw c.in-Some.is at c.in_ok-symbol.ensures.found in
    closed_test c.args.base.now c.args.index.now c.requires c.in_ok-symbol.ensures.once c.in-Some.place c.args.name.now is
    c.is_closed_at.result at c.is_closed_at.ensures
