use Rattle.wb_names_rules.proofs.UnknownLemmas.{tells_forward}
use Rattle.wb_names_rules.proofs.unknown.lacks_forward.Goals as goal

pub returns-in_ok-forward-in-Forward : goal.returns-in_ok-forward-in-Forward
returns-in_ok-forward-in-Forward c =
    tells_forward c.args.index.now c.args.production.now c.args.site.now c.in_ok-forward-in-Forward.field-0 c.is_none.result c.in-Forward.is
    c.is_none.ensures (rw c.as_slice.ensures at c.in_ok-forward-in-Forward.ensures.found)
    (rw c.as_slice.ensures at c.in_ok-forward-in-Forward.ensures.none)
