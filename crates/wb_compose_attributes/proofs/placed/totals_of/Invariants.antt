use Rattle.std.proofs.Common.{◌≡◌, take}
use Rattle.wb_compose_attributes.specs.Inner.Counted.{totals_in}
use Rattle.wb_compose_attributes.proofs.placed.totals_of.Given as goal

abbrev pub invariant-additions : goal.invariant-additions
invariant-additions l = l.totals ≡ totals_in (take l.addition-index l.additions)
