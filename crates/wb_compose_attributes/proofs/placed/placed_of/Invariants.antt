use Rattle.std.proofs.Common.{◌≡◌, take}
use Rattle.wb_compose_theory_lists.specs.Joined.{numbered}
use Rattle.wb_compose_attributes.specs.Inner.Counted.{placed_by}
use Rattle.wb_compose_attributes.proofs.placed.placed_of.Given as goal

abbrev pub invariant-additions : goal.invariant-additions
invariant-additions l = l.placed.items ≡ numbered (placed_by l.host l.additions) 0 (take l.number l.additions)
