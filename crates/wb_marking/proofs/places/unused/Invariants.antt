use Rattle.std.proofs.Common.{◌<◌, ℕ}
use Rattle.wb_marking.specs.Inner.Begun.{IsUnused}
use Rattle.wb_marking.proofs.places.unused.Given as goal

abbrev pub invariant-terminals : goal.invariant-terminals
invariant-terminals l = (marker : ℕ) → marker < l.number → ¬ IsUnused l.scope.parts.now l.table marker
