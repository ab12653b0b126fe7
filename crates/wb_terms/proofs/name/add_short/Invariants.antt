use Rattle.std.proofs.Common.{◌-◌, length}
use Rattle.wb_terms.specs.Inner.ShortNames.{AreShort}
use Rattle.wb_terms.proofs.name.add_short.Given as goal

abbrev pub invariant-names : goal.invariant-names
invariant-names l = AreShort l.signatures l.short.items

abbrev pub decreases-names : goal.decreases-names
decreases-names l = length l.signatures - length l.short.items
