use Rattle.wb_explain_beside.specs.Said.{SaysSides}
use Rattle.wb_explain_beside.proofs.shown.push_sides.Given as goal

abbrev pub invariant-sides : goal.invariant-sides
invariant-sides l = SaysSides l.told.host.now l.told.grammar.now l.told.resolved.now l.initial.out.items l.out.items
