-- Some lines are there.
use Rattle.wb_explain_language.specs.Inner.Asked.{HasAsked}
use Rattle.wb_explain_language.proofs.attributes.push_each.Given as goal

abbrev pub invariant-numbers : goal.invariant-numbers
invariant-numbers l = HasAsked l.certified l.initial.out.items l.out.items
