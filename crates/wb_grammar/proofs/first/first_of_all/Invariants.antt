use Rattle.wb_grammar.specs.Facts.{AreSets}
use Rattle.wb_grammar.specs.Inner.Firsts.{AreFirsts}
use Rattle.wb_grammar.proofs.FirstLemmas.{room}
use Rattle.wb_grammar.proofs.first.first_of_all.Given as goal

abbrev pub invariant-passes : goal.invariant-passes
invariant-passes l = AreSets l.grammar l.sets × AreFirsts l.grammar l.sets

abbrev pub decreases-passes : goal.decreases-passes
decreases-passes l = room l.sets
