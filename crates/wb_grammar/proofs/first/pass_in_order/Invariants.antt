use Rattle.wb_grammar.specs.Facts.{AreSets}
use Rattle.wb_grammar.specs.Inner.Firsts.{AreFirsts, SetsWithin}
use Rattle.wb_grammar.proofs.first.pass_in_order.Given as goal

abbrev pub invariant-order : goal.invariant-order
invariant-order l = record { shape : AreSets l.grammar l.sets; sound : AreFirsts l.grammar l.sets; keeps : SetsWithin l.fn.sets l.sets }
