use Rattle.wb_compose_language.specs.Inner.TextMachines.{AreSetsUpTo}
use Rattle.wb_compose_language.proofs.text_machine.add_sets.Given as goal

abbrev pub invariant-texts : goal.invariant-texts
invariant-texts l = AreSetsUpTo l.texts l.place l.sets.items
