use Rattle.wb_determinism.specs.Images.{stands_for, AreImages}
use Rattle.wb_determinism.proofs.images.images_of.Given as goal

abbrev pub invariant-terminals : goal.invariant-terminals
invariant-terminals l = AreImages l.numbers (stands_for l.parts l.grammar) l.terminal l.images.items
