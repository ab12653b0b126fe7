use Rattle.wb_determinism.specs.Images.{stands_for}
use Rattle.wb_determinism_beside.specs.Inner.Images.{AreImagesBy}
use Rattle.wb_tests_unions.proofs.images.images_of.Given as goal

abbrev pub invariant-terminals : goal.invariant-terminals
invariant-terminals l = AreImagesBy l.added.own l.added.more (stands_for l.parts l.grammar) l.terminal l.images.items
