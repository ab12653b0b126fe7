use Rattle.std.proofs.Common.{◌≡◌, take}
use Rattle.wb_generate.specs.Texts.{between_of, joined_texts}
use Rattle.wb_generate.proofs.texts.join.Given as goal

abbrev pub invariant-leaves : goal.invariant-leaves
invariant-leaves l = l.text.items ≡ joined_texts l.texts (between_of l.texts l.layout) (take l.place l.made)
