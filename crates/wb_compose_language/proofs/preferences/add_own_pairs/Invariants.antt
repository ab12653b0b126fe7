use Rattle.std.proofs.Common.{take}
use Rattle.wb_compose_language.specs.Inner.Rows.{AreOwnAdded}
use Rattle.wb_compose_language.proofs.preferences.add_own_pairs.Given as goal

abbrev pub invariant-preferences : goal.invariant-preferences
invariant-preferences l = AreOwnAdded l.blocks (take l.preference-index l.preferences) l.initial.pairs.items l.pairs.items
