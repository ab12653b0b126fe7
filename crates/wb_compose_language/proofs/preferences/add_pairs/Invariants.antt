use Rattle.std.proofs.Common.{◌≡◌, ◌++◌, map, take}
use Rattle.wb_compose_language.specs.Inner.Rows.{pair_in}
use Rattle.wb_compose_language.proofs.preferences.add_pairs.Given as goal

abbrev pub invariant-preferences : goal.invariant-preferences
invariant-preferences l = l.pairs.items ≡ l.initial.pairs.items ++ map (pair_in l.blocks) (take l.preference-index l.preferences)
