use Rattle.std.proofs.Common.{◌≡◌, ◌++◌}
use Rattle.std.specs.List.{AllZip}
use Rattle.std.specs.Vec.Iter.{into_iter_items}
use Rattle.wb_syntax.specs.SpecText.{IsReadAs}
use Rattle.wb_reader.proofs.patterns.read_items.Given as goal

abbrev pub invariant-loop-item : goal.invariant-loop-item
invariant-loop-item l = (l.fn.items.items ≡ l.yielded ++ into_iter_items l.item-iterator) × AllZip IsReadAs l.yielded l.made.items
