use Rattle.std.proofs.Common.{◌≡◌, ◌++◌, map, take}
use Rattle.wb_reading.specs.OrderedNames.{all_of}
use Rattle.wb_compose_texts.specs.Unions.{all_resolved}
use Rattle.wb_compose_texts.specs.UnionMarkers.{added_markers}
use Rattle.wb_compose_texts.proofs.markers.add_extensions.Given as goal

abbrev pub invariant-extensions : goal.invariant-extensions
invariant-extensions l =
    l.flags.items ≡ l.initial.flags.items ++ all_of (map (added_markers l.host) (all_resolved (take l.extension-index l.extensions)))
