use Rattle.std.proofs.Common.{◌≡◌, ◌++◌, map, take}
use Rattle.wb_reading.specs.OrderedNames.{all_of}
use Rattle.wb_compose_texts.specs.Names.{added_names}
use Rattle.wb_compose_texts.specs.Unions.{all_resolved}
use Rattle.wb_compose_texts.proofs.names.add_extensions.Given as goal

abbrev pub invariant-extensions : goal.invariant-extensions
invariant-extensions l =
    l.names.items ≡ l.initial.names.items ++ all_of (map (added_names l.host) (all_resolved (take l.extension-index l.extensions)))
