use Rattle.std.proofs.Common.{◌≡◌, take}
use Rattle.std.specs.List.{count_by}
use Rattle.wb_explain_places.specs.Characters.{begins_character}
use Rattle.wb_explain_places.proofs.characters.characters.Given as goal

abbrev pub invariant-bytes : goal.invariant-bytes
invariant-bytes l = l.count ≡ count_by begins_character (take l.byte-index l.bytes)
