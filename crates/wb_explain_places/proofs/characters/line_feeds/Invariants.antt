use Rattle.std.proofs.Common.{◌≡◌, take}
use Rattle.std.specs.List.{count_by}
use Rattle.wb_explain_places.specs.Characters.{is_line_feed}
use Rattle.wb_explain_places.proofs.characters.line_feeds.Given as goal

abbrev pub invariant-bytes : goal.invariant-bytes
invariant-bytes l = l.count ≡ count_by is_line_feed (take l.byte-index l.bytes)
