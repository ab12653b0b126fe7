use Rattle.std.proofs.Common.{arith}
use Rattle.wb_explain_places.specs.Characters.{begins_character}
use Rattle.wb_explain_places.proofs.CountLemmas.{counted_more}
use Rattle.wb_explain_places.proofs.characters.characters.Goals as goal

pub bytes-preserved : goal.bytes-preserved
bytes-preserved c =
    counted_more begins_character c.args.bytes.now c.bytes.byte-index c.bytes.count c.with_one-count.result c.begins_character.result
    (omega (arith, c.bytes-test.true)) c.bytes.invariant c.begins_character.ensures c.with_one-count.ensures
