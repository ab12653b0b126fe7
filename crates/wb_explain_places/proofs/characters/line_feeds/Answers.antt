use Rattle.std.proofs.Common.{arith, refl}
use Rattle.wb_explain_places.specs.Characters.{is_line_feed}
use Rattle.wb_explain_places.proofs.CountLemmas.{counted_more}
use Rattle.wb_explain_places.proofs.characters.line_feeds.Goals as goal

pub bytes-preserved : goal.bytes-preserved
bytes-preserved c =
    counted_more is_line_feed c.args.bytes.now c.bytes.byte-index c.bytes.count c.with_one-count.result _ (omega (arith, c.bytes-test.true))
    c.bytes.invariant refl c.with_one-count.ensures
