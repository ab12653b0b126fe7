use Rattle.std.proofs.Common.{arith}
use Rattle.wb_explain_places.specs.Window.{shown_byte}
use Rattle.wb_explain_places.proofs.CountLemmas.{mapped_more}
use Rattle.wb_explain_places.proofs.window.push_shown.Goals as goal

pub bytes-preserved : goal.bytes-preserved
bytes-preserved c =
    mapped_more shown_byte c.args.bytes.now c.args.out.now.items c.bytes.out.items c.push.new.self.items c.bytes.byte-index
    c.shown_byte.result (omega (arith, c.bytes-test.true)) c.bytes.invariant c.shown_byte.ensures c.in_ok-push.ensures.items
