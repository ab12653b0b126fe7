-- One byte more is shown.
use Rattle.std.proofs.Common.{arith}
use Rattle.wb_explain_names.specs.Said.{without_caret}
use Rattle.wb_explain_names.proofs.ShowLemmas.{mapped_more}
use Rattle.wb_explain_names.proofs.show.push_without_carets.Goals as goal

pub bytes-preserved : goal.bytes-preserved
bytes-preserved c =
    mapped_more without_caret c.args.words.now c.args.out.now.items c.bytes.out.items c.push.new.self.items c.bytes.byte-index
    c.without_caret.result (omega (arith, c.bytes-test.true)) c.bytes.invariant c.without_caret.ensures c.in_ok-push.ensures.items
