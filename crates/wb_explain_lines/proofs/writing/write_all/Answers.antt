-- One more piece is written.
use Rattle.std.proofs.Common.{◌≡◌, ◌-◌, ℕ, List, length, drop, take, arith, ap, ◌∙◌}
use Rattle.std.proofs.lemmas.Grind.{common_steps}
use Rattle.std.specs.Io.KnownBytes.{append_known}
use Rattle.wb_explain_lines.proofs.Known.{append_more}
use Rattle.wb_explain_lines.proofs.writing.write_all.Goals as goal

pub loop-at-preserved : goal.loop-at-preserved
loop-at-preserved g c =
    let r : List ℕ = c.args.bytes.now in
    let e : take c.in-Took.count (take (length r - c.loop-at.at) (drop c.loop-at.at r)) ≡ take c.in-Took.count (drop c.loop-at.at r) = grind
    (arith, common_steps) in
    record {
      within = grind (arith, common_steps);
      bytes = c.in-Took.ensures.bytes
          ∙ ap (λ known. append_known known (take c.in-Took.count
          (take (length r - c.loop-at.at) (drop c.loop-at.at r)))) c.loop-at.invariant.bytes
          ∙ ap (append_known (append_known (g.K.Sink.written c.args.sink.now) (take c.loop-at.at r))) e
          ∙ append_more (g.K.Sink.written c.args.sink.now) r c.loop-at.at c.in-Took.count;
      faults = omega (arith, c.in-Took.ensures.faults, c.loop-at.invariant.faults);
    }
