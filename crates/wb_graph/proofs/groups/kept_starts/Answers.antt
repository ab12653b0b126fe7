use Rattle.std.proofs.Common.{◌-◌, arith, get_or}
use Rattle.std.proofs.lemmas.Option.{slice_get-get_or, slice_get_within}
use Rattle.wb_graph.proofs.MarkLemmas.{high_more, kept_low, kept_none}
use Rattle.wb_graph.proofs.groups.kept_starts.Goals as goal

pub starts-init : goal.starts-init
starts-init c = record {
  within = omega arith;
  high = λ m p at low. (let within = slice_get_within c.args.starts.now m p at in absurd (omega arith));
}

pub returns-then-starts-kept : goal.returns-then-starts-kept
returns-then-starts-kept c =
    let starts = c.args.starts.now in
    let h = c.starts.invariant in
    let at = slice_get-get_or starts (c.starts.kept - 1) 0 (omega (arith, h.within, c.starts-test.true)) in
    kept_low starts c.args.place c.starts.kept (get_or starts
    (c.starts.kept - 1) 0) c.requires c.starts-test.true h.within at c.if-starts-kept.true h.high

pub starts-preserved : goal.starts-preserved
starts-preserved c =
    let starts = c.args.starts.now in
    let h = c.starts.invariant in
    let at = slice_get-get_or starts (c.starts.kept - 1) 0 (omega (arith, h.within, c.starts-test.true)) in
    record {
      within = omega (arith, h.within);
      high = high_more starts c.args.place c.starts.kept
          (get_or starts (c.starts.kept - 1) 0) c.starts-test.true at c.if-starts-kept.false h.high;
    }

pub returns : goal.returns
returns c = kept_none c.args.starts.now c.args.place c.starts.kept (omega arith) c.starts.invariant.high
