use Rattle.std.proofs.Common.{◌≤◌, length, arith, sym}
use Rattle.std.proofs.lemmas.Bool.{true≢false}
use Rattle.wb_scan.specs.Inner.Rankings.{ranked_by}
use Rattle.wb_scan.proofs.BeatLemmas.{layout_form}
use Rattle.wb_scan.proofs.winner.is_prefixed.Goals as goal

pub returns-else-place-ranking : goal.returns-else-place-ranking
returns-else-place-ranking c form at =
    let past : length c.args.ranking.now.forms.now ≤ c.args.place = omega (arith, c.if-place-ranking.false) in
    (λ e. absurd (true≢false (sym e)), λ some. absurd (some (layout_form (ranked_by c.args.ranking.now) c.args.place form past at)))
