use Rattle.std.proofs.Common.{◌+◌, ap, ℕ}
use Rattle.wb_explain_places.proofs.PlaceLemmas.{shows}
use Rattle.wb_explain_places.proofs.place.push_place.Goals as goal

pub returns : goal.returns
returns c =
    shows c.push_pointed.result c.args.file.now c.args.text.now c.args.out.now.items c.push_heading.new.out.items
    c.push_pointed.new.out.items c.args.at c.line_start-start.result c.line_end-end.result _ _ c.line_start-start.ensures
    c.line_end-end.ensures (ap (λ (n : ℕ). n + 1) c.line_feeds-line.ensures) (ap (λ (n : ℕ). n + 1) c.characters-column.ensures)
    c.in_ok-push_heading.ensures c.push_pointed.ensures
