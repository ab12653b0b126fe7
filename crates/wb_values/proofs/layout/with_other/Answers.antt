use Rattle.std.proofs.Common.{◌<◌, ◌≤◌, refl, rules}
use Rattle.wb_values.proofs.LayoutLemmas.{layout_other, layout_last}
use Rattle.wb_values.proofs.layout.with_other.Goals as goal

pub returns-then-layout-ge-LOW : goal.returns-then-layout-ge-LOW
returns-then-layout-ge-LOW c nodes start listed done child l =
    let le : 4294967296 ≤ c.args.layout.unit = search rules in
    layout_last nodes start listed done child c.args.layout le l

pub returns : goal.returns
returns c nodes start listed done child l =
    let lt : c.args.layout.unit < 4294967296 = search rules in
    layout_other nodes start listed done child c.args.layout _ lt refl refl refl l
