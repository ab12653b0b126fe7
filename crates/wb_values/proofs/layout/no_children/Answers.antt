use Rattle.std.proofs.Common.{refl}
use Rattle.wb_values.proofs.LayoutLemmas.{layout_none}
use Rattle.wb_values.proofs.layout.no_children.Goals as goal

pub returns : goal.returns
returns c start = layout_none c.args.nodes.now start _ refl refl refl
