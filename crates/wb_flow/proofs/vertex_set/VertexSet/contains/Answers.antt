use Rattle.std.proofs.Common.{◌≡◌, true, Contains, sym, subst}
use Rattle.std.specs.Prelude.{◌↔◌}
use Rattle.wb_flow.proofs.SetLemmas.{find_decides}
use Rattle.wb_flow.proofs.vertex_set.VertexSet.contains.Goals as goal

pub returns : goal.returns
returns c =
    subst (λ b. (b ≡ true) ↔ Contains c.args.self.now c.args.vertex) (sym c.is_some.ensures)
    (find_decides c.args.self.now c.args.vertex c.find.result c.find.ensures.some c.find.ensures.none)
