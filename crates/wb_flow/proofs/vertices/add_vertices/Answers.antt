use Rattle.std.proofs.Common.{◌≡◌, Some}
use Rattle.std.proofs.lemmas.Result.{on_ok_weaker}
use Rattle.wb_flow.specs.Inner.Positions.{tree_at, IsAttributeOf}
use Rattle.wb_flow.proofs.AddingLemmas.{adds_both}
use Rattle.wb_flow.proofs.vertices.add_vertices.Goals as goal

pub returns : goal.returns
returns c = on_ok_weaker c.add_attributes.result
    (adds_both c.args.vertices.now c.add_made.new.vertices c.add_attributes.new.vertices (λ v. tree_at c.args.tree.position ≡ Some v)
    (IsAttributeOf c.args.scope.now.attributes.now c.args.tree) c.in_ok-add_made.ensures) c.add_attributes.ensures
