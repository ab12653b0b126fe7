use Rattle.std.proofs.Common.{◌≡◌, Some, sym, ◌∙◌}
use Rattle.std.proofs.lemmas.Result.{on_ok_weaker}
use Rattle.wb_flow.specs.Inner.Positions.{tree_at}
use Rattle.wb_flow.proofs.AddingLemmas.{adds_as}
use Rattle.wb_flow.proofs.RowLemmas.{some_is}
use Rattle.wb_flow.proofs.vertices.add_made.Goals as goal

pub returns : goal.returns
returns c = on_ok_weaker c.add.result
    (adds_as c.args.vertices.now c.add.new.self (λ v. v ≡ c.in-Some.vertex) (λ v. tree_at c.args.tree.position ≡ Some v)
    (some_is (tree_at c.args.tree.position) c.in-Some.vertex (sym c.tree.ensures ∙ c.in-Some.is))) c.add.ensures
