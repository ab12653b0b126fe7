use Rattle.std.proofs.Common.{◌≡◌, ℕ, ◌-◌, suc, get_or, sym, subst, arith}
use Rattle.wb_values.specs.declared.node.Node.{Node}
use Rattle.wb_values.specs.InPlace.{no_node}
use Rattle.wb_values.specs.Inner.Begin.{begin}
use Rattle.wb_values.proofs.Laid.{begin-after}
use Rattle.wb_values.proofs.walk.begin.Goals as goal

pub returns : goal.returns
returns c =
    let nodes = c.args.nodes.now in
    let place = c.args.place in
    let e : suc (place - 1) ≡ place = omega arith in
    let d : Node = no_node in
    sym (subst (λ (k : ℕ). begin 0 nodes k ≡ (get_or nodes (place - 1) d).end) e (begin-after 0 nodes (place - 1) d (omega arith)))
