use Rattle.std.proofs.Common.{◌≡◌, ◌∷◌, true, IfOk, sym, subst}
use Rattle.wb_explain_readings.specs.declared.piece.Piece.TheVariants.{Leaf, Close}
use Rattle.wb_explain_readings.specs.Inner.Frames.{Holds}
use Rattle.wb_explain_readings.proofs.FrameLemmas.{holds_close, holds_leaf}
use Rattle.wb_explain_readings.proofs.NodeLemmas.{node_taken}
use Rattle.wb_explain_readings.proofs.tree.takes.Goals as goal

pub returns-in_ok-push-in-Leaf : goal.returns-in_ok-push-in-Leaf
returns-in_ok-push-in-Leaf c = λ read holds is.
    let g = c.args.grammar.now in
    subst (λ z. Holds g c.push.new.self (z ∷ read)) (sym c.in-Leaf.is)
    (subst (λ s. Holds g s (Leaf c.in-Leaf.terminal ∷ read)) (sym c.in_ok-push-in-Leaf.ensures.ok)
    (holds_leaf g c.in-Leaf.terminal c.args.stack.now read holds))

pub returns-in_ok-push-in-Close : goal.returns-in_ok-push-in-Close
returns-in_ok-push-in-Close c = λ read holds is.
    let g = c.args.grammar.now in
    subst (λ z. Holds g c.push-in-Close.new.self (z ∷ read)) (sym c.in-Close.is)
    (subst (λ s. Holds g s (Close ∷ read)) (sym c.in_ok-push-in-Close.ensures.ok) (holds_close g c.args.stack.now read holds))

pub returns-in-Open : goal.returns-in-Open
returns-in-Open c = λ read holds.
    let g = c.args.grammar.now in
    subst (λ z. IfOk c.takes_node.result (λ is. is ≡ true → Holds g c.takes_node.new.stack (z ∷ read))) (sym c.in-Open.is)
    (node_taken c.takes_node.result g c.in-Open.production c.args.stack.now c.takes_node.new.stack read holds c.takes_node.ensures.node
    c.takes_node.ensures.some)
