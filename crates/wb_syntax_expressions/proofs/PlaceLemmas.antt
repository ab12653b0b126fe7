-- The expression of a list of nodes is in it.
use Rattle.std.proofs.Common.{◌≡◌, ◌+◌, ◌-◌, ◌<◌, ℕ, suc, ◌++◌, ◌∷◌, [], List, ap, ◌∙◌, refl, sym, subst, arith, append_assoc, length}
use Rattle.std.proofs.Common.{length-append}
use Rattle.std.specs.Prelude.{slice_index_or}
use Rattle.std.proofs.lemmas.List.{get_or_at, append-nil}
use Rattle.wb_syntax_expressions.specs.declared.node.Node.{Node}
use Rattle.wb_syntax_expressions.specs.declared.node.Node.TheVariants as n
use Rattle.wb_syntax_expressions.specs.Expression.{Expression, Expressions, Int, Text, Truth, Label, Read, Lexeme, Top, Forward, Build}
use Rattle.wb_syntax_expressions.specs.Expression.{Call, If}
use Rattle.wb_syntax_expressions.specs.Expression.{none, more, size, size_of_all, nodes_from, all_nodes_from, places_from, nodes_of}
use Rattle.wb_syntax_expressions.proofs.Nodes.{nodes_len, all_nodes_len}
use Rattle.wb_syntax_expressions.specs.Places.{HasNode, Stands, AllStand}

module _ {L A P O : Type 0} (nodes : List (Node L A P O)) where
  -- a node after others
  node_at : (front back : List (Node L A P O)) (node : Node L A P O) (at : ℕ) → nodes ≡ front ++ node ∷ back → at ≡ length front
      → HasNode nodes at node
  node_at front back node at q l = record {
    within = omega (arith, ap length q, length-append front (node ∷ back));
    is = λ default. ap (λ (x : List (Node L A P O)). slice_index_or x at default) q ∙ get_or_at front node back default at (sym l);
  }

  -- a node that follows others and is the last of an expression
  last_at : (front inner back : List (Node L A P O)) (node : Node L A P O) (at : ℕ) → nodes ≡ front ++ ((inner ++ node ∷ []) ++ back)
      → at ≡ length front + length inner → HasNode nodes at node
  last_at front inner back node at q l =
      node_at (front ++ inner) back node at (q ∙ (ap (λ (x : List (Node L A P O)). front ++ x) (append_assoc inner (node ∷ []) back) ∙ sym
      (append_assoc front inner (node ∷ back))))
      (omega (arith, l, length-append front inner))

  mutual
    stands : (front back : List (Node L A P O)) (at : ℕ) (e : Expression L A P O) → nodes ≡ front ++ (nodes_from at e ++ back)
        → at ≡ length front → Stands nodes (at + size e - 1) e
    stands front back at (Int z) q l = Stands.int (node_at front back (n.Int z) (at + 1 - 1) q (omega (arith, l)))
    stands front back at (Text z) q l = Stands.text (node_at front back (n.Text z) (at + 1 - 1) q (omega (arith, l)))
    stands front back at (Truth z) q l = Stands.truth (node_at front back (n.Bool z) (at + 1 - 1) q (omega (arith, l)))
    stands front back at (Label z) q l = Stands.label (node_at front back (n.Label z) (at + 1 - 1) q (omega (arith, l)))
    stands front back at (Read z a) q l = Stands.read (node_at front back (n.Read z a) (at + 1 - 1) q (omega (arith, l)))
    stands front back at (Lexeme z) q l = Stands.lexeme (node_at front back (n.Lexeme z) (at + 1 - 1) q (omega (arith, l)))
    stands front back at (Top z) q l = Stands.top (node_at front back (n.Top z) (at + 1 - 1) q (omega (arith, l)))
    stands front back at (Forward z) q l = Stands.forward (node_at front back (n.Forward z) (at + 1 - 1) q (omega (arith, l)))
    stands front back at (Build name es) q l =
        let whole = n.Build name (places_from at es) in
        let inner = all_nodes_from at es in
        Stands.build (last_at front inner back whole (at + suc (size_of_all es) - 1) q (omega (arith, l, all_nodes_len at es)))
        (all_stand front (whole ∷ back) at es (q ∙ ap (λ (x : List (Node L A P O)). front ++ x) (append_assoc inner (whole ∷ []) back)) l)
    stands front back at (Call name es) q l =
        let whole = n.Call name (places_from at es) in
        let inner = all_nodes_from at es in
        Stands.call (last_at front inner back whole (at + suc (size_of_all es) - 1) q (omega (arith, l, all_nodes_len at es)))
        (all_stand front (whole ∷ back) at es (q ∙ ap (λ (x : List (Node L A P O)). front ++ x) (append_assoc inner (whole ∷ []) back)) l)
    stands front back at (If c h f) q l =
        let x = nodes_from at c in
        let y = nodes_from (at + size c) h in
        let z = nodes_from (at + size c + size h) f in
        let whole = n.If (at + size c - 1) (at + size c + size h - 1) (at + size c + size h + size f - 1) in
        let shape : (x ++ y ++ z ++ whole ∷ []) ++ back ≡ x ++ (y ++ (z ++ whole ∷ back)) = simp append_assoc in
        let qx : nodes ≡ front ++ (x ++ (y ++ (z ++ whole ∷ back))) = q ∙ ap (λ (k : List (Node L A P O)). front ++ k) shape in
        let qy : nodes ≡ (front ++ x) ++ (y ++ (z ++ whole ∷ back)) = qx ∙ sym (append_assoc front x (y ++ (z ++ whole ∷ back))) in
        let qz : nodes ≡ ((front ++ x) ++ y) ++ (z ++ whole ∷ back) = qy ∙ sym (append_assoc (front ++ x) y (z ++ whole ∷ back)) in
        let qw : nodes ≡ (((front ++ x) ++ y) ++ z) ++ whole ∷ back = qz ∙ sym (append_assoc ((front ++ x) ++ y) z (whole ∷ back)) in
        let lx : length (front ++ x) ≡ at + size c = omega (arith, l, length-append front x, nodes_len at c) in
        let ly : length ((front ++ x) ++ y) ≡ at + size c + size h = omega
        (arith, lx, length-append (front ++ x) y, nodes_len (at + size c) h) in
        let lz : length (((front ++ x) ++ y) ++ z) ≡ at + size c + size h + size f
        = omega (arith, ly, length-append ((front ++ x) ++ y) z, nodes_len (at + size c + size h) f) in
        Stands.if_then (node_at (((front ++ x) ++ y) ++ z) back whole (at + suc (size c + size h + size f) - 1) qw (omega (arith, lz)))
        (stands front (y ++ (z ++ whole ∷ back)) at c qx l)
        (stands (front ++ x) (z ++ whole ∷ back) (at + size c) h qy (sym lx))
        (stands ((front ++ x) ++ y) (whole ∷ back) (at + size c + size h) f qz (sym ly))

    all_stand : (front back : List (Node L A P O)) (at : ℕ) (es : Expressions L A P O) → nodes ≡ front ++ (all_nodes_from at es ++ back)
        → at ≡ length front
        → AllStand nodes (places_from at es) es
    all_stand front back at none q l = AllStand.nothing
    all_stand front back at (more e es) q l =
        let x = nodes_from at e in
        let y = all_nodes_from (at + size e) es in
        let qx : nodes ≡ front ++ (x ++ (y ++ back)) = q ∙ ap (λ (k : List (Node L A P O)). front ++ k) (append_assoc x y back) in
        let lx : length (front ++ x) ≡ at + size e = omega (arith, l, length-append front x, nodes_len at e) in
        AllStand.next (stands front (y ++ back) at e qx l)
        (all_stand (front ++ x) back (at + size e) es (qx ∙ sym (append_assoc front x (y ++ back))) (sym lx))

-- an expression has a node
pub size_some : {L A P O : Type 0} (e : Expression L A P O) → 0 < size e
size_some (Int z) = omega arith
size_some (Text z) = omega arith
size_some (Truth z) = omega arith
size_some (Label z) = omega arith
size_some (Read z a) = omega arith
size_some (Lexeme z) = omega arith
size_some (Top z) = omega arith
size_some (Forward z) = omega arith
size_some (Build name es) = omega arith
size_some (Call name es) = omega arith
size_some (If c h f) = omega arith

-- the last node is the whole of the expression, which has all the nodes
pub whole_stands : {L A P O : Type 0} (nodes : List (Node L A P O)) (e : Expression L A P O) → nodes ≡ nodes_of e → Stands nodes
    (length nodes - 1) e × (size e ≡ length nodes)
whole_stands nodes e q =
    let count : size e ≡ length nodes = omega (arith, ap length q, nodes_len 0 e) in
    let s = stands nodes [] [] 0 e (q ∙ sym (append-nil (nodes_of e))) refl in
    (subst (λ (k : ℕ). Stands nodes k e) (omega (arith, count)) s, count)

-- where an expression is there is a node
pub within : {L A P O : Type 0} (nodes : List (Node L A P O)) (at : ℕ) (e : Expression L A P O) → Stands nodes at e → at < length nodes
within nodes at e (Stands.int h) = h.within
within nodes at e (Stands.text h) = h.within
within nodes at e (Stands.truth h) = h.within
within nodes at e (Stands.label h) = h.within
within nodes at e (Stands.read h) = h.within
within nodes at e (Stands.lexeme h) = h.within
within nodes at e (Stands.top h) = h.within
within nodes at e (Stands.forward h) = h.within
within nodes at e (Stands.build h all) = h.within
within nodes at e (Stands.call h all) = h.within
within nodes at e (Stands.if_then h i j k) = h.within
