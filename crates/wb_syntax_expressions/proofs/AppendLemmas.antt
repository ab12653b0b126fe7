-- Nodes that are added after others.
use Rattle.std.proofs.Common.{◌≡◌, ◌+◌, ◌-◌, ℕ, List, [], ◌∷◌, ◌++◌, ap, ◌∙◌, length, arith}
use Rattle.std.proofs.lemmas.List.{append_assoc, length-append}
use Rattle.wb_syntax_expressions.specs.declared.node.Node.{Node}
use Rattle.wb_syntax_expressions.specs.declared.node.Node.TheVariants as n
use Rattle.wb_syntax_expressions.specs.Expression.{Expression, Expressions, If, more, size, size_of_all, nodes_from, all_nodes_from}
use Rattle.wb_syntax_expressions.specs.Expression.{places_from}
use Rattle.wb_syntax_expressions.proofs.Nodes.{nodes_len, all_nodes_len}

module _ {L A P O : Type 0} where
  -- the nodes of an expression after a list
  pub behind_len : (list : List (Node L A P O)) (e : Expression L A P O) → length
      (list ++ nodes_from (length list) e) ≡ length list + size e
  behind_len list e = let l = length-append list (nodes_from (length list) e) in let i = nodes_len (length list) e in omega (arith, l, i)

  pub all_behind_len : (list : List (Node L A P O)) (es : Expressions L A P O) → length
      (list ++ all_nodes_from (length list) es) ≡ length list + size_of_all es
  all_behind_len list es =
      let l = length-append list (all_nodes_from (length list) es) in let i = all_nodes_len (length list) es in omega (arith, l, i)

  -- an argument and then the others
  pub more_nodes : (list : List (Node L A P O)) (e : Expression L A P O) (es : Expressions L A P O) →
      (list ++ nodes_from (length list) e) ++ all_nodes_from (length (list ++ nodes_from (length list) e)) es ≡ list ++ all_nodes_from
      (length list) (more e es)
  more_nodes list e es = append_assoc list (nodes_from (length list) e) _ ∙ ap
      (λ k. list ++ (nodes_from (length list) e ++ all_nodes_from k es)) (behind_len list e)

  pub more_places : (list : List (Node L A P O)) (front : List ℕ) (e : Expression L A P O) (es : Expressions L A P O) →
      (front ++ (length list + size e - 1) ∷ []) ++ places_from (length (list ++ nodes_from (length list) e)) es ≡ front ++ places_from
      (length list) (more e es)
  more_places list front e es = append_assoc front ((length list + size e - 1) ∷ []) _ ∙ ap
      (λ k. front ++ ((length list + size e - 1) ∷ places_from k es)) (behind_len list e)

  -- a condition, one branch and the other, with the node over them
  if_shape : (list x y z : List (Node L A P O)) (w : Node L A P O) → ((list ++ x) ++ y) ++ z ++ w ∷ [] ≡ list ++ (x ++ y ++ z ++ w ∷ [])
  if_shape list x y z w =
      ap (λ l. l ++ z ++ w ∷ []) (append_assoc list x y) ∙ (ap (λ l. l ++ w ∷ []) (append_assoc list (x ++ y) z) ∙ append_assoc list
      (x ++ y ++ z) (w ∷ []))

  pub if_nodes : (list : List (Node L A P O)) (c t e : Expression L A P O) → let one = list ++ nodes_from
      (length list) c in let two = one ++ nodes_from (length one) t in (two ++ nodes_from (length two) e) ++ n.If
      (length list + size c - 1) (length one + size t - 1) (length two + size e - 1) ∷ [] ≡ list ++ nodes_from (length list) (If c t e)
  if_nodes list c t e =
      let one = list ++ nodes_from (length list) c in
      let two = one ++ nodes_from (length one) t in
      let i = behind_len list c in
      let j : length two ≡ length list + size c + size t = behind_len one t ∙ ap (λ k. k + size t) i in
      ap (λ k. (two ++ nodes_from k e) ++ n.If (length list + size c - 1) (length one + size t - 1) (k + size e - 1) ∷ []) j
      ∙ (ap (λ k. ((one ++ nodes_from k t) ++ nodes_from (length list + size c + size t) e) ++ n.If (length list + size c - 1)
      (k + size t - 1) (length list + size c + size t + size e - 1) ∷ []) i
      ∙ if_shape list (nodes_from (length list) c) (nodes_from (length list + size c) t) (nodes_from (length list + size c + size t) e)
      (n.If (length list + size c - 1) (length list + size c + size t - 1) (length list + size c + size t + size e - 1)))

  pub if_root : (list : List (Node L A P O)) (c t e : Expression L A P O) → let one = list ++ nodes_from
      (length list) c in let two =
      one ++ nodes_from (length one) t in length (two ++ nodes_from (length two) e) ≡ length list + size (If c t e) - 1
  if_root list c t e =
      let one = list ++ nodes_from (length list) c in
      let two = one ++ nodes_from (length one) t in
      let i = behind_len list c in
      let j = behind_len one t in
      let k = behind_len two e in
      omega (arith, i, j, k)
