-- How many nodes expressions have, and where they come after others.
use Rattle.std.proofs.Common.{◌≡◌, ◌+◌, ◌-◌, ℕ, [], ◌∷◌, ◌++◌, refl, length, arith}
use Rattle.std.proofs.lemmas.List.{length-append}
use Rattle.wb_syntax_expressions.specs.declared.node.Node.TheVariants as n
use Rattle.wb_syntax_expressions.specs.Expression.{Expression, Expressions, Int, Text, Truth, Label, Read, Lexeme, Top, Forward, Build}
use Rattle.wb_syntax_expressions.specs.Expression.{Call, If}
use Rattle.wb_syntax_expressions.specs.Expression.{none, more, size, size_of_all, nodes_from, all_nodes_from, places_from}

module _ {L A P O : Type 0} where
  mutual
    pub nodes_len : (at : ℕ) (e : Expression L A P O) → length (nodes_from at e) ≡ size e
    nodes_len at (Int z) = refl
    nodes_len at (Text s) = refl
    nodes_len at (Truth b) = refl
    nodes_len at (Label l) = refl
    nodes_len at (Read l a) = refl
    nodes_len at (Lexeme l) = refl
    nodes_len at (Top a) = refl
    nodes_len at (Forward a) = refl
    nodes_len at (Build name es) = let l = length-append (all_nodes_from at es)
        (n.Build name (places_from at es) ∷ []) in let k = all_nodes_len at es in omega (arith, l, k)
    nodes_len at (Call name es) = let l = length-append (all_nodes_from at es)
        (n.Call name (places_from at es) ∷ []) in let k = all_nodes_len at es in omega (arith, l, k)
    nodes_len at (If c t e) =
        let x = nodes_from at c in
        let y = nodes_from (at + size c) t in
        let z = nodes_from (at + size c + size t) e in
        let l = length-append (x ++ y ++ z) (n.If (at + size c - 1) (at + size c + size t - 1) (at + size c + size t + size e - 1) ∷ []) in
        let m = length-append (x ++ y) z in
        let o = length-append x y in
        let i = nodes_len at c in
        let j = nodes_len (at + size c) t in
        let k = nodes_len (at + size c + size t) e in
        omega (arith, l, m, o, i, j, k)

    pub all_nodes_len : (at : ℕ) (es : Expressions L A P O) → length (all_nodes_from at es) ≡ size_of_all es
    all_nodes_len at none = refl
    all_nodes_len at (more e es) = let l = length-append (nodes_from at e)
        (all_nodes_from (at + size e) es) in let i = nodes_len at e in let j = all_nodes_len (at + size e) es in omega (arith, l, i, j)
