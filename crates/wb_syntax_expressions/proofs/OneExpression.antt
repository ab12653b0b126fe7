-- A list of nodes is at most one expression.
use Rattle.std.proofs.Common.{◌≡◌, ◌≤◌, ◌+◌, ℕ, pos, zero, suc, List, [], ◌∷◌, refl, sym, ap, ◌∙◌, arith, get_or}
use Rattle.wb_syntax_expressions.specs.declared.node.Node.{Node}
use Rattle.wb_syntax_expressions.specs.declared.node.Node.TheVariants as n
use Rattle.wb_syntax_expressions.specs.Expression.{Expression, Expressions, Int, Text, Truth, Label, Read, Lexeme, Top, Forward, Build}
use Rattle.wb_syntax_expressions.specs.Expression.{Call, If}
use Rattle.wb_syntax_expressions.specs.Expression.{none, more, size, size_of_all, nodes_of}
use Rattle.wb_syntax_expressions.specs.Places as p
use Rattle.wb_syntax_expressions.specs.Places.{HasNode, Stands, AllStand}
use Rattle.wb_syntax_expressions.proofs.PlaceLemmas.{whole_stands, size_some}

module _ {L A P O : Type 0} where
  -- the expressions at these places
  abbrev all_at : (ℕ → Expression L A P O) → List ℕ → Expressions L A P O
  all_at part [] = none
  all_at part (place ∷ places) = more (part place) (all_at part places)

  -- a node over the expressions at the places of its parts
  abbrev at_node : (ℕ → Expression L A P O) → Node L A P O → Expression L A P O
  at_node part (n.Int z) = Int z
  at_node part (n.Text s) = Text s
  at_node part (n.Bool b) = Truth b
  at_node part (n.Label l) = Label l
  at_node part (n.Read l a) = Read l a
  at_node part (n.Lexeme l) = Lexeme l
  at_node part (n.Top a) = Top a
  at_node part (n.Forward a) = Forward a
  at_node part (n.Build name places) = Build name (all_at part places)
  at_node part (n.Call name places) = Call name (all_at part places)
  at_node part (n.If c h f) = If (part c) (part h) (part f)

  -- the expression at a place, down to so many levels
  abbrev expression_at : List (Node L A P O) → ℕ → ℕ → Expression L A P O
  expression_at nodes zero place = Int (pos 0)
  expression_at nodes (suc levels) place = at_node (expression_at nodes levels) (get_or nodes place (n.Int (pos 0)))

  module _ (nodes : List (Node L A P O)) where
    -- a node that is at a place
    at_place : (m at : ℕ) (node : Node L A P O) → HasNode nodes at node → expression_at nodes (suc m) at ≡ at_node
        (expression_at nodes m) node
    at_place m at node h = ap (at_node (expression_at nodes m)) (h.is (n.Int (pos 0)))

    mutual
      at_stands : (m at : ℕ) (e : Expression L A P O) → Stands nodes at e → size e ≤ m → expression_at nodes m at ≡ e
      at_stands zero at e s l = let k = size_some e in absurd (omega (arith, k, l))
      at_stands (suc m) at e (p.int {z = z} h) l = at_place m at (n.Int z) h
      at_stands (suc m) at e (p.text {s = s} h) l = at_place m at (n.Text s) h
      at_stands (suc m) at e (p.truth {b = b} h) l = at_place m at (n.Bool b) h
      at_stands (suc m) at e (p.label {l = x} h) l = at_place m at (n.Label x) h
      at_stands (suc m) at e (p.read {l = x} {a = a} h) l = at_place m at (n.Read x a) h
      at_stands (suc m) at e (p.lexeme {l = x} h) l = at_place m at (n.Lexeme x) h
      at_stands (suc m) at e (p.top {a = a} h) l = at_place m at (n.Top a) h
      at_stands (suc m) at e (p.forward {a = a} h) l = at_place m at (n.Forward a) h
      at_stands (suc m) at e (p.build {name = name} {places = places} {es = es} h all) l =
          at_place m at (n.Build name places) h ∙ ap (λ x. Build name x) (all_stand m places es all (omega (arith, l)))
      at_stands (suc m) at e (p.call {name = name} {places = places} {es = es} h all) l =
          at_place m at (n.Call name places) h ∙ ap (λ x. Call name x) (all_stand m places es all (omega (arith, l)))
      at_stands (suc m) at e (p.if_then {c = c} {h = x} {f = f} {condition = q} {holds = y} {fails = z} h i j k) l =
          at_place m at (n.If c x f) h
          ∙ (ap (λ a. If a (expression_at nodes m x) (expression_at nodes m f)) (at_stands m c q i (omega (arith, l)))
          ∙ (ap (λ a. If q a (expression_at nodes m f)) (at_stands m x y j (omega (arith, l))) ∙ ap (λ a. If q y a)
          (at_stands m f z k (omega (arith, l)))))

      all_stand : (m : ℕ) (places : List ℕ) (es : Expressions L A P O) → AllStand nodes places es → size_of_all es ≤ m → all_at
          (expression_at nodes m) places ≡ es
      all_stand m places es p.nothing l = refl
      all_stand m places es (p.next {at = at} {places = ps} {e = e} {es = rest} s all) l =
          ap (λ x. more x (all_at (expression_at nodes m) ps)) (at_stands m at e s (omega (arith, l))) ∙ ap (λ x. more e x)
          (all_stand m ps rest all (omega (arith, l)))

  -- nodes are those of one expression
  pub one_expression : (nodes : List (Node L A P O)) (e f : Expression L A P O) → nodes ≡ nodes_of e → nodes ≡ nodes_of f → e ≡ f
  one_expression nodes e f h k =
      let a = whole_stands nodes e h in
      let b = whole_stands nodes f k in
      let m = size e + size f in
      sym (at_stands nodes m _ e a.0 (omega arith)) ∙ at_stands nodes m _ f b.0 (omega arith)
