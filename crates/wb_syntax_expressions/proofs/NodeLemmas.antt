-- The node of a whole says what the expression is.
use Rattle.std.proofs.Common.{◌≡◌, ◌<◌, ℕ, List, refl, sym, subst, ◌∙◌, length, get_or}
use Rattle.std.proofs.lemmas.List.{get_or_default}
use Rattle.wb_syntax_expressions.specs.declared.node.Node.{Node}
use Rattle.wb_syntax_expressions.specs.declared.node.Node.TheVariants as n
use Rattle.wb_syntax_expressions.specs.Expression.{Expression, Expressions, Int, Text, Truth, Label, Read, Lexeme, Top, Forward, Build}
use Rattle.wb_syntax_expressions.specs.Expression.{Call, If}
use Rattle.wb_syntax_expressions.specs.Places.{HasNode, Stands, AllStand}

module _ {L A P O : Type 0} (nodes : List (Node L A P O)) where
  -- an expression by the node of its whole
  abbrev pub IsOfNode : Node L A P O → Expression L A P O → Type 0
  IsOfNode (n.Int z) e = e ≡ Int z
  IsOfNode (n.Text x) e = e ≡ Text x
  IsOfNode (n.Bool b) e = e ≡ Truth b
  IsOfNode (n.Label l) e = e ≡ Label l
  IsOfNode (n.Read l a) e = e ≡ Read l a
  IsOfNode (n.Lexeme l) e = e ≡ Lexeme l
  IsOfNode (n.Top a) e = e ≡ Top a
  IsOfNode (n.Forward a) e = e ≡ Forward a
  IsOfNode (n.Build name places) e = (es : Expressions L A P O) × AllStand nodes places es × (e ≡ Build name es)
  IsOfNode (n.Call name places) e = (es : Expressions L A P O) × AllStand nodes places es × (e ≡ Call name es)
  IsOfNode (n.If c h f) e =
      (x : Expression L A P O) × (y : Expression L A P O) × (z : Expression L A P O) × Stands nodes c x × Stands nodes h y
      × Stands nodes f z × (e ≡ If x y z)

  -- one node is at a place
  one_node : (at : ℕ) (a b : Node L A P O) → HasNode nodes at a → HasNode nodes at b → a ≡ b
  one_node at a b h k = sym (h.is a) ∙ k.is a

  -- the node of the whole says what the expression is
  pub of_node : (at : ℕ) (e : Expression L A P O) (node : Node L A P O) → Stands nodes at e → HasNode nodes at node → IsOfNode node e
  of_node at e node (Stands.int {z = z} h) k = subst (λ (m : Node L A P O). IsOfNode m e) (one_node at (n.Int z) node h k) refl
  of_node at e node (Stands.text {s = z} h) k = subst (λ (m : Node L A P O). IsOfNode m e) (one_node at (n.Text z) node h k) refl
  of_node at e node (Stands.truth {b = z} h) k = subst (λ (m : Node L A P O). IsOfNode m e) (one_node at (n.Bool z) node h k) refl
  of_node at e node (Stands.label {l = z} h) k = subst (λ (m : Node L A P O). IsOfNode m e) (one_node at (n.Label z) node h k) refl
  of_node at e node (Stands.read {l = z} {a = a} h) k = subst (λ (m : Node L A P O). IsOfNode m e) (one_node at (n.Read z a) node h k) refl
  of_node at e node (Stands.lexeme {l = z} h) k = subst (λ (m : Node L A P O). IsOfNode m e) (one_node at (n.Lexeme z) node h k) refl
  of_node at e node (Stands.top {a = z} h) k = subst (λ (m : Node L A P O). IsOfNode m e) (one_node at (n.Top z) node h k) refl
  of_node at e node (Stands.forward {a = z} h) k = subst (λ (m : Node L A P O). IsOfNode m e) (one_node at (n.Forward z) node h k) refl
  of_node at e node (Stands.build {name = name} {places = places} {es = es} h all) k =
      subst (λ (m : Node L A P O). IsOfNode m e) (one_node at (n.Build name places) node h k) (es, all, refl)
  of_node at e node (Stands.call {name = name} {places = places} {es = es} h all) k =
      subst (λ (m : Node L A P O). IsOfNode m e) (one_node at (n.Call name places) node h k) (es, all, refl)
  of_node at e node (Stands.if_then {c = c} {h = g} {f = f} {condition = x} {holds = y} {fails = z} h i j l) k =
      subst (λ (m : Node L A P O). IsOfNode m e) (one_node at (n.If c g f) node h k) (x, y, z, i, j, l, refl)

  -- a node by its place
  pub has_node : (at : ℕ) (node : Node L A P O) → at < length nodes → node ≡ get_or nodes at node → HasNode nodes at node
  has_node at node h q = record { within = h; is = λ default. get_or_default nodes at default node h ∙ sym q }
