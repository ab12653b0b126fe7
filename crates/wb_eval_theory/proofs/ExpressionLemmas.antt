-- Which nodes are in an expression, and what it reads.
use Rattle.std.proofs.Common.{◌≡◌, ◌+◌, ◌++◌, ◌∷◌, [], ◌⊎◌, inl, inr, ℕ, Some, sym, subst, Contains}
use Rattle.wb_flow_theory.specs.Rules.{node_read, Reads}
use Rattle.wb_flow_theory.specs.Vertices.{Vertex}
use Rattle.wb_syntax_expressions.specs.declared.node.Node.TheVariants as n
use Rattle.wb_syntax_expressions.specs.Expression as x
use Rattle.wb_syntax_expressions.specs.Expression.{size, nodes_from, all_nodes_from, nodes_of}
use Rattle.wb_lemmas.proofs.Members.{contains_first, append_contains_left, append_contains_right}
use Rattle.wb_syntax_resolved.specs.Expression.{Expression, Expressions, Node}

-- the node has no parts, and is in the expression
abbrev mutual
  pub IsIn : Expression → Node → Type 0
  IsIn (x.Int z) node = ⊥
  IsIn (x.Text t) node = ⊥
  IsIn (x.Truth b) node = ⊥
  IsIn (x.Label at) node = node ≡ n.Label at
  IsIn (x.Read at y) node = node ≡ n.Read at y
  IsIn (x.Lexeme at) node = node ≡ n.Lexeme at
  IsIn (x.Top y) node = node ≡ n.Top y
  IsIn (x.Forward y) node = node ≡ n.Forward y
  IsIn (x.Build number es) node = IsInOne es node
  IsIn (x.Call name es) node = IsInOne es node
  IsIn (x.If condition holds fails) node = IsIn condition node ⊎ (IsIn holds node ⊎ IsIn fails node)

  pub IsInOne : Expressions → Node → Type 0
  IsInOne x.none node = ⊥
  IsInOne (x.more e es) node = IsIn e node ⊎ IsInOne es node

one_of : (node other : Node) → node ≡ other → Contains (other ∷ []) node
one_of node other is = subst (λ (m : Node). Contains (other ∷ []) m) (sym is) (contains_first other [])

mutual
  -- it is among the nodes
  pub listed : (at : ℕ) (e : Expression) (node : Node) → IsIn e node → Contains (nodes_from at e) node
  listed at (x.Int z) node is = absurd is
  listed at (x.Text t) node is = absurd is
  listed at (x.Truth b) node is = absurd is
  listed at (x.Label place) node is = one_of node (n.Label place) is
  listed at (x.Read place y) node is = one_of node (n.Read place y) is
  listed at (x.Lexeme place) node is = one_of node (n.Lexeme place) is
  listed at (x.Top y) node is = one_of node (n.Top y) is
  listed at (x.Forward y) node is = one_of node (n.Forward y) is
  listed at (x.Build number es) node is =
      append_contains_left (all_nodes_from at es) (n.Build number (x.places_from at es) ∷ []) node (all_listed at es node is)
  listed at (x.Call name es) node is =
      append_contains_left (all_nodes_from at es) (n.Call name (x.places_from at es) ∷ []) node (all_listed at es node is)
  listed at (x.If c h f) node is =
      let cs = nodes_from at c in
      let hs = nodes_from (at + size c) h in
      let fs = nodes_from (at + size c + size h) f in
      append_contains_left (cs ++ hs ++ fs) _ node (elim is [
        | inl y ↦ append_contains_left (cs ++ hs) fs node (append_contains_left cs hs node (listed at c node y))
        | inr z ↦ elim z [
          | inl y ↦ append_contains_left (cs ++ hs) fs node (append_contains_right cs hs node (listed (at + size c) h node y))
          | inr y ↦ append_contains_right (cs ++ hs) fs node (listed (at + size c + size h) f node y)
        ]
      ])

  all_listed : (at : ℕ) (es : Expressions) (node : Node) → IsInOne es node → Contains (all_nodes_from at es) node
  all_listed at x.none node is = absurd is
  all_listed at (x.more e es) node is = elim is [
    | inl y ↦ append_contains_left (nodes_from at e) (all_nodes_from (at + size e) es) node (listed at e node y)
    | inr y ↦ append_contains_right (nodes_from at e) (all_nodes_from (at + size e) es) node (all_listed (at + size e) es node y)
  ]

-- the expression reads the vertex
abbrev pub ReadsIn : Expression → Vertex → Type 0
ReadsIn e v = (node : Node) × IsIn e node × (node_read node ≡ Some v)

-- so do its nodes
pub reads_of : (e : Expression) (v : Vertex) → ReadsIn e v → Reads (nodes_of e) v
reads_of e v r = (r.0, listed 0 e r.0 r.1, r.2)
