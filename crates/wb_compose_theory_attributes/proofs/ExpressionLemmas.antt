-- Expressions in new numbers: whole ones stay whole, and read what they read.
use Rattle.std.proofs.Common.{◌≡◌, ◌∙◌, ◌+◌, ◌-◌, ◌++◌, ◌∷◌, [], ℕ, suc, List, Option, Some, None, map, option_map, refl, sym, ap}
use Rattle.std.proofs.Common.{arith}
use Rattle.std.proofs.lemmas.List.{map-append}
use Rattle.wb_flow_theory.specs.Rules.{Reads, node_read}
use Rattle.wb_flow_theory.specs.Vertices.{Vertex}
use Rattle.wb_syntax_expressions.specs.declared.node.Node.TheVariants as n
use Rattle.wb_syntax_expressions.specs.Expression as x
use Rattle.wb_syntax_expressions.specs.Expression.{size, size_of_all, places_from, nodes_from, all_nodes_from, IsWhole}
use Rattle.wb_syntax_resolved.specs.declared.equation.Place.TheVariants as place
use Rattle.wb_syntax_resolved.specs.Expression.{Expression, Expressions, Node}
use Rattle.wb_compose_theory_attributes.specs.Images.{ReadsAlike}
use Rattle.wb_compose_theory_attributes.specs.Numbers.{NumberMap, new_vertex}
use Rattle.wb_compose_theory_attributes.specs.Rows.{new_place, new_node}
use Rattle.wb_compose_theory_attributes.proofs.VertexLemmas.{contains_map, map_contains}

module _ (t : NumberMap) (p : ℕ) where
  abbrev mutual
    -- the expression in new numbers
    pub new_expression : Expression → Expression
    new_expression (x.Int z) = x.Int z
    new_expression (x.Text text) = x.Text text
    new_expression (x.Truth truth) = x.Truth truth
    new_expression (x.Label at) = x.Label (new_place t p at)
    new_expression (x.Read at attribute) = x.Read (new_place t p at) (t.attribute attribute)
    new_expression (x.Lexeme at) = x.Lexeme (new_place t p at)
    new_expression (x.Top attribute) = x.Top (t.attribute attribute)
    new_expression (x.Forward attribute) = x.Forward (t.attribute attribute)
    new_expression (x.Build number es) = x.Build (t.production number) (new_expressions es)
    new_expression (x.Call name es) = x.Call name (new_expressions es)
    new_expression (x.If condition holds fails) = x.If (new_expression condition) (new_expression holds) (new_expression fails)

    pub new_expressions : Expressions → Expressions
    new_expressions x.none = x.none
    new_expressions (x.more e es) = x.more (new_expression e) (new_expressions es)

  mutual
    size_new : (e : Expression) → size (new_expression e) ≡ size e
    size_new (x.Int z) = refl
    size_new (x.Text text) = refl
    size_new (x.Truth truth) = refl
    size_new (x.Label at) = refl
    size_new (x.Read at attribute) = refl
    size_new (x.Lexeme at) = refl
    size_new (x.Top attribute) = refl
    size_new (x.Forward attribute) = refl
    size_new (x.Build number es) = ap suc (size_all_new es)
    size_new (x.Call name es) = ap suc (size_all_new es)
    size_new (x.If c h f) = ap suc (omega (arith, size_new c, size_new h, size_new f))

    size_all_new : (es : Expressions) → size_of_all (new_expressions es) ≡ size_of_all es
    size_all_new x.none = refl
    size_all_new (x.more e es) = omega (arith, size_new e, size_all_new es)

  places_new : (at : ℕ) (es : Expressions) → places_from at (new_expressions es) ≡ places_from at es
  places_new at x.none = refl
  places_new at (x.more e es) =
      ap (λ z. (at + z - 1) ∷ places_from (at + z) (new_expressions es)) (size_new e)
      ∙ ap (λ z. (at + size e - 1) ∷ z) (places_new (at + size e) es)

  -- the nodes of a condition with its branches, by the sizes of the first two parts and of the third
  abbrev if_nodes : (at : ℕ) (c h f : Expression) (i j k : ℕ) → List Node
  if_nodes at c h f i j k =
      nodes_from at c ++ nodes_from (at + i) h ++ nodes_from (at + i + j) f
      ++ n.If (at + i - 1) (at + i + j - 1) (at + i + j + k - 1) ∷ []

  if_sizes : (at : ℕ) (c h f : Expression)
      → if_nodes at (new_expression c) (new_expression h) (new_expression f) (size c) (size h) (size f)
      ≡ if_nodes at (new_expression c) (new_expression h) (new_expression f) (size (new_expression c)) (size (new_expression h))
      (size (new_expression f))
  if_sizes at c h f =
      ap (λ z. if_nodes at (new_expression c) (new_expression h) (new_expression f) z (size h) (size f)) (sym (size_new c))
      ∙ (ap (λ z. if_nodes at (new_expression c) (new_expression h) (new_expression f) (size (new_expression c)) z (size f)) (sym
      (size_new h))
      ∙ ap (λ z. if_nodes at (new_expression c) (new_expression h) (new_expression f) (size (new_expression c)) (size (new_expression h)) z)
      (sym (size_new f)))

  if_new : (at : ℕ) (c h f : Expression) → map (new_node t p) (nodes_from at c) ≡ nodes_from at (new_expression c)
      → map (new_node t p) (nodes_from (at + size c) h) ≡ nodes_from (at + size c) (new_expression h)
      → map (new_node t p) (nodes_from (at + size c + size h) f) ≡ nodes_from (at + size c + size h) (new_expression f)
      → map (new_node t p) (nodes_from at (x.If c h f)) ≡ nodes_from at (x.If (new_expression c) (new_expression h) (new_expression f))
  if_new at c h f first second third =
      let g = map (new_node t p) in
      let one = nodes_from at c in
      let two = nodes_from (at + size c) h in
      let three = nodes_from (at + size c + size h) f in
      let whole = n.If (at + size c - 1) (at + size c + size h - 1) (at + size c + size h + size f - 1) ∷ [] in
      let parts : g (one ++ two ++ three ++ whole) ≡ g one ++ g two ++ g three ++ whole =
      map-append (new_node t p) (one ++ two ++ three) whole
      ∙ (ap (λ z. z ++ whole) (map-append (new_node t p) (one ++ two) three)
      ∙ ap (λ z. z ++ g three ++ whole) (map-append (new_node t p) one two)) in
      let same : g one ++ g two ++ g three ++ whole
      ≡ nodes_from at (new_expression c) ++ nodes_from (at + size c) (new_expression h)
      ++ nodes_from (at + size c + size h) (new_expression f) ++ whole =
      ap (λ z. z ++ g two ++ g three ++ whole) first
      ∙ (ap (λ z. nodes_from at (new_expression c) ++ z ++ g three ++ whole) second
      ∙ ap (λ z. nodes_from at (new_expression c) ++ nodes_from (at + size c) (new_expression h) ++ z ++ whole) third) in
      parts ∙ (same ∙ if_sizes at c h f)

  mutual
    nodes_new : (at : ℕ) (e : Expression) → map (new_node t p) (nodes_from at e) ≡ nodes_from at (new_expression e)
    nodes_new at (x.Int z) = refl
    nodes_new at (x.Text text) = refl
    nodes_new at (x.Truth truth) = refl
    nodes_new at (x.Label l) = refl
    nodes_new at (x.Read l attribute) = refl
    nodes_new at (x.Lexeme l) = refl
    nodes_new at (x.Top attribute) = refl
    nodes_new at (x.Forward attribute) = refl
    nodes_new at (x.Build number es) =
        map-append (new_node t p) (all_nodes_from at es) (n.Build number (places_from at es) ∷ [])
        ∙ (ap (λ z. z ++ n.Build (t.production number) (places_from at es) ∷ []) (all_nodes_new at es)
        ∙ ap (λ z. all_nodes_from at (new_expressions es) ++ n.Build (t.production number) z ∷ []) (sym (places_new at es)))
    nodes_new at (x.Call name es) =
        map-append (new_node t p) (all_nodes_from at es) (n.Call name (places_from at es) ∷ [])
        ∙ (ap (λ z. z ++ n.Call name (places_from at es) ∷ []) (all_nodes_new at es)
        ∙ ap (λ z. all_nodes_from at (new_expressions es) ++ n.Call name z ∷ []) (sym (places_new at es)))
    nodes_new at (x.If c h f) =
        if_new at c h f (nodes_new at c) (nodes_new (at + size c) h) (nodes_new (at + size c + size h) f)

    all_nodes_new : (at : ℕ) (es : Expressions) → map (new_node t p) (all_nodes_from at es) ≡ all_nodes_from at (new_expressions es)
    all_nodes_new at x.none = refl
    all_nodes_new at (x.more e es) =
        map-append (new_node t p) (nodes_from at e) (all_nodes_from (at + size e) es)
        ∙ (ap (λ z. z ++ map (new_node t p) (all_nodes_from (at + size e) es)) (nodes_new at e)
        ∙ (ap (λ z. nodes_from at (new_expression e) ++ z) (all_nodes_new (at + size e) es)
        ∙ ap (λ z. nodes_from at (new_expression e) ++ all_nodes_from (at + z) (new_expressions es)) (sym (size_new e))))

  pub nodes_of_new : (e : Expression) → map (new_node t p) (x.nodes_of e) ≡ x.nodes_of (new_expression e)
  nodes_of_new e = nodes_new 0 e

  pub whole_new : (nodes : List Node) → IsWhole nodes → IsWhole (map (new_node t p) nodes)
  whole_new nodes (e, is) = (new_expression e, ap (map (new_node t p)) is ∙ nodes_of_new e)

  -- what a node reads in new numbers
  node_read_new : (node : Node) → node_read (new_node t p node) ≡ option_map (new_vertex t p) (node_read node)
  node_read_new (n.Int z) = refl
  node_read_new (n.Text text) = refl
  node_read_new (n.Bool truth) = refl
  node_read_new (n.Label (place.Child k)) = refl
  node_read_new (n.Label (place.Local y)) = refl
  node_read_new (n.Read (place.Child k) attribute) = refl
  node_read_new (n.Read (place.Local y) attribute) = refl
  node_read_new (n.Lexeme at) = refl
  node_read_new (n.Top attribute) = refl
  node_read_new (n.Forward attribute) = refl
  node_read_new (n.Build number children) = refl
  node_read_new (n.Call operation arguments) = refl
  node_read_new (n.If condition holds fails) = refl

  mapped_from : (o : Option Vertex) (y : Vertex) → option_map (new_vertex t p) o ≡ Some y
      → (u : Vertex) × (o ≡ Some u) × (y ≡ new_vertex t p u)
  mapped_from None y is = absurd (cc is)
  mapped_from (Some u) y is = let equal : new_vertex t p u ≡ y = cc is in (u, refl, sym equal)

  pub reads_alike : (nodes : List Node) → ReadsAlike t p nodes (map (new_node t p) nodes)
  reads_alike nodes = record { to = to; from = from } where
    to : (u : Vertex) → Reads nodes u → Reads (map (new_node t p) nodes) (new_vertex t p u)
    to u (node, has, reads) =
        (new_node t p node, map_contains (new_node t p) nodes node has, node_read_new node ∙ ap (option_map (new_vertex t p)) reads)

    from : (y : Vertex) → Reads (map (new_node t p) nodes) y → (u : Vertex) × Reads nodes u × (y ≡ new_vertex t p u)
    from y (other, has, reads) =
        let (node, is, there) = contains_map (new_node t p) nodes other has in
        let read : option_map (new_vertex t p) (node_read node) ≡ Some y = sym (node_read_new node) ∙ (sym (ap node_read is) ∙ reads) in
        let (u, known, y_is) = mapped_from (node_read node) y read in
        (u, (node, there, known), y_is)
