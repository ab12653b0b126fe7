-- The parts of each node of a whole expression are before it.
use Rattle.std.proofs.Common.{◌≡◌, ◌<◌, ◌+◌, ◌-◌, ℕ, zero, suc, List, [], ◌∷◌, ◌++◌, sym, subst, arith, get_or, length}
use Rattle.std.proofs.Common.{length-append, All}
use Rattle.std.proofs.lemmas.List.Elements.{All-nil, All-cons, All-weaker}
use Rattle.wb_syntax_expressions.specs.declared.node.Node.{Node}
use Rattle.wb_syntax_expressions.specs.declared.node.Node.TheVariants as n
use Rattle.wb_syntax_expressions.specs.Expression.{Expression, Expressions, Int, Text, Truth, Label, Read, Lexeme, Top, Forward, Build}
use Rattle.wb_syntax_expressions.specs.Expression.{Call, If}
use Rattle.wb_syntax_expressions.specs.Expression.{none, more, size, size_of_all, nodes_from, all_nodes_from, places_from}
use Rattle.wb_syntax_expressions.specs.Expression.{IsWhole}
use Rattle.wb_syntax_expressions.specs.Places.{HasPartsBefore, parts_of}
use Rattle.wb_syntax_expressions.proofs.Nodes.{nodes_len, all_nodes_len}
use Rattle.wb_syntax_expressions.proofs.PlaceLemmas.{size_some}

module _ {L A P O : Type 0} where
  -- the parts of each of these nodes are before it, where the first of them is at this place
  abbrev AreBefore : ℕ → List (Node L A P O) → Type 0
  AreBefore at [] = Unit {0}
  AreBefore at (node ∷ rest) = All (λ part. part < at) (parts_of node) × AreBefore (suc at) rest

  before_append : (at : ℕ) (xs ys : List (Node L A P O)) (next : ℕ) → next ≡ at + length xs → AreBefore at xs → AreBefore next ys
      → AreBefore at (xs ++ ys)
  before_append at [] ys next e h k = subst (λ m. AreBefore m ys) (omega (arith, e)) k
  before_append at (x ∷ xs) ys next e h k = (h.0, before_append (suc at) xs ys next (omega (arith, e)) h.1 k)

  before_one : (at : ℕ) (node : Node L A P O) → All (λ part. part < at) (parts_of node) → AreBefore at (node ∷ [])
  before_one at node h = (h, tt)

  -- a node that follows others has its parts before it
  before_last : (at : ℕ) (xs : List (Node L A P O)) (node : Node L A P O) (count : ℕ) → length xs ≡ count → AreBefore at xs
      → All (λ part. part < at + count) (parts_of node) → AreBefore at (xs ++ node ∷ [])
  before_last at xs node count e h k = before_append at xs (node ∷ []) (at + count) (omega (arith, e)) h (before_one (at + count) node k)

  -- the wholes of expressions are at places before what follows them
  places_before : (at : ℕ) (es : Expressions L A P O) → All (λ place. place < at + size_of_all es) (places_from at es)
  places_before at none = All-nil (λ place. place < at + 0)
  places_before at (more e es) =
      let some = size_some e in
      let rest = places_before (at + size e) es in
      All-cons (λ place. place < at + (size e + size_of_all es)) (at + size e - 1) (places_from (at + size e) es) (omega (arith, some))
      (All-weaker (λ place. place < at + size e + size_of_all es) (λ place. place < at + (size e + size_of_all es))
      (λ x h. omega (arith, h)) (places_from (at + size e) es) rest)

  mutual
    nodes_before : (at : ℕ) (e : Expression L A P O) → AreBefore at (nodes_from at e)
    nodes_before at (Int z) = before_one at (n.Int z) (All-nil (λ part. part < at))
    nodes_before at (Text s) = before_one at (n.Text s) (All-nil (λ part. part < at))
    nodes_before at (Truth b) = before_one at (n.Bool b) (All-nil (λ part. part < at))
    nodes_before at (Label l) = before_one at (n.Label l) (All-nil (λ part. part < at))
    nodes_before at (Read l a) = before_one at (n.Read l a) (All-nil (λ part. part < at))
    nodes_before at (Lexeme l) = before_one at (n.Lexeme l) (All-nil (λ part. part < at))
    nodes_before at (Top a) = before_one at (n.Top a) (All-nil (λ part. part < at))
    nodes_before at (Forward a) = before_one at (n.Forward a) (All-nil (λ part. part < at))
    nodes_before at (Build name es) =
        before_last at (all_nodes_from at es) (n.Build name (places_from at es)) (size_of_all es) (all_nodes_len at es)
        (all_nodes_before at es) (places_before at es)
    nodes_before at (Call name es) =
        before_last at (all_nodes_from at es) (n.Call name (places_from at es)) (size_of_all es) (all_nodes_len at es)
        (all_nodes_before at es) (places_before at es)
    nodes_before at (If c h f) =
        let x = nodes_from at c in
        let y = nodes_from (at + size c) h in
        let z = nodes_from (at + size c + size h) f in
        let whole : Node L A P O = n.If (at + size c - 1) (at + size c + size h - 1) (at + size c + size h + size f - 1) in
        let below = λ (part : ℕ). part < at + size c + size h + size f in
        let i = size_some c in
        let j = size_some h in
        let k = size_some f in
        let parts = All-cons below (at + size c - 1) ((at + size c + size h - 1) ∷ (at + size c + size h + size f - 1) ∷ [])
        (omega (arith, i))
        (All-cons below (at + size c + size h - 1) ((at + size c + size h + size f - 1) ∷ []) (omega (arith, j))
        (All-cons below (at + size c + size h + size f - 1) [] (omega (arith, k)) (All-nil below))) in
        let lx = nodes_len at c in
        let ly = nodes_len (at + size c) h in
        let lz = nodes_len (at + size c + size h) f in
        let two = before_append at x y (at + size c) (omega (arith, lx)) (nodes_before at c) (nodes_before (at + size c) h) in
        let lt : length (x ++ y) ≡ size c + size h = omega (arith, lx, ly, length-append x y) in
        let three = before_append at (x ++ y) z (at + size c + size h) (omega (arith, lt)) two (nodes_before (at + size c + size h) f) in
        let lw : length (x ++ y ++ z) ≡ size c + size h + size f = omega (arith, lt, lz, length-append (x ++ y) z) in
        before_last at (x ++ y ++ z) whole (size c + size h + size f) lw three
        (All-weaker below (λ part. part < at + (size c + size h + size f)) (λ part l. omega (arith, l)) (parts_of whole) parts)

    all_nodes_before : (at : ℕ) (es : Expressions L A P O) → AreBefore at (all_nodes_from at es)
    all_nodes_before at none = tt
    all_nodes_before at (more e es) =
        before_append at (nodes_from at e) (all_nodes_from (at + size e) es) (at + size e) (omega (arith, nodes_len at e))
        (nodes_before at e) (all_nodes_before (at + size e) es)

  -- the parts of the node at a place
  before_at : (at : ℕ) (nodes : List (Node L A P O)) (k : ℕ) (d : Node L A P O) → AreBefore at nodes → k < length nodes → All
      (λ part. part < at + k) (parts_of (get_or nodes k d))
  before_at at [] k d h lt = absurd (omega (arith, lt))
  before_at at (x ∷ xs) zero d h lt = All-weaker (λ part. part < at) (λ part. part < at + 0) (λ part l. omega (arith, l)) (parts_of x) h.0
  before_at at (x ∷ xs) (suc k) d h lt = All-weaker (λ part. part < suc at + k) (λ part. part < at + suc k) (λ part l. omega (arith, l))
      (parts_of (get_or xs k d)) (before_at (suc at) xs k d h.1 (omega (arith, lt)))

  -- a whole expression has a node
  pub whole_some : (nodes : List (Node L A P O)) → IsWhole nodes → 0 < length nodes
  whole_some nodes h = let some = size_some h.0 in let l = nodes_len 0 h.0 in subst (λ (x : List (Node L A P O)). 0 < length x) (sym h.1)
      (omega (arith, some, l))

  -- the parts of each of its nodes are before it
  pub whole_has_parts_before : (nodes : List (Node L A P O)) → IsWhole nodes → HasPartsBefore nodes
  whole_has_parts_before nodes h at node has =
      let all = before_at 0 nodes at node (subst (AreBefore 0) (sym h.1) (nodes_before 0 h.0)) has.within in
      subst (λ (x : Node L A P O). All (λ part. part < at) (parts_of x)) (has.is node)
      (All-weaker (λ part. part < 0 + at) (λ part. part < at) (λ part l. omega (arith, l)) (parts_of (get_or nodes at node)) all)
