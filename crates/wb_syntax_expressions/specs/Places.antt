-- Nodes at their places, and the expressions that are at a place of a list of nodes.
use Rattle.std.specs.Prelude.{◌≡◌, ℕ, ◌<◌, ℤ, Bool, List, [], ◌∷◌, All, length, slice_index_or}
use Rattle.wb_syntax_expressions.specs.declared.node.Node.{Node}
use Rattle.wb_syntax_expressions.specs.declared.node.Node.TheVariants as n
use Rattle.wb_syntax_expressions.specs.Expression.{Expression, Expressions, Int, Text, Truth, Label, Read, Lexeme, Top, Forward, Build}
use Rattle.wb_syntax_expressions.specs.Expression.{Call, If}
use Rattle.wb_syntax_expressions.specs.Expression.{none, more}

-- the node is at this place
pub record HasNode {L A P O : Type 0} (nodes : List (Node L A P O)) (at : ℕ) (node : Node L A P O) : Type 0 where
  pub within : at < length nodes
  pub is : (default : Node L A P O) → slice_index_or nodes at default ≡ node

-- the places of a node's parts, from left to right
abbrev pub parts_of : {L A P O : Type 0} → Node L A P O → List ℕ
parts_of (n.Build production children) = children
parts_of (n.Call operation arguments) = arguments
parts_of (n.If condition holds fails) = condition ∷ holds ∷ fails ∷ []
parts_of node = []

-- the parts of each node are before it
abbrev pub HasPartsBefore : {L A P O : Type 0} → List (Node L A P O) → Type 0
HasPartsBefore {L} {A} {P} {O} nodes = (at : ℕ) (node : Node L A P O) → HasNode nodes at node → All (λ part. part < at) (parts_of node)

mutual
  -- the expression is in the nodes, and its whole at this place
  pub data Stands {L A P O : Type 0} (nodes : List (Node L A P O)) : ℕ → Expression L A P O → Type 0 where
    int : {at : ℕ} {z : ℤ} → HasNode nodes at (n.Int z) → Stands nodes at (Int z)
    text : {at : ℕ} {s : List ℕ} → HasNode nodes at (n.Text s) → Stands nodes at (Text s)
    truth : {at : ℕ} {b : Bool} → HasNode nodes at (n.Bool b) → Stands nodes at (Truth b)
    label : {at : ℕ} {l : L} → HasNode nodes at (n.Label l) → Stands nodes at (Label l)
    read : {at : ℕ} {l : L} {a : A} → HasNode nodes at (n.Read l a) → Stands nodes at (Read l a)
    lexeme : {at : ℕ} {l : L} → HasNode nodes at (n.Lexeme l) → Stands nodes at (Lexeme l)
    top : {at : ℕ} {a : A} → HasNode nodes at (n.Top a) → Stands nodes at (Top a)
    forward : {at : ℕ} {a : A} → HasNode nodes at (n.Forward a) → Stands nodes at (Forward a)
    build : {at : ℕ} {name : P} {places : List ℕ} {es : Expressions L A P O} → HasNode nodes at (n.Build name places)
        → AllStand nodes places es
        → Stands nodes at (Build name es)
    call : {at : ℕ} {name : O} {places : List ℕ} {es : Expressions L A P O} → HasNode nodes at (n.Call name places)
        → AllStand nodes places es
        → Stands nodes at (Call name es)
    if_then : {at c h f : ℕ} {condition holds fails : Expression L A P O} → HasNode nodes at (n.If c h f) → Stands nodes c condition
        → Stands nodes h holds → Stands nodes f fails → Stands nodes at (If condition holds fails)

  -- the expressions are in the nodes, and their wholes at these places
  pub data AllStand {L A P O : Type 0} (nodes : List (Node L A P O)) : List ℕ → Expressions L A P O → Type 0 where
    nothing : AllStand nodes [] none
    next : {at : ℕ} {places : List ℕ} {e : Expression L A P O} {es : Expressions L A P O} → Stands nodes at e → AllStand nodes places es
        → AllStand nodes (at ∷ places) (more e es)
