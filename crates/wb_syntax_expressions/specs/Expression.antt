-- Expressions as trees, and the nodes by which a list keeps one.
use Rattle.std.specs.Prelude.{◌≡◌, ℕ, ◌+◌, ◌-◌, suc, ℤ, Bool, List, [], ◌∷◌, ◌++◌}
use Rattle.wb_syntax_expressions.specs.declared.node.Node.{Node}
use Rattle.wb_syntax_expressions.specs.declared.node.Node.TheVariants as n

mutual
  -- an expression: L is what a label is given by, A an attribute, P a production and O an operation
  pub data Expression (L A P O : Type 0) : Type 0 where
    Int : ℤ → Expression L A P O
    Text : List ℕ → Expression L A P O
    Truth : Bool → Expression L A P O
    -- a child or local as a value
    Label : L → Expression L A P O
    -- an attribute of a child or local: the label, then the attribute
    Read : L → A → Expression L A P O
    -- the text of a child
    Lexeme : L → Expression L A P O
    -- an attribute of the top, and one of the forwarded tree
    Top : A → Expression L A P O
    Forward : A → Expression L A P O
    -- a tree of a production with these children
    Build : P → Expressions L A P O → Expression L A P O
    -- an operation on these arguments
    Call : O → Expressions L A P O → Expression L A P O
    -- a condition, what holds then, and what holds otherwise
    If : Expression L A P O → Expression L A P O → Expression L A P O → Expression L A P O

  -- expressions in order
  pub data Expressions (L A P O : Type 0) : Type 0 where
    none : Expressions L A P O
    more : Expression L A P O → Expressions L A P O → Expressions L A P O

module _ {L A P O : Type 0} where
  abbrev mutual
    -- how many nodes an expression has
    pub size : Expression L A P O → ℕ
    size (Int z) = 1
    size (Text text) = 1
    size (Truth truth) = 1
    size (Label label) = 1
    size (Read label attribute) = 1
    size (Lexeme label) = 1
    size (Top attribute) = 1
    size (Forward attribute) = 1
    size (Build production parts) = suc (size_of_all parts)
    size (Call operation parts) = suc (size_of_all parts)
    size (If condition holds fails) = suc (size condition + size holds + size fails)

    -- how many nodes expressions have together
    pub size_of_all : Expressions L A P O → ℕ
    size_of_all none = 0
    size_of_all (more e es) = size e + size_of_all es

  -- the places of the wholes of expressions whose nodes follow each other from this place on
  abbrev pub places_from : ℕ → Expressions L A P O → List ℕ
  places_from at none = []
  places_from at (more e es) = (at + size e - 1) ∷ places_from (at + size e) es

  abbrev mutual
    -- the nodes of an expression, its parts before the whole, from left to right, where the first has this place
    pub nodes_from : ℕ → Expression L A P O → List (Node L A P O)
    nodes_from at (Int z) = n.Int z ∷ []
    nodes_from at (Text text) = n.Text text ∷ []
    nodes_from at (Truth truth) = n.Bool truth ∷ []
    nodes_from at (Label label) = n.Label label ∷ []
    nodes_from at (Read label attribute) = n.Read label attribute ∷ []
    nodes_from at (Lexeme label) = n.Lexeme label ∷ []
    nodes_from at (Top attribute) = n.Top attribute ∷ []
    nodes_from at (Forward attribute) = n.Forward attribute ∷ []
    nodes_from at (Build production parts) = all_nodes_from at parts ++ n.Build production (places_from at parts) ∷ []
    nodes_from at (Call operation parts) = all_nodes_from at parts ++ n.Call operation (places_from at parts) ∷ []
    nodes_from at (If condition holds fails) =
        nodes_from at condition ++ nodes_from (at + size condition) holds
        ++ nodes_from (at + size condition + size holds) fails
        ++ n.If (at + size condition - 1) (at + size condition + size holds - 1) (at + size condition + size holds + size fails - 1) ∷ []

    -- the nodes of expressions, one after the other
    pub all_nodes_from : ℕ → Expressions L A P O → List (Node L A P O)
    all_nodes_from at none = []
    all_nodes_from at (more e es) = nodes_from at e ++ all_nodes_from (at + size e) es

  -- the nodes of an expression
  abbrev pub nodes_of : Expression L A P O → List (Node L A P O)
  nodes_of e = nodes_from 0 e

-- the nodes are one whole expression
abbrev pub IsWhole : {L A P O : Type 0} → List (Node L A P O) → Type 0
IsWhole {L} {A} {P} {O} nodes = (e : Expression L A P O) × (nodes ≡ nodes_of e)

module _ {L A P O : Type 0} where
  -- the node names no label, attribute, production or operation
  abbrev pub NamesNothing : Node L A P O → Type 0
  NamesNothing (n.Label label) = ⊥
  NamesNothing (n.Read label attribute) = ⊥
  NamesNothing (n.Lexeme label) = ⊥
  NamesNothing (n.Top attribute) = ⊥
  NamesNothing (n.Forward attribute) = ⊥
  NamesNothing (n.Build production children) = ⊥
  NamesNothing (n.Call operation arguments) = ⊥
  NamesNothing node = Unit {0}

  -- the first node names nothing, and the second is the same among nodes whose names are given otherwise
  abbrev pub IsSameNode : {M B Q N : Type 0} → Node L A P O → Node M B Q N → Type 0
  IsSameNode (n.Int z) to = to ≡ n.Int z
  IsSameNode (n.Text text) to = to ≡ n.Text text
  IsSameNode (n.Bool truth) to = to ≡ n.Bool truth
  IsSameNode (n.If condition holds fails) to = to ≡ n.If condition holds fails
  IsSameNode node to = ⊥
