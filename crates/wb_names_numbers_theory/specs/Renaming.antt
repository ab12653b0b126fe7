-- Nodes of expressions that are the same but for how labels, attributes and productions are given.
use Rattle.std.specs.Prelude.{◌≡◌, List}
use Rattle.std.specs.List.{AllZip}
use Rattle.wb_syntax_expressions.specs.declared.node.Node.{Node}
use Rattle.wb_syntax_expressions.specs.declared.node.Node.TheVariants as n
use Rattle.wb_syntax_expressions.specs.Expression.{IsSameNode}

module _ {L M A B P Q O : Type 0} (IsLabel : L → M → Type 0) (IsAttribute : A → B → Type 0) (IsProduction : P → Q → Type 0) where
  -- the second node is the first, with its label, attribute or production given in the second way
  abbrev pub IsRenamedNode : Node L A P O → Node M B Q O → Type 0
  IsRenamedNode (n.Label label) to = (l : M) × IsLabel label l × (to ≡ n.Label l)
  IsRenamedNode (n.Read label attribute) to = (l : M) × (a : B) × IsLabel label l × IsAttribute attribute a × (to ≡ n.Read l a)
  IsRenamedNode (n.Lexeme label) to = (l : M) × IsLabel label l × (to ≡ n.Lexeme l)
  IsRenamedNode (n.Top attribute) to = (a : B) × IsAttribute attribute a × (to ≡ n.Top a)
  IsRenamedNode (n.Forward attribute) to = (a : B) × IsAttribute attribute a × (to ≡ n.Forward a)
  IsRenamedNode (n.Build production children) to = (p : Q) × IsProduction production p × (to ≡ n.Build p children)
  IsRenamedNode (n.Call operation arguments) to = to ≡ n.Call operation arguments
  IsRenamedNode node to = IsSameNode node to

  -- the second nodes are the first, renamed so, in order
  abbrev pub AreRenamedNodes : List (Node L A P O) → List (Node M B Q O) → Type 0
  AreRenamedNodes nodes others = AllZip IsRenamedNode nodes others
