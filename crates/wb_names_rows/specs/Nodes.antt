-- Names in nodes and targets that are there, and what they are found as.
use Rattle.std.specs.Prelude.{◌≡◌, ◌++◌, ℕ, Bool, List, Some, All, Contains, filter, slice_get}
use Rattle.std.specs.List.{AllZip}
use Rattle.wb_syntax_expressions.specs.declared.node.Node.TheVariants as n
use Rattle.wb_syntax_resolved.specs.declared.equation.Equation.{Equation}
use Rattle.wb_syntax_resolved.specs.declared.equation.Place.{Place}
use Rattle.wb_syntax_resolved.specs.declared.equation.Target as numbered
use Rattle.wb_syntax_resolved.specs.declared.equation.Target.TheVariants as target
use Rattle.wb_syntax_resolved.specs.declared.production.Forward.{Forward}
use Rattle.wb_syntax_resolved.specs.declared.production.Local.{Local}
use Rattle.wb_syntax_resolved.specs.Expression as by_number
use Rattle.wb_syntax.specs.declared.expression.Equation as written
use Rattle.wb_syntax.specs.declared.expression.Target.{Target}
use Rattle.wb_syntax.specs.declared.expression.Target.TheVariants as g
use Rattle.wb_syntax.specs.Expression as by_name
use Rattle.wb_names_numbers_theory.specs.Renaming.{IsRenamedNode}
use Rattle.wb_names_rows.specs.declared.scope.Scope.{Scope}
use Rattle.wb_names_rows.specs.declared.scope.ProductionLabels.{ProductionLabels}
use Rattle.wb_names_rows.specs.Scope.{IsLabelOf}

-- the name has this number
abbrev pub IsAt : List (List ℕ) → List ℕ → ℕ → Type 0
IsAt names name number = slice_get names number ≡ Some name

module _ (s : Scope) (labels : ProductionLabels) where
  -- each name in the node is there
  abbrev pub NodeIsThere : by_name.Node → Type 0
  NodeIsThere (n.Label label) = Contains labels.names label
  NodeIsThere (n.Read label attribute) = Contains labels.names label × Contains s.attributes attribute
  NodeIsThere (n.Lexeme label) = Contains labels.names label
  NodeIsThere (n.Top attribute) = Contains s.attributes attribute
  NodeIsThere (n.Forward attribute) = Contains s.attributes attribute
  NodeIsThere (n.Build production children) = Contains s.productions production
  NodeIsThere node = Unit {0}

  -- the node is found as this one
  abbrev pub IsFoundNode : by_name.Node → by_number.Node → Type 0
  IsFoundNode node to = IsRenamedNode (IsLabelOf labels) (IsAt s.attributes) (IsAt s.productions) node to

  -- each name in what an equation is for is there
  abbrev pub TargetIsThere : Target → Type 0
  TargetIsThere (g.Top attribute) = Contains s.attributes attribute
  TargetIsThere (g.Label label attribute) = Contains labels.names label × Contains s.attributes attribute
  TargetIsThere (g.Forward attribute) = Contains s.attributes attribute
  TargetIsThere (g.Local label nonterminal) = Contains s.nonterminals nonterminal
  TargetIsThere g.ForwardsTo = Unit {0}

  -- what an equation for an attribute is for is found as this
  abbrev pub IsFoundTarget : Target → numbered.Target → Type 0
  IsFoundTarget (g.Top attribute) to = (number : ℕ) × IsAt s.attributes attribute number × (to ≡ target.Top number)
  IsFoundTarget (g.Label label attribute) to =
      (at : Place) × (number : ℕ) × IsLabelOf labels label at × IsAt s.attributes attribute number × (to ≡ target.Place at number)
  IsFoundTarget (g.Forward attribute) to = (number : ℕ) × IsAt s.attributes attribute number × (to ≡ target.Forward number)
  IsFoundTarget (g.Local label nonterminal) to = ⊥
  IsFoundTarget g.ForwardsTo to = ⊥

  -- the local that an equation makes is found as one of this label and nonterminal
  abbrev pub IsFoundLocalTarget : Target → List ℕ → ℕ → Type 0
  IsFoundLocalTarget (g.Local own nonterminal) label number = (label ≡ own) × IsAt s.nonterminals nonterminal number
  IsFoundLocalTarget (g.Top attribute) label number = ⊥
  IsFoundLocalTarget (g.Label other attribute) label number = ⊥
  IsFoundLocalTarget (g.Forward attribute) label number = ⊥
  IsFoundLocalTarget g.ForwardsTo label number = ⊥

  -- an equation for an attribute, one that makes a local, and one that makes the forwarded tree, as they are found
  pub record IsFoundEquation (q : written.Equation) (e : Equation) : Type 0 where
    pub owner : e.owner ≡ s.owner
    pub offset : e.offset ≡ q.offset
    pub target : IsFoundTarget q.target e.target
    pub nodes : AllZip IsFoundNode q.nodes e.nodes

  pub record IsFoundLocal (q : written.Equation) (l : Local) : Type 0 where
    pub owner : l.owner ≡ s.owner
    pub offset : l.offset ≡ q.offset
    pub target : IsFoundLocalTarget q.target l.label l.nonterminal
    pub nodes : AllZip IsFoundNode q.nodes l.nodes

  pub record IsFoundForward (q : written.Equation) (f : Forward) : Type 0 where
    pub offset : f.offset ≡ q.offset
    pub nodes : AllZip IsFoundNode q.nodes f.nodes

  -- each name in an equation is there
  pub record EquationIsThere (q : written.Equation) : Type 0 where
    pub target : TargetIsThere q.target
    pub nodes : All NodeIsThere q.nodes

-- what passes the test is added after the others, one for each
abbrev pub AddsAll : {A B : Type 0} → (A → Bool) → (A → B → Type 0) → List A → List B → List B → Type 0
AddsAll {A} {B} test IsFound xs old new = (own : List B) × (new ≡ old ++ own) × AllZip IsFound (filter test xs) own
