-- That each name in a specification is a name: an identifier that isn't reserved.
use Rattle.std.specs.Prelude.{ℕ, List, [], ◌∷◌, ◌++◌, Option, Some, None, All}
use Rattle.wb_base.specs.Identifiers.{IsName}
use Rattle.wb_syntax_expressions.specs.declared.node.Node.TheVariants as n
use Rattle.wb_syntax.specs.Expression.{Node}
use Rattle.wb_syntax.specs.declared.expression.Equation.{Equation}
use Rattle.wb_syntax.specs.declared.expression.Target.{Target}
use Rattle.wb_syntax.specs.declared.expression.Target.TheVariants as g
use Rattle.wb_syntax.specs.declared.header.Header.{Header}
use Rattle.wb_syntax.specs.declared.header.Header.TheVariants as h
use Rattle.wb_syntax.specs.declared.item.ItemForm.{ItemForm}
use Rattle.wb_syntax.specs.declared.item.ItemForm.TheVariants as f
use Rattle.wb_syntax.specs.declared.item.PlainForm.{PlainForm}
use Rattle.wb_syntax.specs.declared.production.Child.{Child}
use Rattle.wb_syntax.specs.declared.production.NamedKind.{NamedKind}
use Rattle.wb_syntax.specs.declared.production.NamedKind.TheVariants as k
use Rattle.wb_syntax.specs.declared.production.Production.{Production}
use Rattle.wb_syntax.specs.Fields.{Field}
use Rattle.wb_syntax.specs.Fields as field
use Rattle.wb_syntax.specs.ItemGrammar.{plain_fields}
use Rattle.wb_syntax.specs.SpecText.{SpecView}

-- the names in a node
abbrev pub node_names : Node → List (List ℕ)
node_names (n.Label label) = label ∷ []
node_names (n.Read label attribute) = label ∷ attribute ∷ []
node_names (n.Lexeme label) = label ∷ []
node_names (n.Top attribute) = attribute ∷ []
node_names (n.Forward attribute) = attribute ∷ []
node_names (n.Build production children) = production ∷ []
node_names (n.Call operation arguments) = operation ∷ []
node_names node = []

-- the names in what an equation is for
abbrev pub target_names : Target → List (List ℕ)
target_names (g.Top attribute) = attribute ∷ []
target_names (g.Label label attribute) = label ∷ attribute ∷ []
target_names (g.Forward attribute) = attribute ∷ []
target_names (g.Local label nonterminal) = label ∷ nonterminal ∷ []
target_names g.ForwardsTo = []

-- the names in an equation are names
pub record EquationHasNames (equation : Equation) : Type 0 where
  pub target : All IsName (target_names equation.target)
  pub nodes : All (λ node. All IsName (node_names node)) equation.nodes

-- the names in a kind
abbrev pub kind_names : NamedKind → List (List ℕ)
kind_names k.Int = []
kind_names k.Bool = []
kind_names k.Text = []
kind_names (k.Name name) = name ∷ []

-- the names in a child
abbrev pub child_names : Child → List (List ℕ)
child_names child = child.label ∷ kind_names child.kind

-- the names in a production are names
pub record ProductionHasNames (production : Production) : Type 0 where
  pub name : IsName production.name
  pub left : IsName production.left
  pub children : All (λ child. All IsName (child_names child)) production.children
  pub equations : All EquationHasNames production.equations

-- the names in needs
abbrev pub needs_names : Option (List (List ℕ)) → List (List ℕ)
needs_names None = []
needs_names (Some names) = names

-- the names in a field
abbrev pub field_names : Field → List (List ℕ)
field_names (field.word value) = []
field_names (field.mark value) = []
field_names (field.name value) = value ∷ []
field_names (field.kind value) = kind_names value
field_names (field.needs value) = value
field_names (field.optional_needs value) = needs_names value

-- the names in fields, in their order
abbrev pub fields_names : List Field → List (List ℕ)
fields_names [] = []
fields_names (first ∷ rest) = field_names first ++ fields_names rest

-- the names in an item of names alone
abbrev pub plain_names : PlainForm → List (List ℕ)
plain_names form = fields_names (plain_fields form)

-- the names in an item are names
abbrev pub FormHasNames : {P : Type 0} → ItemForm P → Type 0
FormHasNames (f.Lexical role name pattern) = IsName name
FormHasNames (f.Plain plain) = All IsName (plain_names plain)
FormHasNames (f.Production role production) = ProductionHasNames production
FormHasNames (f.Aspect name equations) = IsName name × All EquationHasNames equations

-- the names in a header
abbrev pub header_names : Header → List (List ℕ)
header_names h.Host = []
header_names (h.Extension host) = host ∷ []

-- each name in the specification is a name
pub record HasNames (spec : SpecView) : Type 0 where
  pub name : IsName spec.name
  pub header : All IsName (header_names spec.header)
  pub items : All (λ item. FormHasNames item.form) spec.items
