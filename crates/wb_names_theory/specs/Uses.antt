-- Which names the items of a file use, and what the place of each asks for.
use Rattle.std.specs.Prelude.{ℕ, List, [], ◌∷◌, ◌++◌, Option, Some, None, flat_map}
use Rattle.wb_syntax_expressions.specs.declared.node.Node.TheVariants as n
use Rattle.wb_syntax.specs.declared.expression.Equation.{Equation}
use Rattle.wb_syntax.specs.declared.expression.Target.{Target}
use Rattle.wb_syntax.specs.declared.expression.Target.TheVariants as t
use Rattle.wb_syntax.specs.declared.item.Item.{Item}
use Rattle.wb_syntax.specs.declared.item.ItemForm.{ItemForm}
use Rattle.wb_syntax.specs.declared.item.ItemForm.TheVariants as f
use Rattle.wb_syntax.specs.declared.item.PlainForm.{PlainForm}
use Rattle.wb_syntax.specs.declared.item.PlainForm.TheVariants as i
use Rattle.wb_syntax.specs.declared.pattern.Pattern.{Pattern}
use Rattle.wb_syntax.specs.declared.production.Child.{Child}
use Rattle.wb_syntax.specs.declared.production.NamedKind.{NamedKind}
use Rattle.wb_syntax.specs.declared.production.NamedKind.TheVariants as k
use Rattle.wb_syntax.specs.declared.production.Production.{Production}
use Rattle.wb_syntax.specs.declared.production.ProductionRole.{ProductionRole}
use Rattle.wb_syntax.specs.declared.production.ProductionRole.TheVariants.{Concrete, Abstract}
use Rattle.wb_syntax.specs.Expression.{Node}
use Rattle.wb_names_theory.specs.declared.declaration.Site.TheVariants as site
use Rattle.wb_names_theory.specs.declared.usage.LabelWanted.TheVariants as label
use Rattle.wb_names_theory.specs.declared.usage.Usage.{Usage}
use Rattle.wb_names_theory.specs.declared.usage.Usage.TheVariants as u
use Rattle.wb_names_theory.specs.declared.usage.Wanted.{Wanted}
use Rattle.wb_names_theory.specs.declared.usage.Wanted.TheVariants as w
use Rattle.wb_names_theory.specs.Declarations.{Items}

-- the name of a kind is a nonterminal, or for a child what its production asks for
abbrev pub kind_uses : Wanted → NamedKind → List Usage
kind_uses wanted k.Int = []
kind_uses wanted k.Bool = []
kind_uses wanted k.Text = []
kind_uses wanted (k.Name name) = u.Name name wanted ∷ []

-- an attribute in a flow type is inherited, and occurs on the nonterminal
abbrev pub needs_uses : List ℕ → List ℕ → List Usage
needs_uses nonterminal attribute = u.Name attribute w.Inherited ∷ u.Needs attribute nonterminal ∷ []

-- the attribute of an occurrence is any, or a synthesized one where a flow type is written
abbrev pub occurs_uses : List ℕ → List ℕ → Option (List (List ℕ)) → List Usage
occurs_uses attribute nonterminal None = u.Name attribute w.Attribute ∷ u.Name nonterminal w.Nonterminal ∷ []
occurs_uses attribute nonterminal (Some needs) =
    u.Name attribute w.Synthesized ∷ u.Name nonterminal w.Nonterminal ∷ flat_map (needs_uses nonterminal) needs

-- what an item of names alone uses
abbrev pub plain_uses : PlainForm → List Usage
plain_uses (i.Prefer first second) = u.Name first w.Lexical ∷ u.Name second w.Lexical ∷ []
plain_uses (i.Nonterminal name) = []
plain_uses (i.Start name) = u.Name name w.Nonterminal ∷ []
plain_uses (i.Extensible name) = u.Name name w.Nonterminal ∷ []
plain_uses (i.Closed name) = u.Name name w.Nonterminal ∷ []
plain_uses (i.Synthesized name kind) = kind_uses w.Nonterminal kind
plain_uses (i.Inherited name kind) = kind_uses w.Nonterminal kind
plain_uses (i.Occurs attribute nonterminal needs) = occurs_uses attribute nonterminal needs
plain_uses (i.ForwardOn nonterminal needs) = u.Name nonterminal w.Nonterminal ∷ flat_map (needs_uses nonterminal) needs

-- what the kind of a child may name
abbrev pub child_wanted : ProductionRole → Wanted
child_wanted Concrete = w.GrammarSymbol
child_wanted Abstract = w.Nonterminal

-- the label of a tree whose attribute is given or read, and the attribute
abbrev pub read_uses : List ℕ → List ℕ → List ℕ → List Usage
read_uses production l attribute = u.Label production l label.Tree ∷ u.Attribute production attribute (site.Label l) ∷ []

-- what the left side of an equation on a production uses
abbrev pub target_uses : List ℕ → Target → List Usage
target_uses production (t.Top attribute) = u.Name attribute w.Synthesized ∷ u.Attribute production attribute site.Top ∷ []
target_uses production (t.Label l attribute) = u.Name attribute w.Inherited ∷ read_uses production l attribute
target_uses production (t.Forward attribute) = u.Name attribute w.Inherited ∷ u.Attribute production attribute site.Forward ∷ []
target_uses production (t.Local l nonterminal) = u.Name nonterminal w.Nonterminal ∷ []
target_uses production t.ForwardsTo = []

-- what a node of an expression on a production uses; operations are no matter of names
abbrev pub node_uses : List ℕ → Node → List Usage
node_uses production (n.Label l) = u.Label production l label.Value ∷ []
node_uses production (n.Read l attribute) = u.Name attribute w.Synthesized ∷ read_uses production l attribute
node_uses production (n.Lexeme l) = u.Label production l label.Lexeme ∷ []
node_uses production (n.Top attribute) = u.Name attribute w.Inherited ∷ u.Attribute production attribute site.Top ∷ []
node_uses production (n.Forward attribute) = u.Name attribute w.Synthesized ∷ u.Attribute production attribute site.Forward ∷ []
node_uses production (n.Build name children) = u.Name name w.Production ∷ []
node_uses production other = []

-- what an equation on a production uses
abbrev pub equation_uses : List ℕ → Equation → List Usage
equation_uses production e = target_uses production e.target ++ flat_map (node_uses production) e.nodes

-- what a production uses
abbrev pub production_uses : ProductionRole → Production → List Usage
production_uses role p =
    u.Name p.left w.Nonterminal
    ∷ (flat_map (λ (c : Child). kind_uses (child_wanted role) c.kind) p.children ++ flat_map (equation_uses p.name) p.equations)

-- what an item uses
abbrev pub form_uses : ItemForm Pattern → List Usage
form_uses (f.Lexical role name pattern) = []
form_uses (f.Plain plain) = plain_uses plain
form_uses (f.Production role p) = production_uses role p
form_uses (f.Aspect name equations) = u.Name name w.Production ∷ flat_map (equation_uses name) equations

-- what items use
abbrev pub uses : Items → List Usage
uses items = flat_map (λ (item : Item Pattern). form_uses item.form) items
