-- What a file writes, by numbers: kinds, children, equations, locals and what is forwarded to.
use Rattle.std.specs.Prelude.{◌≡◌, ℕ, Bool, true, false, List, filter}
use Rattle.wb_base.specs.declared.symbol.Kind.{Kind}
use Rattle.wb_base.specs.declared.symbol.Kind.TheVariants as kind
use Rattle.wb_syntax_resolved.specs.declared.equation.Equation.{Equation}
use Rattle.wb_syntax_resolved.specs.declared.equation.Place.{Place}
use Rattle.wb_syntax_resolved.specs.declared.equation.Target.{Target}
use Rattle.wb_syntax_resolved.specs.declared.equation.Target.TheVariants as target
use Rattle.wb_syntax_resolved.specs.declared.production.Child.{Child}
use Rattle.wb_syntax_resolved.specs.declared.production.ChildKind.{ChildKind}
use Rattle.wb_syntax_resolved.specs.declared.production.ChildKind.TheVariants as child
use Rattle.wb_syntax_resolved.specs.declared.production.Forward.{Forward}
use Rattle.wb_syntax_resolved.specs.declared.production.Local.{Local}
use Rattle.wb_syntax_resolved.specs.Expression as by_number
use Rattle.wb_syntax.specs.declared.expression.Equation as written
use Rattle.wb_syntax.specs.declared.expression.Target as is_for
use Rattle.wb_syntax.specs.declared.expression.Target.TheVariants as g
use Rattle.wb_syntax.specs.declared.production.Child as named
use Rattle.wb_syntax.specs.declared.production.NamedKind.{NamedKind}
use Rattle.wb_syntax.specs.declared.production.NamedKind.TheVariants as k
use Rattle.wb_syntax.specs.Expression as by_name
use Rattle.wb_names_numbers_theory.specs.Numbering.{Numbering, Labels, IsNumber, IsPlace}
use Rattle.wb_names_numbers_theory.specs.Renaming.{AreRenamedNodes}

-- an equation with this target makes a local
abbrev pub makes_local : is_for.Target → Bool
makes_local (g.Local label nonterminal) = true
makes_local (g.Top attribute) = false
makes_local (g.Label label attribute) = false
makes_local (g.Forward attribute) = false
makes_local g.ForwardsTo = false

-- an equation with this target makes the tree that is forwarded to
abbrev pub makes_forward : is_for.Target → Bool
makes_forward g.ForwardsTo = true
makes_forward (g.Local label nonterminal) = false
makes_forward (g.Top attribute) = false
makes_forward (g.Label label attribute) = false
makes_forward (g.Forward attribute) = false

-- an equation with this target makes the value of an attribute
abbrev pub makes_attribute : is_for.Target → Bool
makes_attribute (g.Top attribute) = true
makes_attribute (g.Label label attribute) = true
makes_attribute (g.Forward attribute) = true
makes_attribute (g.Local label nonterminal) = false
makes_attribute g.ForwardsTo = false

-- those among the equations, in their order
abbrev pub local_equations : List written.Equation → List written.Equation
local_equations equations = filter (λ (e : written.Equation). makes_local e.target) equations

abbrev pub forward_equations : List written.Equation → List written.Equation
forward_equations equations = filter (λ (e : written.Equation). makes_forward e.target) equations

abbrev pub attribute_equations : List written.Equation → List written.Equation
attribute_equations equations = filter (λ (e : written.Equation). makes_attribute e.target) equations

-- the owner of the file writes it, and its names have these numbers
module _ (n : Numbering) (owner : ℕ) where
  -- the kind is this one
  abbrev pub IsWrittenKind : NamedKind → Kind → Type 0
  IsWrittenKind k.Int is = is ≡ kind.Int
  IsWrittenKind k.Bool is = is ≡ kind.Bool
  IsWrittenKind k.Text is = is ≡ kind.Text
  IsWrittenKind (k.Name name) is = (number : ℕ) × IsNumber n.nonterminals owner name number × (is ≡ kind.Tree number)

  -- the kind is the name of this terminal
  abbrev pub IsWrittenTerminal : NamedKind → ℕ → Type 0
  IsWrittenTerminal k.Int number = ⊥
  IsWrittenTerminal k.Bool number = ⊥
  IsWrittenTerminal k.Text number = ⊥
  IsWrittenTerminal (k.Name name) number = IsNumber n.terminals owner name number

  -- the kind of a child is this one
  abbrev pub IsWrittenChildKind : NamedKind → ChildKind → Type 0
  IsWrittenChildKind named (child.Terminal number) = IsWrittenTerminal named number
  IsWrittenChildKind named (child.Value is) = IsWrittenKind named is

  -- the child is this one
  pub record IsWrittenChild (child : named.Child) (c : Child) : Type 0 where
    pub label : c.label ≡ child.label
    pub is_kind : IsWrittenChildKind child.kind c.kind

  -- the nodes, on a production with these labels, are these
  abbrev pub AreWrittenNodes : Labels → List by_name.Node → List by_number.Node → Type 0
  AreWrittenNodes labels nodes others = AreRenamedNodes (IsPlace labels owner) (IsNumber n.attributes owner) (IsNumber n.productions owner)
      nodes others

  -- the target of an equation for an attribute, on a production with these labels, is this one
  abbrev pub IsWrittenTarget : Labels → is_for.Target → Target → Type 0
  IsWrittenTarget labels (g.Top attribute) to = (number : ℕ) × IsNumber n.attributes owner attribute number × (to ≡ target.Top number)
  IsWrittenTarget labels (g.Label label attribute) to =
      (at : Place) × (number : ℕ) × IsPlace labels owner label at × IsNumber n.attributes owner attribute number
      × (to ≡ target.Place at number)
  IsWrittenTarget labels (g.Forward attribute) to =
      (number : ℕ) × IsNumber n.attributes owner attribute number × (to ≡ target.Forward number)
  IsWrittenTarget labels (g.Local label nonterminal) to = ⊥
  IsWrittenTarget labels g.ForwardsTo to = ⊥

  -- the equation for an attribute is this one
  pub record IsWrittenEquation (labels : Labels) (equation : written.Equation) (e : Equation) : Type 0 where
    pub owner_is : e.owner ≡ owner
    pub offset : e.offset ≡ equation.offset
    pub target : IsWrittenTarget labels equation.target e.target
    pub nodes : AreWrittenNodes labels equation.nodes e.nodes

  -- the equation makes the local of this label, a tree of this nonterminal
  abbrev pub IsWrittenLocalTarget : is_for.Target → List ℕ → ℕ → Type 0
  IsWrittenLocalTarget (g.Local written nonterminal) label number = (label ≡ written) × IsNumber n.nonterminals owner nonterminal number
  IsWrittenLocalTarget (g.Top attribute) label number = ⊥
  IsWrittenLocalTarget (g.Label other attribute) label number = ⊥
  IsWrittenLocalTarget (g.Forward attribute) label number = ⊥
  IsWrittenLocalTarget g.ForwardsTo label number = ⊥

  -- the equation that makes a local is this one
  pub record IsWrittenLocal (labels : Labels) (equation : written.Equation) (l : Local) : Type 0 where
    pub owner_is : l.owner ≡ owner
    pub offset : l.offset ≡ equation.offset
    pub target : IsWrittenLocalTarget equation.target l.label l.nonterminal
    pub nodes : AreWrittenNodes labels equation.nodes l.nodes

  -- the equation that makes the forwarded tree is this one
  pub record IsWrittenForward (labels : Labels) (equation : written.Equation) (f : Forward) : Type 0 where
    pub offset : f.offset ≡ equation.offset
    pub nodes : AreWrittenNodes labels equation.nodes f.nodes
