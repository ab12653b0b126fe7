-- Rows of a base in other numbers, which are kept by the old number.
use Rattle.std.specs.Prelude.{◌≡◌, ◌<◌, ℕ, List, Some, All, length, slice_get}
use Rattle.std.specs.List.{AllZip}
use Rattle.wb_base.specs.declared.symbol.Kind.{Kind}
use Rattle.wb_base.specs.declared.symbol.Kind.TheVariants as kind
use Rattle.wb_syntax_expressions.specs.declared.node.Node.TheVariants as n
use Rattle.wb_syntax_resolved.specs.declared.equation.Equation.{Equation}
use Rattle.wb_syntax_resolved.specs.declared.equation.Place.{Place}
use Rattle.wb_syntax_resolved.specs.declared.production.Child.{Child}
use Rattle.wb_syntax_resolved.specs.declared.production.ChildKind.{ChildKind}
use Rattle.wb_syntax_resolved.specs.declared.production.ChildKind.TheVariants as child
use Rattle.wb_syntax_resolved.specs.declared.production.Forward.{Forward}
use Rattle.wb_syntax_resolved.specs.declared.production.Local.{Local}
use Rattle.wb_syntax_resolved.specs.Expression.{Node}
use Rattle.wb_names_numbers_theory.specs.Renaming.{IsRenamedNode}
use Rattle.wb_names_rows.specs.declared.moves.Moves.{Moves}

-- the number is this one now
abbrev pub IsNow : List ℕ → ℕ → ℕ → Type 0
IsNow table number to = slice_get table number ≡ Some to

module _ (m : Moves) where
  -- numbers of nonterminals and terminals are in the tables
  abbrev pub KindIsWithin : Kind → Type 0
  KindIsWithin kind.Int = Unit {0}
  KindIsWithin kind.Bool = Unit {0}
  KindIsWithin kind.Text = Unit {0}
  KindIsWithin (kind.Tree number) = number < length m.nonterminals.items

  abbrev pub ChildKindIsWithin : ChildKind → Type 0
  ChildKindIsWithin (child.Terminal number) = number < length m.terminals.items
  ChildKindIsWithin (child.Value is) = KindIsWithin is

  -- the kind is this one now
  abbrev pub IsKindNow : Kind → Kind → Type 0
  IsKindNow kind.Int to = to ≡ kind.Int
  IsKindNow kind.Bool to = to ≡ kind.Bool
  IsKindNow kind.Text to = to ≡ kind.Text
  IsKindNow (kind.Tree number) to = (other : ℕ) × IsNow m.nonterminals.items number other × (to ≡ kind.Tree other)

  abbrev pub IsChildKindNow : ChildKind → ChildKind → Type 0
  IsChildKindNow (child.Terminal number) to = (other : ℕ) × IsNow m.terminals.items number other × (to ≡ child.Terminal other)
  IsChildKindNow (child.Value is) to = (other : Kind) × IsKindNow is other × (to ≡ child.Value other)

  pub record IsChildNow (c to : Child) : Type 0 where
    pub label : to.label ≡ c.label
    pub is_kind : IsChildKindNow c.kind to.kind

  -- the number of the production that a node builds is in the table
  abbrev pub NodeIsWithin : Node → Type 0
  NodeIsWithin (n.Build number children) = number < length m.productions.items
  NodeIsWithin other = Unit {0}

  -- the node is this one now: labels and attributes keep their places and numbers
  abbrev pub IsNodeNow : Node → Node → Type 0
  IsNodeNow node to =
      IsRenamedNode (λ (p q : Place). q ≡ p) (λ (a b : ℕ). b ≡ a) (IsNow m.productions.items) node to

  -- an equation, a local and what is forwarded to are these now
  pub record IsEquationNow (e to : Equation) : Type 0 where
    pub owner : to.owner ≡ e.owner
    pub offset : to.offset ≡ e.offset
    pub target : to.target ≡ e.target
    pub nodes : AllZip IsNodeNow e.nodes to.nodes

  pub record IsLocalNow (l to : Local) : Type 0 where
    pub label : to.label ≡ l.label
    pub owner : to.owner ≡ l.owner
    pub offset : to.offset ≡ l.offset
    pub nonterminal : IsNow m.nonterminals.items l.nonterminal to.nonterminal
    pub nodes : AllZip IsNodeNow l.nodes to.nodes

  pub record IsForwardNow (f to : Forward) : Type 0 where
    pub offset : to.offset ≡ f.offset
    pub nodes : AllZip IsNodeNow f.nodes to.nodes

  -- what each names is in the tables
  abbrev pub EquationIsWithin : Equation → Type 0
  EquationIsWithin e = All NodeIsWithin e.nodes

  pub record LocalIsWithin (l : Local) : Type 0 where
    pub nonterminal : l.nonterminal < length m.nonterminals.items
    pub nodes : All NodeIsWithin l.nodes
