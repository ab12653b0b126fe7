-- What is in one numbered value, in the numbers of another that has it too: of a host in the numbers of the host with extensions, or of
-- a host with one extension in those of the host with many. Owners are given by a function.
use Rattle.std.specs.Prelude.{◌≡◌, ℕ, List, Some, slice_get}
use Rattle.std.specs.List.{AllZip}
use Rattle.wb_base.specs.declared.symbol.Kind.{Kind}
use Rattle.wb_base.specs.declared.symbol.Kind.TheVariants as kind
use Rattle.wb_syntax_resolved.specs.declared.attributes.Attribute.{Attribute}
use Rattle.wb_syntax_resolved.specs.declared.attributes.Nonterminal.{Nonterminal}
use Rattle.wb_syntax_resolved.specs.declared.attributes.Occurrence.{Occurrence}
use Rattle.wb_syntax_resolved.specs.declared.equation.Equation.{Equation}
use Rattle.wb_syntax_resolved.specs.declared.equation.Place.{Place}
use Rattle.wb_syntax_resolved.specs.declared.equation.Place.TheVariants as place
use Rattle.wb_syntax_resolved.specs.declared.equation.Target.{Target}
use Rattle.wb_syntax_resolved.specs.declared.equation.Target.TheVariants as target
use Rattle.wb_syntax_resolved.specs.declared.production.Child.{Child}
use Rattle.wb_syntax_resolved.specs.declared.production.ChildKind.{ChildKind}
use Rattle.wb_syntax_resolved.specs.declared.production.ChildKind.TheVariants as child
use Rattle.wb_syntax_resolved.specs.declared.production.Forward.{Forward}
use Rattle.wb_syntax_resolved.specs.declared.production.Local.{Local}
use Rattle.wb_syntax_resolved.specs.declared.terminal.Preference.{Preference}
use Rattle.wb_syntax_resolved.specs.declared.terminal.Terminal.{Terminal}
use Rattle.wb_syntax_resolved.specs.Expression.{Node}
use Rattle.wb_syntax_resolved.specs.Once.{Entry}
use Rattle.wb_names_numbers_theory.specs.Numbering.{Numbering, Labels}
use Rattle.wb_names_numbers_theory.specs.Renaming.{AreRenamedNodes}

-- from which numbers, into which, and which owner each owner is there
pub record Move : Type 0 where
  pub from : Numbering
  pub to : Numbering
  pub owner_in : ℕ → ℕ

-- the first number has the name among the first names that the second has among the second, and its owner is that owner there
pub record IsMovedNumber (owner_in : ℕ → ℕ) (names others : List Entry) (number other : ℕ) : Type 0 where
  pub owner : ℕ
  pub name : List ℕ
  pub before : slice_get names number ≡ Some (owner, name)
  pub after : slice_get others other ≡ Some (owner_in owner, name)

module _ (m : Move) where
  -- the numbers of one nonterminal, of one terminal, of one attribute, of one production
  abbrev pub IsMovedNonterminalNumber : ℕ → ℕ → Type 0
  IsMovedNonterminalNumber number other = IsMovedNumber m.owner_in m.from.nonterminals m.to.nonterminals number other

  abbrev pub IsMovedTerminalNumber : ℕ → ℕ → Type 0
  IsMovedTerminalNumber number other = IsMovedNumber m.owner_in m.from.terminals m.to.terminals number other

  abbrev pub IsMovedAttributeNumber : ℕ → ℕ → Type 0
  IsMovedAttributeNumber number other = IsMovedNumber m.owner_in m.from.attributes m.to.attributes number other

  abbrev pub IsMovedProductionNumber : ℕ → ℕ → Type 0
  IsMovedProductionNumber number other = IsMovedNumber m.owner_in m.from.productions m.to.productions number other

  -- the kind in the other numbers
  abbrev pub IsMovedKind : Kind → Kind → Type 0
  IsMovedKind kind.Int to = to ≡ kind.Int
  IsMovedKind kind.Bool to = to ≡ kind.Bool
  IsMovedKind kind.Text to = to ≡ kind.Text
  IsMovedKind (kind.Tree number) to = (other : ℕ) × IsMovedNonterminalNumber number other × (to ≡ kind.Tree other)

  -- the kind of a child
  abbrev pub IsMovedChildKind : ChildKind → ChildKind → Type 0
  IsMovedChildKind (child.Terminal number) to = (other : ℕ) × IsMovedTerminalNumber number other × (to ≡ child.Terminal other)
  IsMovedChildKind (child.Value is) to = (other : Kind) × IsMovedKind is other × (to ≡ child.Value other)

  -- a child
  pub record IsMovedChild (c to : Child) : Type 0 where
    pub label : to.label ≡ c.label
    pub is_kind : IsMovedChildKind c.kind to.kind

  -- a place: a child keeps its own, and a local has that of its label
  abbrev pub IsMovedPlace : Labels → Labels → Place → Place → Type 0
  IsMovedPlace labels others (place.Child k) to = to ≡ place.Child k
  IsMovedPlace labels others (place.Local k) to =
      (other : ℕ) × IsMovedNumber m.owner_in labels.locals others.locals k other × (to ≡ place.Local other)

  -- nodes on a production with the first labels, and there with the second
  abbrev pub AreMovedNodes : Labels → Labels → List Node → List Node → Type 0
  AreMovedNodes labels others nodes to =
      AreRenamedNodes (IsMovedPlace labels others) IsMovedAttributeNumber IsMovedProductionNumber nodes to

  -- what an equation is for
  abbrev pub IsMovedTarget : Labels → Labels → Target → Target → Type 0
  IsMovedTarget labels others (target.Top attribute) to =
      (number : ℕ) × IsMovedAttributeNumber attribute number × (to ≡ target.Top number)
  IsMovedTarget labels others (target.Place at attribute) to =
      (other : Place) × (number : ℕ) × IsMovedPlace labels others at other × IsMovedAttributeNumber attribute number
      × (to ≡ target.Place other number)
  IsMovedTarget labels others (target.Forward attribute) to =
      (number : ℕ) × IsMovedAttributeNumber attribute number × (to ≡ target.Forward number)

  -- an equation
  pub record IsMovedEquation (labels others : Labels) (e to : Equation) : Type 0 where
    pub owner : to.owner ≡ m.owner_in e.owner
    pub offset : to.offset ≡ e.offset
    pub target : IsMovedTarget labels others e.target to.target
    pub nodes : AreMovedNodes labels others e.nodes to.nodes

  -- a local
  pub record IsMovedLocal (labels others : Labels) (l to : Local) : Type 0 where
    pub label : to.label ≡ l.label
    pub owner : to.owner ≡ m.owner_in l.owner
    pub offset : to.offset ≡ l.offset
    pub nonterminal : IsMovedNonterminalNumber l.nonterminal to.nonterminal
    pub nodes : AreMovedNodes labels others l.nodes to.nodes

  -- what a production forwards to
  pub record IsMovedForward (labels others : Labels) (f to : Forward) : Type 0 where
    pub offset : to.offset ≡ f.offset
    pub nodes : AreMovedNodes labels others f.nodes to.nodes

  -- a nonterminal
  pub record IsMovedNonterminal (n to : Nonterminal) : Type 0 where
    pub name : to.name ≡ n.name
    pub owner : to.owner ≡ m.owner_in n.owner
    pub closed : to.closed ≡ n.closed
    pub needs : AllZip IsMovedAttributeNumber n.forward_needs to.forward_needs

  -- an attribute
  pub record IsMovedAttribute (a to : Attribute) : Type 0 where
    pub name : to.name ≡ a.name
    pub owner : to.owner ≡ m.owner_in a.owner
    pub direction : to.direction ≡ a.direction
    pub is_kind : IsMovedKind a.kind to.kind

  -- an occurrence
  pub record IsMovedOccurrence (o to : Occurrence) : Type 0 where
    pub owner : to.owner ≡ m.owner_in o.owner
    pub attribute : IsMovedAttributeNumber o.attribute to.attribute
    pub nonterminal : IsMovedNonterminalNumber o.nonterminal to.nonterminal
    pub needs : AllZip IsMovedAttributeNumber o.needs to.needs

  -- a terminal
  pub record IsMovedTerminal (t to : Terminal) : Type 0 where
    pub name : to.name ≡ t.name
    pub owner : to.owner ≡ m.owner_in t.owner
    pub kind : to.kind ≡ t.kind
    pub pattern : to.pattern ≡ t.pattern

  -- a preference
  pub record IsMovedPreference (p to : Preference) : Type 0 where
    pub first : IsMovedTerminalNumber p.first to.first
    pub second : IsMovedTerminalNumber p.second to.second
