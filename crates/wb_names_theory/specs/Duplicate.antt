-- N2: nothing is declared twice. When that fails, and with which name.
use Rattle.std.specs.Prelude.{◌≡◌, ◌<◌, ℕ, List, Some, slice_get}
use Rattle.wb_syntax_resolved.specs.declared.attributes.Direction.{Direction}
use Rattle.wb_names_theory.specs.declared.declaration.Declaration.{Declaration}
use Rattle.wb_names_theory.specs.declared.declaration.Declaration.TheVariants as d
use Rattle.wb_names_theory.specs.declared.declaration.Labelled.{Labelled}
use Rattle.wb_names_theory.specs.declared.declaration.Site.{Site}
use Rattle.wb_names_theory.specs.declared.declaration.Sort.{Sort}
use Rattle.wb_names_theory.specs.declared.declaration.Sort.TheVariants as sort
use Rattle.wb_names_theory.specs.Meaning.{IsSymbol}

-- two declarations are of the same thing: a name of a name space, an occurrence, the left side or a label of a production, what an equation
-- of a production is for, that a production forwards, the start, or the same item once more
pub data AreSame : Declaration → Declaration → Type 0 where
  symbol : {name : List ℕ} {is other : Sort} → AreSame (d.Symbol name is) (d.Symbol name other)
  attribute : {name : List ℕ} {is other : Direction} → AreSame (d.Attribute name is) (d.Attribute name other)
  occurrence : {a n : List ℕ} → AreSame (d.Occurrence a n) (d.Occurrence a n)
  left : {p n m : List ℕ} → AreSame (d.Left p n) (d.Left p m)
  label : {p l : List ℕ} {is other : Labelled} → AreSame (d.Label p l is) (d.Label p l other)
  equation : {p a : List ℕ} {at : Site} → AreSame (d.Equation p a at) (d.Equation p a at)
  forward : {p : List ℕ} → AreSame (d.Forward p) (d.Forward p)
  start : {name other : List ℕ} → AreSame (d.Start name) (d.Start other)
  extensible : {name : List ℕ} → AreSame (d.Extensible name) (d.Extensible name)
  closed : {name : List ℕ} → AreSame (d.Closed name) (d.Closed name)
  forward_needs : {name : List ℕ} → AreSame (d.ForwardNeeds name) (d.ForwardNeeds name)
  preference : {first second : List ℕ} → AreSame (d.Preference first second) (d.Preference first second)

-- the name by which a second declaration is shown: what it declares, the attribute of an occurrence or equation, the label, the production
-- that forwards, the nonterminal, or the first of a preference
abbrev pub shown_name : Declaration → List ℕ
shown_name (d.Symbol name is) = name
shown_name (d.Attribute name direction) = name
shown_name (d.Occurrence a n) = a
shown_name (d.Left p n) = p
shown_name (d.Label p l is) = l
shown_name (d.Equation p a at) = a
shown_name (d.Forward p) = p
shown_name (d.Start name) = name
shown_name (d.Extensible name) = name
shown_name (d.Closed name) = name
shown_name (d.ForwardNeeds name) = name
shown_name (d.Preference name second) = name

-- labels count on a production that is declared, and all else counts
abbrev pub Counts : List Declaration → Declaration → Type 0
Counts declared (d.Label production l is) = IsSymbol declared production sort.Production
Counts declared other = Unit {0}

-- symbols of this name, of whatever sort, are one
abbrev pub IsSymbolOnce : List Declaration → List ℕ → Type 0
IsSymbolOnce declared name = (first second : ℕ) (is other : Sort) → slice_get declared first ≡ Some (d.Symbol name is)
    → slice_get declared second ≡ Some (d.Symbol name other) → first ≡ second

-- the production in which a label, an equation or a forward stands isn't declared twice itself; where it is, its own name shows that
abbrev pub IsProductionOnce : List Declaration → Declaration → Type 0
IsProductionOnce declared (d.Label production l is) = IsSymbolOnce declared production
IsProductionOnce declared (d.Equation production a at) = IsSymbolOnce declared production
IsProductionOnce declared (d.Forward production) = IsSymbolOnce declared production
IsProductionOnce declared other = Unit {0}

-- this name shows that something is declared twice
pub record FailsDuplicate (declared : List Declaration) (name : List ℕ) : Type 0 where
  pub first : ℕ
  pub second : ℕ
  pub order : first < second
  pub one : Declaration
  pub other : Declaration
  pub at_first : slice_get declared first ≡ Some one
  pub at_second : slice_get declared second ≡ Some other
  pub same : AreSame one other
  pub counts : Counts declared other
  pub production : IsProductionOnce declared other
  pub shown : name ≡ shown_name other
