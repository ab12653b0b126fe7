-- What each test answers of one usage, and what a refusal of it shows.
use Rattle.std.specs.Prelude.{◌≡◌, ℕ, Bool, true, false, List, Contains}
use Rattle.wb_syntax_resolved.specs.declared.attributes.Direction.{Direction}
use Rattle.wb_names_theory.specs.declared.declaration.Declaration.{Declaration}
use Rattle.wb_names_theory.specs.declared.declaration.Labelled.{Labelled}
use Rattle.wb_names_theory.specs.declared.declaration.Site.{Site}
use Rattle.wb_names_theory.specs.declared.declaration.Site.TheVariants as site
use Rattle.wb_names_theory.specs.declared.declaration.Sort.{Sort}
use Rattle.wb_names_theory.specs.declared.declaration.Sort.TheVariants as sort
use Rattle.wb_names_theory.specs.declared.refusal.NameRefusal.{NameRefusal}
use Rattle.wb_names_theory.specs.declared.refusal.NameRefusal.TheVariants as r
use Rattle.wb_names_theory.specs.declared.usage.LabelWanted.{LabelWanted}
use Rattle.wb_names_theory.specs.declared.usage.Usage.{Usage}
use Rattle.wb_names_theory.specs.declared.usage.Usage.TheVariants as u
use Rattle.wb_names_theory.specs.declared.usage.Wanted.{Wanted}
use Rattle.wb_names_theory.specs.Hold.{SuitsLabel}
use Rattle.wb_names_theory.specs.Meaning.{IsSymbol, IsAttribute, IsDeclared, Occurs, HasLabel, HasSite, Forwards}
use Rattle.wb_names_theory.specs.Unknown.{FailsUnknown}
use Rattle.wb_names_theory.specs.WrongKind.{FailsWrongKind, Suits, SuitsDirection, IsMisused}

-- what a usage asks for is declared, where the production or nonterminal of which it speaks is
abbrev pub IsKnown : List Declaration → Usage → Type 0
IsKnown declared (u.Name name wanted) = IsDeclared declared wanted name
IsKnown declared (u.Label production l wanted) = IsSymbol declared production sort.Production
    → (is : Labelled) × HasLabel declared production l is
IsKnown declared (u.Attribute production attribute at) = IsSymbol declared production sort.Production
    → ((nonterminal : List ℕ) → HasSite declared production at nonterminal → Occurs declared attribute nonterminal)
    × (at ≡ site.Forward → Forwards declared production)
IsKnown declared (u.Needs attribute nonterminal) = IsSymbol declared nonterminal sort.Nonterminal → Occurs declared attribute nonterminal

-- a symbol of this name, where there is one, is of a sort that the place may hold
abbrev pub SortsSuit : List Declaration → List ℕ → Wanted → Type 0
SortsSuit declared name wanted = (is : Sort) → IsSymbol declared name is → Suits wanted is

-- the values of an attribute of this name, where there is one, go a way that the place may hold
abbrev pub DirectionsSuit : List Declaration → List ℕ → Wanted → Type 0
DirectionsSuit declared name wanted = (direction : Direction) → IsAttribute declared name direction → SuitsDirection wanted direction

-- what a usage asks for is of the right kind
abbrev pub IsOfKind : List Declaration → Usage → Type 0
IsOfKind declared (u.Name name wanted) = SortsSuit declared name wanted × DirectionsSuit declared name wanted
IsOfKind declared (u.Label production l wanted) = IsSymbol declared production sort.Production
    → (is : Labelled) → HasLabel declared production l is → SuitsLabel declared wanted is
IsOfKind declared other = Unit {0}

-- the refusal shows this name as one that isn't declared, unless memory ran out
abbrev pub NamesUnknown : List ℕ → NameRefusal → Type 0
NamesUnknown shown (r.Unknown name) = name ≡ shown
NamesUnknown shown (r.NoMemory error) = Unit {0}
NamesUnknown shown other = ⊥

-- the refusal shows this name as one of another kind, unless memory ran out
abbrev pub NamesKind : List ℕ → NameRefusal → Type 0
NamesKind shown (r.WrongKind name) = name ≡ shown
NamesKind shown (r.NoMemory error) = Unit {0}
NamesKind shown other = ⊥

-- the refusal tells that something isn't declared, of which the usage is an example, unless memory ran out
abbrev pub ShowsUnknown : List Declaration → Usage → NameRefusal → Type 0
ShowsUnknown declared usage (r.Unknown name) = (used : List Usage) → Contains used usage → FailsUnknown declared used name
ShowsUnknown declared usage (r.NoMemory error) = Unit {0}
ShowsUnknown declared usage other = ⊥

-- the refusal tells that something isn't declared, unless memory ran out
abbrev pub IsUnknownIn : List Declaration → List Usage → NameRefusal → Type 0
IsUnknownIn declared used (r.Unknown name) = FailsUnknown declared used name
IsUnknownIn declared used (r.NoMemory error) = Unit {0}
IsUnknownIn declared used other = ⊥

-- the refusal tells that something is of another kind, of which the usage is an example, unless memory ran out
abbrev pub ShowsKind : List Declaration → Usage → NameRefusal → Type 0
ShowsKind declared usage (r.WrongKind name) =
    (used : List Usage) (unplaced : List (List ℕ)) → Contains used usage → FailsWrongKind declared used unplaced name
ShowsKind declared usage (r.NoMemory error) = Unit {0}
ShowsKind declared usage other = ⊥

-- the refusal tells that something is of another kind, unless memory ran out
abbrev pub IsWrongIn : List Declaration → List Usage → List (List ℕ) → NameRefusal → Type 0
IsWrongIn declared used unplaced (r.WrongKind name) = FailsWrongKind declared used unplaced name
IsWrongIn declared used unplaced (r.NoMemory error) = Unit {0}
IsWrongIn declared used unplaced other = ⊥

-- whether the tree at a site is the forwarded one of a production that doesn't forward
abbrev pub TellsForward : List Declaration → List ℕ → Site → Bool → Type 0
TellsForward declared production at true = (at ≡ site.Forward) × ¬ Forwards declared production
TellsForward declared production at false = at ≡ site.Forward → Forwards declared production

-- the refusal shows an attribute that doesn't occur on the nonterminal, unless memory ran out
abbrev pub ShowsAbsent : List Declaration → List ℕ → List ℕ → NameRefusal → Type 0
ShowsAbsent declared attribute nonterminal (r.Unknown name) = (name ≡ attribute) × ¬ Occurs declared attribute nonterminal
ShowsAbsent declared attribute nonterminal (r.NoMemory error) = Unit {0}
ShowsAbsent declared attribute nonterminal other = ⊥

-- whether what has a label is what a place of it asks for
abbrev pub TellsLabel : List Declaration → LabelWanted → Labelled → Bool → Type 0
TellsLabel declared wanted is true = SuitsLabel declared wanted is
TellsLabel declared wanted is false = IsMisused declared wanted is

-- the refusal shows what is where it has no place, unless memory ran out
abbrev pub ShowsPlace : List (List ℕ) → NameRefusal → Type 0
ShowsPlace unplaced (r.WrongKind name) = Contains unplaced name
ShowsPlace unplaced (r.NoMemory error) = Unit {0}
ShowsPlace unplaced other = ⊥
