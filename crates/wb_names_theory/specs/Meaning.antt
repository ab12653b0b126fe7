-- What names mean where these declarations are in sight.
use Rattle.std.specs.Prelude.{◌≡◌, ◌⊎◌, ℕ, List, Contains}
use Rattle.wb_syntax_resolved.specs.declared.attributes.Direction.{Direction}
use Rattle.wb_names_theory.specs.declared.declaration.Declaration.{Declaration}
use Rattle.wb_names_theory.specs.declared.declaration.Declaration.TheVariants as d
use Rattle.wb_names_theory.specs.declared.declaration.Labelled.{Labelled}
use Rattle.wb_names_theory.specs.declared.declaration.Labelled.TheVariants as label
use Rattle.wb_names_theory.specs.declared.declaration.Site.{Site}
use Rattle.wb_names_theory.specs.declared.declaration.Site.TheVariants as site
use Rattle.wb_names_theory.specs.declared.declaration.Sort.{Sort}
use Rattle.wb_names_theory.specs.declared.declaration.Sort.TheVariants as sort
use Rattle.wb_names_theory.specs.declared.usage.Wanted.{Wanted}
use Rattle.wb_names_theory.specs.declared.usage.Wanted.TheVariants as w

module _ (declared : List Declaration) where
  -- the name is declared as a terminal, layout, marker, nonterminal or production
  abbrev pub IsSymbol : List ℕ → Sort → Type 0
  IsSymbol name is = Contains declared (d.Symbol name is)

  -- the name is declared as an attribute whose values go this way
  abbrev pub IsAttribute : List ℕ → Direction → Type 0
  IsAttribute name direction = Contains declared (d.Attribute name direction)

  -- the name is declared in the name space that a place asks for: attributes, or all else
  abbrev pub IsDeclared : Wanted → List ℕ → Type 0
  IsDeclared w.Attribute name = (direction : Direction) × IsAttribute name direction
  IsDeclared w.Synthesized name = (direction : Direction) × IsAttribute name direction
  IsDeclared w.Inherited name = (direction : Direction) × IsAttribute name direction
  IsDeclared other name = (is : Sort) × IsSymbol name is

  -- the attribute occurs on the nonterminal
  abbrev pub Occurs : List ℕ → List ℕ → Type 0
  Occurs attribute nonterminal = Contains declared (d.Occurrence attribute nonterminal)

  -- the production has this nonterminal on its left
  abbrev pub HasLeft : List ℕ → List ℕ → Type 0
  HasLeft production nonterminal = Contains declared (d.Left production nonterminal)

  -- the production has this label
  abbrev pub HasLabel : List ℕ → List ℕ → Labelled → Type 0
  HasLabel production l is = Contains declared (d.Label production l is)

  -- the production forwards
  abbrev pub Forwards : List ℕ → Type 0
  Forwards production = Contains declared (d.Forward production)

  -- what has a label is a tree of this nonterminal
  abbrev pub IsTree : Labelled → List ℕ → Type 0
  IsTree is nonterminal =
      ((is ≡ label.Child nonterminal) ⊎ (is ≡ label.Local nonterminal)) × IsSymbol nonterminal sort.Nonterminal

  -- what has a label is a child that is a terminal or marker
  abbrev pub IsLexeme : Labelled → Type 0
  IsLexeme is = (name : List ℕ) × (is ≡ label.Child name) × (IsSymbol name sort.Terminal ⊎ IsSymbol name sort.Marker)

  -- the tree at this site of the production is one of this nonterminal
  abbrev pub HasSite : List ℕ → Site → List ℕ → Type 0
  HasSite production (site.Label l) nonterminal = (is : Labelled) × HasLabel production l is × IsTree is nonterminal
  HasSite production site.Top nonterminal = HasLeft production nonterminal × IsSymbol nonterminal sort.Nonterminal
  HasSite production site.Forward nonterminal = HasLeft production nonterminal × IsSymbol nonterminal sort.Nonterminal
