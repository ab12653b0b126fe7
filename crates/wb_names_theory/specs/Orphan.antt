-- N3: what an extension may say, of its own names and of its host's. When that fails, and with which name.
use Rattle.std.specs.Prelude.{◌≡◌, ℕ, List, ◌++◌, Contains}
use Rattle.wb_syntax_resolved.specs.declared.attributes.Direction.{Direction}
use Rattle.wb_names_theory.specs.declared.declaration.Declaration.{Declaration}
use Rattle.wb_names_theory.specs.declared.declaration.Declaration.TheVariants as d
use Rattle.wb_names_theory.specs.declared.declaration.Labelled.TheVariants as label
use Rattle.wb_names_theory.specs.declared.declaration.Site.{Site}
use Rattle.wb_names_theory.specs.declared.declaration.Site.TheVariants as site
use Rattle.wb_names_theory.specs.declared.declaration.Sort.{Sort}
use Rattle.wb_names_theory.specs.declared.declaration.Sort.TheVariants as sort
use Rattle.wb_names_theory.specs.Meaning.{HasSite}

-- these declare a symbol of this name
abbrev pub IsOwnSymbol : List Declaration → List ℕ → Type 0
IsOwnSymbol own name = (is : Sort) × Contains own (d.Symbol name is)

-- these declare an attribute of this name
abbrev pub IsOwnAttribute : List Declaration → List ℕ → Type 0
IsOwnAttribute own name = (direction : Direction) × Contains own (d.Attribute name direction)

-- these declare that the attribute occurs on the nonterminal
abbrev pub IsOwnOccurrence : List Declaration → List ℕ → List ℕ → Type 0
IsOwnOccurrence own attribute nonterminal = Contains own (d.Occurrence attribute nonterminal)

-- the tree at this site of the production is a local that these declare
abbrev pub IsOwnLocal : List Declaration → List ℕ → Site → Type 0
IsOwnLocal own production (site.Label l) =
    (nonterminal : List ℕ) × Contains own (d.Label production l (label.Local nonterminal))
IsOwnLocal own production other = ⊥

-- the production is the host's
abbrev pub IsOfHost : List Declaration → List ℕ → Type 0
IsOfHost host production = Contains host (d.Symbol production sort.Production)

-- what bounds an extension: the nonterminals that its host closed, and the format of its file
pub record Bounds : Type 0 where
  pub hosts_closed : List (List ℕ)
  pub format : ℕ

-- this name shows that an extension, which declares its own beside its host's, says what it may not within these bounds
pub data FailsOrphan (host own : List Declaration) (bounds : Bounds) (name : List ℕ) : Type 0 where
  -- it has no start, no extensible nonterminal and no closed one, and in format 1 no layout
  start : Contains own (d.Start name) → FailsOrphan host own bounds name
  extensible : Contains own (d.Extensible name) → FailsOrphan host own bounds name
  closed : Contains own (d.Closed name) → FailsOrphan host own bounds name
  layout : bounds.format ≡ 1 → Contains own (d.Symbol name sort.Layout) → FailsOrphan host own bounds name
  -- the flow type of a forward is for its own nonterminal
  forward_needs : Contains own (d.ForwardNeeds name) → ¬ IsOwnSymbol own name → FailsOrphan host own bounds name
  -- an occurrence is of its own attribute or on its own nonterminal
  occurrence : {nonterminal : List ℕ} → IsOwnOccurrence own name nonterminal → ¬ IsOwnAttribute own name
      → ¬ IsOwnSymbol own nonterminal → FailsOrphan host own bounds name
  -- and not on a closed nonterminal of the host
  on_closed : {nonterminal : List ℕ} → IsOwnOccurrence own name nonterminal → Contains bounds.hosts_closed nonterminal
      → FailsOrphan host own bounds name
  -- a preference has its own terminal
  preference : {second : List ℕ} → Contains own (d.Preference name second) → ¬ IsOwnSymbol own name
      → ¬ IsOwnSymbol own second → FailsOrphan host own bounds name
  -- an equation on a host's production is for an occurrence that it declared, or for a local that it declared there
  equation : {production nonterminal : List ℕ} {at : Site} → Contains own (d.Equation production name at)
      → IsOfHost host production → HasSite (host ++ own) production at nonterminal → ¬ IsOwnOccurrence own name nonterminal
      → ¬ IsOwnLocal own production at → FailsOrphan host own bounds name
