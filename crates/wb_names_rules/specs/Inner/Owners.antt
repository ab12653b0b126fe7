-- What each declaration of an extension may be, where the first declarations are its host's and the others its own.
use Rattle.std.specs.Prelude.{◌≡◌, ◌≢◌, ◌⊎◌, ℕ, List, Contains, take, drop}
use Rattle.wb_names_theory.specs.declared.declaration.Declaration.{Declaration}
use Rattle.wb_names_theory.specs.declared.declaration.Declaration.TheVariants as d
use Rattle.wb_names_theory.specs.declared.declaration.Labelled.{Labelled}
use Rattle.wb_names_theory.specs.declared.declaration.Labelled.TheVariants.{Local}
use Rattle.wb_names_theory.specs.declared.declaration.Site.{Site}
use Rattle.wb_names_theory.specs.declared.declaration.Sort.TheVariants.{Layout}
use Rattle.wb_names_theory.specs.declared.refusal.NameRefusal.{NameRefusal}
use Rattle.wb_names_theory.specs.declared.refusal.NameRefusal.TheVariants as r
use Rattle.wb_names_theory.specs.Meaning.{HasSite}
use Rattle.wb_names_theory.specs.Orphan.{Bounds, IsOwnSymbol, IsOwnAttribute, IsOwnOccurrence, IsOwnLocal, IsOfHost, FailsOrphan}

-- an extension may declare this occurrence, within these bounds
pub record MayOccur (own : List Declaration) (bounds : Bounds) (a n : List ℕ) : Type 0 where
  pub is_own : IsOwnAttribute own a ⊎ IsOwnSymbol own n
  pub is_open : ¬ Contains bounds.hosts_closed n

-- an extension may write an equation on this production, for this attribute of the tree at this site
abbrev pub MayWrite : List Declaration → ℕ → List ℕ → List ℕ → Site → Type 0
MayWrite declared from p a at = IsOfHost (take from declared) p → (n : List ℕ) → HasSite declared p at n
    → IsOwnOccurrence (drop from declared) a n ⊎ IsOwnLocal (drop from declared) p at

-- an extension may declare this, within these bounds
abbrev pub MayDeclare : List Declaration → ℕ → Bounds → Declaration → Type 0
MayDeclare declared from bounds (d.Start name) = ⊥
MayDeclare declared from bounds (d.Extensible name) = ⊥
MayDeclare declared from bounds (d.Closed name) = ⊥
MayDeclare declared from bounds (d.Symbol name is) = bounds.format ≡ 1 → is ≢ Layout
MayDeclare declared from bounds (d.ForwardNeeds name) = IsOwnSymbol (drop from declared) name
MayDeclare declared from bounds (d.Occurrence a n) = MayOccur (drop from declared) bounds a n
MayDeclare declared from bounds (d.Preference first second) =
    IsOwnSymbol (drop from declared) first ⊎ IsOwnSymbol (drop from declared) second
MayDeclare declared from bounds (d.Equation p a at) = MayWrite declared from p a at
MayDeclare declared from bounds other = Unit {0}

-- the refusal tells that an extension says what it may not, of which its own declaration is an example, unless memory ran out
abbrev pub ShowsOrphan : List Declaration → ℕ → Bounds → Declaration → NameRefusal → Type 0
ShowsOrphan declared from bounds one (r.Orphan name) = Contains (drop from declared) one
    → FailsOrphan (take from declared) (drop from declared) bounds name
ShowsOrphan declared from bounds one (r.NoMemory error) = Unit {0}
ShowsOrphan declared from bounds one other = ⊥

-- the refusal tells that an extension says what it may not, unless memory ran out
abbrev pub IsOrphanIn : List Declaration → ℕ → Bounds → NameRefusal → Type 0
IsOrphanIn declared from bounds (r.Orphan name) = FailsOrphan (take from declared) (drop from declared) bounds name
IsOrphanIn declared from bounds (r.NoMemory error) = Unit {0}
IsOrphanIn declared from bounds other = ⊥

-- a label is that of a local
abbrev pub IsLocal : Labelled → Type 0
IsLocal is = (n : List ℕ) × (is ≡ Local n)

-- the refusal shows this name as one of what an extension may not say, unless memory ran out
abbrev pub NamesOrphan : List ℕ → NameRefusal → Type 0
NamesOrphan shown (r.Orphan name) = name ≡ shown
NamesOrphan shown (r.NoMemory error) = Unit {0}
NamesOrphan shown other = ⊥

-- the refusal shows this name, and this holds, unless memory ran out
abbrev pub IsOrphanIf : Type 0 → List ℕ → NameRefusal → Type 0
IsOrphanIf P shown (r.Orphan name) = (name ≡ shown) × P
IsOrphanIf P shown (r.NoMemory error) = Unit {0}
IsOrphanIf P shown other = ⊥

-- an occurrence is neither of an own attribute nor on an own nonterminal
abbrev pub IsForeignOccurrence : List Declaration → List ℕ → List ℕ → Type 0
IsForeignOccurrence own a n = (¬ IsOwnAttribute own a) × (¬ IsOwnSymbol own n)

-- a preference has no own terminal
abbrev pub IsForeignPreference : List Declaration → List ℕ → List ℕ → Type 0
IsForeignPreference own first second = (¬ IsOwnSymbol own first) × (¬ IsOwnSymbol own second)

-- an own local of a production has this label
abbrev pub HasOwnLocal : List Declaration → List ℕ → List ℕ → Type 0
HasOwnLocal own p l = (n : List ℕ) × Contains own (d.Label p l (Local n))

-- an equation on a host's production is for no own occurrence and no own local
pub record IsForeignEquation (declared : List Declaration) (from : ℕ) (p a : List ℕ) (at : Site) : Type 0 where
  pub of_host : IsOfHost (take from declared) p
  pub nonterminal : List ℕ
  pub there : HasSite declared p at nonterminal
  pub no_occurrence : ¬ IsOwnOccurrence (drop from declared) a nonterminal
  pub no_local : ¬ IsOwnLocal (drop from declared) p at
