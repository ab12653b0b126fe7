-- What each name means where the name rules hold: the rules once more, each by what is there.
use Rattle.std.specs.Prelude.{◌≡◌, ◌≢◌, ◌⊎◌, ℕ, List, [], ◌++◌, Some, Contains, slice_get}
use Rattle.wb_syntax_resolved.specs.declared.attributes.Direction.{Direction}
use Rattle.wb_names_theory.specs.declared.declaration.Declaration.{Declaration}
use Rattle.wb_names_theory.specs.declared.declaration.Declaration.TheVariants as d
use Rattle.wb_names_theory.specs.declared.declaration.Labelled.{Labelled}
use Rattle.wb_names_theory.specs.declared.declaration.Site.{Site}
use Rattle.wb_names_theory.specs.declared.declaration.Site.TheVariants as site
use Rattle.wb_names_theory.specs.declared.declaration.Sort.{Sort}
use Rattle.wb_names_theory.specs.declared.declaration.Sort.TheVariants as sort
use Rattle.wb_names_theory.specs.declared.usage.LabelWanted.{LabelWanted}
use Rattle.wb_names_theory.specs.declared.usage.LabelWanted.TheVariants as label
use Rattle.wb_names_theory.specs.declared.usage.Usage.{Usage}
use Rattle.wb_names_theory.specs.declared.usage.Usage.TheVariants as u
use Rattle.wb_names_theory.specs.declared.usage.Wanted.{Wanted}
use Rattle.wb_names_theory.specs.declared.usage.Wanted.TheVariants as w
use Rattle.wb_names_theory.specs.Duplicate.{AreSame}
use Rattle.wb_names_theory.specs.Meaning.{IsSymbol, IsAttribute, Occurs, HasLabel, HasSite, Forwards, IsTree, IsLexeme}
use Rattle.wb_names_theory.specs.NamesOk.{Scope}
use Rattle.wb_names_theory.specs.Orphan.{Bounds, IsOwnSymbol, IsOwnAttribute, IsOwnOccurrence, IsOwnLocal, IsOfHost}
use Rattle.wb_names_theory.specs.WrongKind.{Suits, SuitsDirection}

-- declarations of the same thing are one
abbrev pub AreOnce : List Declaration → Type 0
AreOnce declared = (i j : ℕ) (one other : Declaration) → slice_get declared i ≡ Some one → slice_get declared j ≡ Some other
    → AreSame one other → i ≡ j

module _ (declared : List Declaration) where
  -- a symbol of this name is what the place asks for
  pub record SymbolFor (wanted : Wanted) (name : List ℕ) : Type 0 where
    pub is : Sort
    pub there : IsSymbol declared name is
    pub suits : Suits wanted is

  -- an attribute of this name is what the place asks for
  pub record AttributeFor (wanted : Wanted) (name : List ℕ) : Type 0 where
    pub direction : Direction
    pub there : IsAttribute declared name direction
    pub suits : SuitsDirection wanted direction

  -- the name is declared as what its place asks for
  abbrev pub IsMeant : Wanted → List ℕ → Type 0
  IsMeant w.Attribute name = AttributeFor w.Attribute name
  IsMeant w.Synthesized name = AttributeFor w.Synthesized name
  IsMeant w.Inherited name = AttributeFor w.Inherited name
  IsMeant other name = SymbolFor other name

  -- what has a label is what the place asks for
  abbrev pub SuitsLabel : LabelWanted → Labelled → Type 0
  SuitsLabel label.Tree is = (nonterminal : List ℕ) × IsTree declared is nonterminal
  SuitsLabel label.Lexeme is = IsLexeme declared is
  SuitsLabel label.Value is = ¬ IsLexeme declared is

  -- a label of the production is what the place asks for
  pub record LabelFor (production l : List ℕ) (wanted : LabelWanted) : Type 0 where
    pub is : Labelled
    pub there : HasLabel declared production l is
    pub suits : SuitsLabel wanted is

  -- the attribute occurs on the nonterminal of the tree at this site
  pub record AttributeAt (production attribute : List ℕ) (at : Site) : Type 0 where
    pub nonterminal : List ℕ
    pub there : HasSite declared production at nonterminal
    pub occurs : Occurs declared attribute nonterminal

  -- each name means what its place asks for
  pub record AreMeant (used : List Usage) : Type 0 where
    pub names : (name : List ℕ) (wanted : Wanted) → Contains used (u.Name name wanted) → IsMeant wanted name
    pub labels : (production l : List ℕ) (wanted : LabelWanted) → Contains used (u.Label production l wanted) → LabelFor production l wanted
    pub attributes : (production attribute : List ℕ) (at : Site) → Contains used (u.Attribute production attribute at)
        → AttributeAt production attribute at
    pub forward : (production attribute : List ℕ) → Contains used (u.Attribute production attribute site.Forward)
        → Forwards declared production
    pub needs : (attribute nonterminal : List ℕ) → Contains used (u.Needs attribute nonterminal) → Occurs declared attribute nonterminal

-- an extension says what it may within these bounds
pub record AreOwned (host own : List Declaration) (bounds : Bounds) : Type 0 where
  pub start : (name : List ℕ) → ¬ Contains own (d.Start name)
  pub extensible : (name : List ℕ) → ¬ Contains own (d.Extensible name)
  pub closed : (name : List ℕ) → ¬ Contains own (d.Closed name)
  pub layout : bounds.format ≡ 1 → (name : List ℕ) → ¬ Contains own (d.Symbol name sort.Layout)
  pub forward_needs : (name : List ℕ) → Contains own (d.ForwardNeeds name) → IsOwnSymbol own name
  pub occurrences : (attribute nonterminal : List ℕ) → IsOwnOccurrence own attribute nonterminal
      → IsOwnAttribute own attribute ⊎ IsOwnSymbol own nonterminal
  pub on_closed : (attribute nonterminal : List ℕ) → IsOwnOccurrence own attribute nonterminal → ¬ Contains bounds.hosts_closed nonterminal
  pub preferences : (first second : List ℕ) → Contains own (d.Preference first second) → IsOwnSymbol own first ⊎ IsOwnSymbol own second
  pub equations : (production attribute nonterminal : List ℕ) (at : Site) → Contains own (d.Equation production attribute at)
      → IsOfHost host production → HasSite (host ++ own) production at nonterminal
      → IsOwnOccurrence own attribute nonterminal ⊎ IsOwnLocal own production at

-- each name means what its place asks for, once, and an extension says what it may
pub record NamesHold (s : Scope) : Type 0 where
  pub once : AreOnce (s.host ++ s.own)
  pub meant : AreMeant (s.host ++ s.own) s.used
  pub placed : s.unplaced ≡ []
  pub owned : s.owner ≢ 0 → AreOwned s.host s.own s.bounds
