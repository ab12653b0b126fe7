-- The attributes of a host and its extensions: the host sees its own attribution of them, and each extension that of the host with it.
use Rattle.std.specs.Prelude.{◌≡◌, ℕ, suc, List, [], ◌∷◌, Some, All, map, slice_get}
use Rattle.wb_base.specs.Different.{Differ}
use Rattle.wb_syntax_resolved.specs.declared.attributes.Attribute.{Attribute}
use Rattle.wb_syntax_resolved.specs.declared.attributes.Nonterminal.{Nonterminal}
use Rattle.wb_syntax_resolved.specs.declared.attributes.Occurrence.{Occurrence}
use Rattle.wb_syntax_resolved.specs.declared.attribution.AttributionParts.{AttributionParts}
use Rattle.wb_syntax_resolved.specs.declared.equation.Equation.{Equation}
use Rattle.wb_syntax_resolved.specs.declared.production.Local.{Local}
use Rattle.wb_syntax_resolved.specs.declared.production.Production.{Production}
use Rattle.wb_syntax_resolved.specs.Numbered.{IsNumbered}
use Rattle.wb_syntax_resolved.specs.Owners.{Sees, IsOwner}
use Rattle.wb_compose_theory_attributes.specs.Numbers.{NumberMap}
use Rattle.wb_compose_theory_attributes.specs.Seen.{IsSeen}

-- an attribution, and the start of its grammar
pub record Rooted : Type 0 where
  pub attributes : AttributionParts
  pub start : ℕ

-- what owner k sees of a is s, with its start
pub record IsPart (s a : Rooted) (k : ℕ) : Type 0 where
  pub numbers : NumberMap
  pub seen : IsSeen s.attributes a.attributes k numbers
  pub start : numbers.nonterminal s.start ≡ a.start

-- it is one of the owners, and sees whose production this is
pub record MayStandOn (a : AttributionParts) (production : Production) (owner : ℕ) : Type 0 where
  pub is_owner : IsOwner a.extensions owner
  pub sees : Sees owner production.owner

-- what is written on a production is each of an owner who sees it, and no equation is there twice
pub record IsWrittenWithin (a : AttributionParts) (production : Production) : Type 0 where
  pub locals : All (λ (l : Local). MayStandOn a production l.owner) production.locals
  pub equations : All (λ (e : Equation). MayStandOn a production e.owner) production.equations
  pub once : Differ production.equations

-- each row is of the host or of one of the extensions, and no occurrence is there twice
pub record IsWithin (a : AttributionParts) : Type 0 where
  pub nonterminals : All (λ (r : Nonterminal). IsOwner a.extensions r.owner) a.nonterminals
  pub attributes : All (λ (r : Attribute). IsOwner a.extensions r.owner) a.attributes
  pub occurrences : All (λ (r : Occurrence). IsOwner a.extensions r.owner) a.occurrences
  pub productions : All (λ (r : Production). IsOwner a.extensions r.owner) a.productions
  pub written : All (IsWrittenWithin a) a.productions
  pub once : Differ a.occurrences

-- a is the union of a host and its extensions, each given as it is with the host alone: the extensions have different names, the host sees
-- the host, each extension sees what it is with the host, there is nothing else, and productions and attributes are numbered in order
pub record IsUnionOf (host : Rooted) (extensions : List Rooted) (a : Rooted) : Type 0 where
  pub names : map (λ (e : Rooted). e.attributes.extensions) extensions ≡ map (λ (name : List ℕ). name ∷ []) a.attributes.extensions
  pub differ : Differ a.attributes.extensions
  pub of_host : IsPart host a 0
  pub of_extension : (k : ℕ) (e : Rooted) → slice_get extensions k ≡ Some e → IsPart e a (suc k)
  pub within : IsWithin a.attributes
  pub numbered : IsNumbered a.attributes
