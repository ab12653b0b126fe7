-- What one owner sees of an attribution: the host's names and its own, in numbers of its own.
use Rattle.std.specs.Prelude.{◌≡◌, ◌<◌, ℕ, Some, Contains, map, option_map, slice_get}
use Rattle.wb_syntax_resolved.specs.declared.attributes.Attribute.{Attribute}
use Rattle.wb_syntax_resolved.specs.declared.attributes.Nonterminal.{Nonterminal}
use Rattle.wb_syntax_resolved.specs.declared.attributes.Occurrence.{Occurrence}
use Rattle.wb_syntax_resolved.specs.declared.attribution.AttributionParts.{AttributionParts}
use Rattle.wb_syntax_resolved.specs.declared.equation.Equation.{Equation}
use Rattle.wb_syntax_resolved.specs.declared.production.Local.{Local}
use Rattle.wb_syntax_resolved.specs.declared.production.Production.{Production}
use Rattle.wb_syntax_resolved.specs.Owners.{Sees}
use Rattle.wb_compose_theory_attributes.specs.Numbers.{NumberMap}
use Rattle.wb_compose_theory_attributes.specs.Rows.{new_owner, new_child, new_nonterminal, new_attribute, new_occurrence, new_equation}
use Rattle.wb_compose_theory_attributes.specs.Rows.{new_local}
use Rattle.wb_compose_theory_attributes.specs.Rows.{new_forward}

-- new numbers rise
abbrev pub Rises : (ℕ → ℕ) → Type 0
Rises f = (i j : ℕ) → i < j → f i < f j

-- new numbers keep the order of nonterminals, attributes, productions, and locals of a production
pub record KeepsOrder (t : NumberMap) : Type 0 where
  pub nonterminals : Rises t.nonterminal
  pub attributes : Rises t.attribute
  pub productions : Rises t.production
  pub locals : (p : ℕ) → Rises (t.local_in p)

-- the second production is what the first, which has this number, is in new numbers; it may have further locals and equations, and owner k
-- sees none of these
pub record IsSeenProduction (t : NumberMap) (k p : ℕ) (production there : Production) : Type 0 where
  pub name : there.name ≡ production.name
  pub owner : there.owner ≡ new_owner k production.owner
  pub role : there.role ≡ production.role
  pub left : there.left ≡ t.nonterminal production.left
  pub children : there.children ≡ map (new_child t) production.children
  pub forward : there.forward ≡ option_map (new_forward t p) production.forward
  pub locals : (x : ℕ) (l : Local) → slice_get production.locals x ≡ Some l
      → slice_get there.locals (t.local_in p x) ≡ Some (new_local t p k l)
  pub locals_from : (y : ℕ) (l : Local) → slice_get there.locals y ≡ Some l → Sees k l.owner
      → (x : ℕ) × (from : Local) × (slice_get production.locals x ≡ Some from) × (y ≡ t.local_in p x)
  pub equations : (e : Equation) → Contains production.equations e → Contains there.equations (new_equation t p k e)
  pub equations_from : (e : Equation) → Contains there.equations e → Sees k e.owner
      → (from : Equation) × Contains production.equations from × (e ≡ new_equation t p k from)

-- what owner k sees of the attribution a is the attribution s, whose numbers these are in a
pub record IsSeen (s a : AttributionParts) (k : ℕ) (t : NumberMap) : Type 0 where
  pub order : KeepsOrder t
  pub nonterminals : (m : ℕ) → slice_get a.nonterminals (t.nonterminal m) ≡ option_map (new_nonterminal t k) (slice_get s.nonterminals m)
  pub nonterminals_from : (number : ℕ) (r : Nonterminal) → slice_get a.nonterminals number ≡ Some r → Sees k r.owner
      → (m : ℕ) × (from : Nonterminal) × (slice_get s.nonterminals m ≡ Some from) × (number ≡ t.nonterminal m)
  pub attributes : (x : ℕ) → slice_get a.attributes (t.attribute x) ≡ option_map (new_attribute t k) (slice_get s.attributes x)
  pub attributes_from : (number : ℕ) (r : Attribute) → slice_get a.attributes number ≡ Some r → Sees k r.owner
      → (x : ℕ) × (from : Attribute) × (slice_get s.attributes x ≡ Some from) × (number ≡ t.attribute x)
  pub occurrences : (r : Occurrence) → Contains s.occurrences r → Contains a.occurrences (new_occurrence t k r)
  pub occurrences_from : (r : Occurrence) → Contains a.occurrences r → Sees k r.owner
      → (from : Occurrence) × Contains s.occurrences from × (r ≡ new_occurrence t k from)
  pub productions : (p : ℕ) (production : Production) → slice_get s.productions p ≡ Some production
      → (there : Production) × (slice_get a.productions (t.production p) ≡ Some there) × IsSeenProduction t k p production there
  pub productions_from : (number : ℕ) (there : Production) → slice_get a.productions number ≡ Some there → Sees k there.owner
      → (p : ℕ) × (from : Production) × (slice_get s.productions p ≡ Some from) × (number ≡ t.production p)
