-- Views of an attribution: what each owner sees of it, and where each row comes from.
use Rattle.std.proofs.Common.{◌≡◌, ◌∙◌, ◌≤◌, ℕ, zero, suc, Some, slice_get, length, refl, sym, subst, inl, inr, arith}
use Rattle.wb_lemmas.proofs.Places.{at_once}
use Rattle.wb_syntax_resolved.specs.declared.attributes.Attribute.{Attribute}
use Rattle.wb_syntax_resolved.specs.declared.attributes.Nonterminal.{Nonterminal}
use Rattle.wb_syntax_resolved.specs.declared.attribution.AttributionParts.{AttributionParts}
use Rattle.wb_syntax_resolved.specs.declared.production.Local.{Local}
use Rattle.wb_syntax_resolved.specs.declared.production.Production.{Production}
use Rattle.wb_syntax_resolved.specs.Attribution.{IsAttribution}
use Rattle.wb_syntax_resolved.specs.Owners.{Sees, IsOwner}
use Rattle.wb_compose_theory_attributes.specs.Numbers.{NumberMap}
use Rattle.wb_compose_theory_attributes.specs.Rows.{new_owner, new_nonterminal, new_attribute, new_local}
use Rattle.wb_compose_theory_attributes.specs.Seen.{IsSeenProduction, IsSeen}
use Rattle.wb_compose_theory_attributes.proofs.SeenLemmas.{nonterminal_at, attribute_at}

-- the number that an owner has in an attribution of its own: the host has none but itself, and an extension is the only one
abbrev pub number_alone : ℕ → ℕ
number_alone zero = 0
number_alone (suc k) = 1

-- what owner k sees of a: an attribution of a host, or of a host with one extension where k isn't the host
pub record View (a : AttributionParts) (k : ℕ) : Type 0 where
  pub s : AttributionParts
  pub is : IsAttribution s
  pub t : NumberMap
  pub seen : IsSeen s a k t
  pub count : length s.extensions ≡ number_alone k

number_one : (k : ℕ) → number_alone k ≤ 1
number_one zero = omega arith
number_one (suc k) = omega arith

number_none : (k : ℕ) → k ≡ 0 → number_alone k ≡ 0
number_none zero is = refl
number_none (suc k) is = absurd (cc is)

module _ (a : AttributionParts) (k : ℕ) (v : View a k) where
  one : length v.s.extensions ≤ 1
  one = subst (λ z. z ≤ 1) (sym v.count) (number_one k)

  alone : k ≡ 0 → length v.s.extensions ≡ 0
  alone is = v.count ∙ number_none k is

  -- who sees whom in a sees whom in the view
  pub sees_back : (owner other : ℕ) → IsOwner v.s.extensions owner → IsOwner v.s.extensions other
      → Sees (new_owner k owner) (new_owner k other) → Sees owner other
  sees_back owner zero is is' sees = inl refl
  sees_back (suc owner) (suc other) is is' sees = let first = one in inr (omega (arith, is, is', first))
  sees_back zero (suc other) is is' (inl host) = let none = alone host in absurd (omega (arith, none, is'))
  sees_back zero (suc other) is is' (inr host) = let none = alone host in absurd (omega (arith, none, is'))

  -- two owners of the view who are one in a are one
  pub owner_back : (owner other : ℕ) → IsOwner v.s.extensions owner → IsOwner v.s.extensions other → new_owner k owner ≡ new_owner k other
      → owner ≡ other
  owner_back zero zero is is' same = refl
  owner_back (suc owner) (suc other) is is' same = let first = one in omega (arith, is, is', first)
  owner_back zero (suc other) is is' same = let none = alone (sym same) in absurd (omega (arith, none, is'))
  owner_back (suc owner) zero is is' same = let none = alone same in absurd (omega (arith, none, is))

  -- a row of a that k sees, in the view
  pub nonterminal_back : (number : ℕ) (r : Nonterminal) → slice_get a.nonterminals number ≡ Some r → Sees k r.owner
      → (m : ℕ) × (from : Nonterminal) × (slice_get v.s.nonterminals m ≡ Some from) × (number ≡ v.t.nonterminal m)
      × (new_nonterminal v.t k from ≡ r)
  nonterminal_back number r at sees =
      let (m, from, there, is) = v.seen.nonterminals_from number r at sees in
      let again = subst (λ z. slice_get a.nonterminals z ≡ Some r) is at in
      let same = at_once a.nonterminals (v.t.nonterminal m) (new_nonterminal v.t k from) r
      (nonterminal_at v.s a k v.t v.seen m from there) again in
      (m, from, there, is, same)

  pub attribute_back : (number : ℕ) (r : Attribute) → slice_get a.attributes number ≡ Some r → Sees k r.owner
      → (x : ℕ) × (from : Attribute) × (slice_get v.s.attributes x ≡ Some from) × (number ≡ v.t.attribute x)
      × (new_attribute v.t k from ≡ r)
  attribute_back number r at sees =
      let (x, from, there, is) = v.seen.attributes_from number r at sees in
      let again = subst (λ z. slice_get a.attributes z ≡ Some r) is at in
      let same = at_once a.attributes (v.t.attribute x) (new_attribute v.t k from) r (attribute_at v.s a k v.t v.seen x from there) again in
      (x, from, there, is, same)

  pub production_back : (number : ℕ) (there : Production) → slice_get a.productions number ≡ Some there → Sees k there.owner
      → (p : ℕ) × (row : Production) × (slice_get v.s.productions p ≡ Some row) × (number ≡ v.t.production p)
      × IsSeenProduction v.t k p row there
  production_back number there at sees =
      let (p, row, has, is) = v.seen.productions_from number there at sees in
      let again = subst (λ z. slice_get a.productions z ≡ Some there) is at in
      let (other, at', same) = v.seen.productions p row has in
      let equal = at_once a.productions (v.t.production p) other there at' again in
      (p, row, has, is, subst (IsSeenProduction v.t k p row) equal same)

  pub local_back : (p : ℕ) (row there : Production) → IsSeenProduction v.t k p row there → (y : ℕ) (l : Local)
      → slice_get there.locals y ≡ Some l → Sees k l.owner
      → (x : ℕ) × (from : Local) × (slice_get row.locals x ≡ Some from) × (y ≡ v.t.local_in p x) × (new_local v.t p k from ≡ l)
  local_back p row there same y l at sees =
      let (x, from, has, is) = same.locals_from y l at sees in
      let again = subst (λ z. slice_get there.locals z ≡ Some l) is at in
      let equal = at_once there.locals (v.t.local_in p x) (new_local v.t p k from) l (same.locals x from has) again in
      (x, from, has, is, equal)
