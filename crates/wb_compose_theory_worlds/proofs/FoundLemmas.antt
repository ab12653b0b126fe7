-- What is found among the rows of an attribution.
use Rattle.std.proofs.Common.{◌≡◌, ◌≤◌, ◌∙◌, ◌&&◌, ◌∷◌, [], ℕ, zero, suc, List, Option, Some, None, Bool, true, false, nat_eq, Contains}
use Rattle.std.proofs.Common.{refl, sym, subst, ap, inl, inr, arith, option_map}
use Rattle.std.proofs.lemmas.Bool.{eqb-true, eq-eqb}
use Rattle.std.proofs.lemmas.Option.{same_Some}
use Rattle.wb_lemmas.proofs.Members.{contains_first, contains_later, contains_cases, nothing_in}
use Rattle.wb_flow_theory.specs.Flow.{Leads, one, more}
use Rattle.wb_base.specs.declared.symbol.Kind.TheVariants as kind
use Rattle.wb_eval_theory.proofs.RuleLemmas.{both}
use Rattle.wb_syntax_resolved.specs.declared.attributes.Attribute.{Attribute}
use Rattle.wb_syntax_resolved.specs.declared.attributes.Direction.{Direction}
use Rattle.wb_syntax_resolved.specs.declared.attributes.Direction.TheVariants.{Synthesized, Inherited}
use Rattle.wb_syntax_resolved.specs.declared.attributes.Nonterminal.{Nonterminal}
use Rattle.wb_syntax_resolved.specs.declared.attributes.Occurrence.{Occurrence}
use Rattle.wb_syntax_resolved.specs.declared.production.ChildKind.{ChildKind}
use Rattle.wb_syntax_resolved.specs.declared.production.ChildKind.TheVariants as child_kind
use Rattle.wb_compose_theory_worlds.specs.Attributions.{same_owner, same_direction, goes_so, is_occurrence, occurrence_at, closed_in}
use Rattle.wb_compose_theory_worlds.specs.Attributions.{tree_in}
use Rattle.wb_compose_theory_worlds.specs.Worlds.{Owner, host, extension, owner_of, union, Has}
use Rattle.std.proofs.Common.{◌≡◌, ◌∙◌, ◌&&◌, ℕ, List, Option, Some, None, Bool, true, false, Contains}
use Rattle.std.proofs.Common.{refl, sym, subst, ap, inl, inr, option_map}
use Rattle.std.proofs.lemmas.Bool.{eqb-true}
use Rattle.std.proofs.lemmas.Option.{same_Some}
use Rattle.wb_lemmas.proofs.Members.{nothing_in}
use Rattle.wb_eval_theory.proofs.RuleLemmas.{both}
use Rattle.wb_syntax_resolved.specs.Owners as numbers
use Rattle.wb_compose_theory_worlds.specs.Attributions.{same_owner, goes_so, occurrence_at}
use Rattle.wb_compose_theory_worlds.specs.Attributions.{tree_in}
use Rattle.wb_compose_theory_worlds.specs.Worlds.{Owner, host, extension, owner_of, Sees}
use Rattle.wb_compose_theory_worlds.proofs.SightLemmas.{sees_itself}

pub has_owner : (n k : ℕ) → k ≤ n → Has (union n) (owner_of k)
has_owner n zero le = tt
has_owner n (suc k) le = omega (arith, le)

pub owner_again : (o : Owner) → same_owner o o ≡ true
owner_again host = refl
owner_again (extension k) = eq-eqb k k refl

pub direction_equal : (d e : Direction) → same_direction d e ≡ true → d ≡ e
direction_equal Synthesized Synthesized is = refl
direction_equal Synthesized Inherited is = absurd (cc is)
direction_equal Inherited Synthesized is = absurd (cc is)
direction_equal Inherited Inherited is = refl

pub direction_again : (d : Direction) → same_direction d d ≡ true
direction_again Synthesized = refl
direction_again Inherited = refl

-- what may be a nonterminal is closed
pub closed_to : (r : Option Nonterminal) → option_map (λ (z : Nonterminal). z.closed) r ≡ Some true → closed_in r ≡ true
closed_to None is = absurd (cc is)
closed_to (Some r) is = same_Some r.closed true is

pub closed_from : (r : Option Nonterminal) → closed_in r ≡ true → option_map (λ (z : Nonterminal). z.closed) r ≡ Some true
closed_from None is = absurd (cc is)
closed_from (Some r) is = ap Some is

-- which way an attribute goes
pub goes_to : (d : Direction) (r : Option Attribute) → option_map (λ (z : Attribute). z.direction) r ≡ Some d → goes_so d r ≡ true
goes_to d None is = absurd (cc is)
goes_to d (Some r) is = ap (same_direction d) (same_Some r.direction d is) ∙ direction_again d

pub goes_from : (d : Direction) (r : Option Attribute) → goes_so d r ≡ true → option_map (λ (z : Attribute). z.direction) r ≡ Some d
goes_from d None is = absurd (cc is)
goes_from d (Some r) is = ap Some (sym (direction_equal d r.direction is))

-- the occurrence that is found, and that one is
abbrev pub IsFor : ℕ → ℕ → Occurrence → Type 0
IsFor m x r = (m ≡ r.nonterminal) × (x ≡ r.attribute)

pub is_for : (m x : ℕ) (r : Occurrence) → is_occurrence m x r ≡ true → IsFor m x r
is_for m x r is =
    let (nonterminals, attributes) = both (nat_eq m r.nonterminal) (nat_eq x r.attribute) is in
    (eqb-true m r.nonterminal nonterminals, eqb-true x r.attribute attributes)

pub for_is : (m x : ℕ) (r : Occurrence) → IsFor m x r → is_occurrence m x r ≡ true
for_is m x r (nonterminal, attribute) =
    ap (λ b. b && nat_eq x r.attribute) (eq-eqb m r.nonterminal nonterminal) ∙ eq-eqb x r.attribute attribute

abbrev pub from_occurrence : ℕ → ℕ → Occurrence → List Occurrence → Bool → Option Occurrence
from_occurrence m x r rest is = elim is [ true ↦ Some r | false ↦ occurrence_at m x rest ]

pub found_occurrence : (m x : ℕ) (r : Occurrence) (rs : List Occurrence) → occurrence_at m x rs ≡ Some r → Contains rs r × IsFor m x r
found_occurrence m x r [] is = absurd (cc is)
found_occurrence m x r (s ∷ rest) is = cases (is_occurrence m x s) refl is (found_occurrence m x r rest) where
  cases : (same : Bool) → is_occurrence m x s ≡ same → from_occurrence m x s rest same ≡ Some r
      → (occurrence_at m x rest ≡ Some r → Contains rest r × IsFor m x r) → Contains (s ∷ rest) r × IsFor m x r
  cases true same is' later =
      let equal : s ≡ r = same_Some s r is' in
      subst (λ z. Contains (s ∷ rest) z × IsFor m x z) equal (contains_first s rest, is_for m x s same)
  cases false same is' later = let (listed, for) = later is' in (contains_later s r rest listed, for)

pub some_occurrence : (m x : ℕ) (r : Occurrence) (rs : List Occurrence) → Contains rs r → IsFor m x r
    → ((s : Occurrence) → Contains rs s → IsFor m x s → s ≡ r) → occurrence_at m x rs ≡ Some r
some_occurrence m x r [] listed for only = absurd (nothing_in r listed)
some_occurrence m x r (s ∷ rest) listed for only =
    cases (is_occurrence m x s) refl (λ later. some_occurrence m x r rest later for (λ z has. only z (contains_later s z rest has))) where
      cases : (same : Bool) → is_occurrence m x s ≡ same → (Contains rest r → occurrence_at m x rest ≡ Some r)
          → occurrence_at m x (s ∷ rest) ≡ Some r
      cases true same later = ap (from_occurrence m x s rest) same ∙ ap Some (only s (contains_first s rest) (is_for m x s same))
      cases false same later = elim (contains_cases s r rest listed) [
        | inl first ↦
            let yes = for_is m x s (subst (IsFor m x) (sym first) for) in
            absurd (cc (same, yes))
        | inr has ↦ ap (from_occurrence m x s rest) same ∙ later has
      ]

-- the trees that are there
pub tree_from : (m : ℕ) (k : Option ChildKind) → tree_in k ≡ Some m → k ≡ Some (child_kind.Value (kind.Tree m))
tree_from m None is = absurd (cc is)
tree_from m (Some (child_kind.Terminal t)) is = absurd (cc is)
tree_from m (Some (child_kind.Value kind.Int)) is = absurd (cc is)
tree_from m (Some (child_kind.Value kind.Bool)) is = absurd (cc is)
tree_from m (Some (child_kind.Value kind.Text)) is = absurd (cc is)
tree_from m (Some (child_kind.Value (kind.Tree k))) is = ap (λ z. Some (child_kind.Value (kind.Tree z))) (same_Some k m is)

-- a walk by edges that are edges of another graph
pub leads_map : {V : Type 0} {E F : V → V → Type 0} → ((v x : V) → E v x → F v x) → {v x : V} → Leads E v x → Leads F v x
leads_map each (one {v = v} {w = x} e) = one (each v x e)
leads_map each (more {w = y} {x = x} s e) = more (leads_map each s) (each y x e)

pub owner_equal : (o q : Owner) → same_owner o q ≡ true → o ≡ q
owner_equal host host is = refl
owner_equal host (extension k) is = absurd (cc is)
owner_equal (extension k) host is = absurd (cc is)
owner_equal (extension k) (extension l) is = ap extension (eqb-true k l is)

-- who sees whom by number does in the world
pub sees_to : (o q : ℕ) → numbers.Sees o q → Sees (owner_of o) (owner_of q)
sees_to o q (inl first) = subst (λ z. Sees (owner_of o) (owner_of z)) (sym first) tt
sees_to o q (inr same) = subst (λ z. Sees (owner_of o) (owner_of z)) (sym same) (sees_itself (owner_of o))
