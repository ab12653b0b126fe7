-- What is seen in an attribution is seen in one that has it, in new numbers.
use Rattle.std.proofs.Common.{◌≡◌, ◌⊎◌, ◌∙◌, ◌<◌, ◌≤◌, ℕ, zero, suc, Option, Some, None, option_map, slice_get, refl}
use Rattle.std.proofs.Common.{sym, ap, subst, inl, inr, arith}
use Rattle.std.specs.Prelude.{IsSome}
use Rattle.std.proofs.lemmas.Option.{slice_get-map, same_Some}
use Rattle.wb_base.specs.declared.symbol.Kind.{Kind}
use Rattle.wb_base.specs.declared.symbol.Kind.TheVariants as kind
use Rattle.wb_syntax_resolved.specs.declared.attributes.Attribute.{Attribute}
use Rattle.wb_syntax_resolved.specs.declared.attributes.Direction.{Direction}
use Rattle.wb_syntax_resolved.specs.declared.attributes.Nonterminal.{Nonterminal}
use Rattle.wb_syntax_resolved.specs.declared.attribution.AttributionParts.{AttributionParts}
use Rattle.wb_syntax_resolved.specs.declared.equation.Place.{Place}
use Rattle.wb_syntax_resolved.specs.declared.equation.Place.TheVariants as place
use Rattle.wb_syntax_resolved.specs.declared.production.Child.{Child}
use Rattle.wb_syntax_resolved.specs.declared.production.ChildKind.{ChildKind}
use Rattle.wb_syntax_resolved.specs.declared.production.ChildKind.TheVariants as child
use Rattle.wb_syntax_resolved.specs.declared.production.Local.{Local}
use Rattle.wb_syntax_resolved.specs.declared.production.Production.{Production}
use Rattle.wb_syntax_resolved.specs.Owners.{Sees}
use Rattle.wb_syntax_resolved.specs.Visible.{SeesNonterminal, SeesProduction, SeesAttribute, SeesOccurrence, SeesKind, SeesPlace, kind_at}
use Rattle.wb_syntax_resolved.specs.Visible.{owner_of_local, place_owner}
use Rattle.wb_compose_theory_attributes.specs.Numbers.{NumberMap, IsOneToOne}
use Rattle.wb_compose_theory_attributes.specs.Rows.{new_owner, new_kind, new_child_kind, new_child, new_nonterminal, new_attribute}
use Rattle.wb_compose_theory_attributes.specs.Rows.{new_occurrence}
use Rattle.wb_compose_theory_attributes.specs.Rows.{new_place, new_forward}
use Rattle.wb_compose_theory_attributes.specs.Seen.{Rises, IsSeenProduction, IsSeen, KeepsOrder}

-- rising numbers are one to one
cases_order : (i j : ℕ) → (i < j) ⊎ ((j < i) ⊎ (i ≡ j))
cases_order zero zero = inr (inr refl)
cases_order zero (suc j) = inl (omega arith)
cases_order (suc i) zero = inr (inl (omega arith))
cases_order (suc i) (suc j) = elim (cases_order i j) [
  | inl less ↦ inl (omega (arith, less))
  | inr (inl more) ↦ inr (inl (omega (arith, more)))
  | inr (inr same) ↦ inr (inr (ap suc same))
]

pub one_to_one : (f : ℕ → ℕ) → Rises f → (i j : ℕ) → f i ≡ f j → i ≡ j
one_to_one f rises i j same = elim (cases_order i j) [
  | inl less ↦ let more = rises i j less in absurd (omega (arith, more, same))
  | inr (inl less) ↦ let more = rises j i less in absurd (omega (arith, more, same))
  | inr (inr is) ↦ is
]

pub order_once : (t : NumberMap) → KeepsOrder t → IsOneToOne t
order_once t order = record {
  nonterminal = one_to_one t.nonterminal order.nonterminals;
  attribute = one_to_one t.attribute order.attributes;
  production = one_to_one t.production order.productions;
  local_in = λ p. one_to_one (t.local_in p) (order.locals p);
}

-- owners in new numbers
pub sees_new : (k owner other : ℕ) → Sees owner other → Sees (new_owner k owner) (new_owner k other)
sees_new k owner other (inl first) = inl (ap (new_owner k) first)
sees_new k owner other (inr same) = inr (ap (new_owner k) same)

pub new_seen : (k owner : ℕ) → Sees k (new_owner k owner)
new_seen k zero = inl refl
new_seen k (suc owner) = inr refl

pub new_within : (k bound owner : ℕ) → k ≤ bound → new_owner k owner ≤ bound
new_within k bound zero le = omega arith
new_within k bound (suc owner) le = le

-- the row that an equation of rows gives
pub mapped : {X Y : Type 0} (f : X → Y) (o : Option X) (y : Y) → option_map f o ≡ Some y → (x : X) × (o ≡ Some x) × (f x ≡ y)
mapped f None y is = absurd (cc is)
mapped f (Some x) y is = let equal : f x ≡ y = cc is in (x, refl, equal)

pub some_mapped : {X Y : Type 0} (f : X → Y) (o : Option X) (other : Option Y) → other ≡ option_map f o → IsSome o → IsSome other
some_mapped f None other is some = absurd (cc some)
some_mapped f (Some x) other is some = subst IsSome (sym is) refl

module _ (s a : AttributionParts) (k : ℕ) (t : NumberMap) (seen : IsSeen s a k t) where
  pub nonterminal_at : (m : ℕ) (r : Nonterminal) → slice_get s.nonterminals m ≡ Some r
      → slice_get a.nonterminals (t.nonterminal m) ≡ Some (new_nonterminal t k r)
  nonterminal_at m r at = seen.nonterminals m ∙ ap (option_map (new_nonterminal t k)) at

  pub attribute_at : (x : ℕ) (r : Attribute) → slice_get s.attributes x ≡ Some r
      → slice_get a.attributes (t.attribute x) ≡ Some (new_attribute t k r)
  attribute_at x r at = seen.attributes x ∙ ap (option_map (new_attribute t k)) at

  pub sees_nonterminal : (owner m : ℕ) → SeesNonterminal s owner m → SeesNonterminal a (new_owner k owner) (t.nonterminal m)
  sees_nonterminal owner m sees = record {
    nonterminal = new_nonterminal t k sees.nonterminal;
    is = nonterminal_at m sees.nonterminal sees.is;
    seen = sees_new k owner sees.nonterminal.owner sees.seen;
  }

  pub sees_attribute : (owner : ℕ) (d : Direction) (x : ℕ) → SeesAttribute s owner d x
      → SeesAttribute a (new_owner k owner) d (t.attribute x)
  sees_attribute owner d x sees = record {
    attribute = new_attribute t k sees.attribute;
    is = attribute_at x sees.attribute sees.is;
    goes = sees.goes;
    seen = sees_new k owner sees.attribute.owner sees.seen;
  }

  pub sees_production : (owner p : ℕ) → SeesProduction s owner p → SeesProduction a (new_owner k owner) (t.production p)
  sees_production owner p sees =
      let (there, at, same) = seen.productions p sees.production sees.is in
      record {
        production = there;
        is = at;
        seen = subst (Sees (new_owner k owner)) (sym same.owner) (sees_new k owner sees.production.owner sees.seen);
      }

  pub sees_occurrence : (owner : ℕ) (d : Direction) (x m : ℕ) → SeesOccurrence s owner d x m
      → SeesOccurrence a (new_owner k owner) d (t.attribute x) (t.nonterminal m)
  sees_occurrence owner d x m sees = record {
    attribute = sees_attribute owner d x sees.attribute;
    occurrence = new_occurrence t k sees.occurrence;
    listed = seen.occurrences sees.occurrence sees.listed;
    of_attribute = ap t.attribute sees.of_attribute;
    on_nonterminal = ap t.nonterminal sees.on_nonterminal;
    seen = sees_new k owner sees.occurrence.owner sees.seen;
  }

  pub sees_kind : (owner : ℕ) (is : Kind) → SeesKind s owner is → SeesKind a (new_owner k owner) (new_kind t is)
  sees_kind owner kind.Int sees = tt
  sees_kind owner kind.Bool sees = tt
  sees_kind owner kind.Text sees = tt
  sees_kind owner (kind.Tree m) sees = sees_nonterminal owner m sees

-- a production in new numbers
module _ (t : NumberMap) (k p : ℕ) (row there : Production) (same : IsSeenProduction t k p row there) where
  pub child_there : (i : ℕ) → slice_get there.children i ≡ option_map (new_child t) (slice_get row.children i)
  child_there i = ap (λ z. slice_get z i) same.children ∙ slice_get-map (new_child t) row.children i

  kind_of_child : (o : Option Child) → option_map (λ (c : Child). c.kind) (option_map (new_child t) o)
      ≡ option_map (new_child_kind t) (option_map (λ (c : Child). c.kind) o)
  kind_of_child None = refl
  kind_of_child (Some c) = refl

  kind_of_local : (x : ℕ) (is : ChildKind) (o : Option Local) → slice_get row.locals x ≡ o
      → option_map (λ (l : Local). child.Value (kind.Tree l.nonterminal)) o ≡ Some is
      → kind_at there (place.Local (t.local_in p x)) ≡ Some (new_child_kind t is)
  kind_of_local x is None at known = absurd (cc known)
  kind_of_local x is (Some l) at known =
      let equal : child.Value (kind.Tree l.nonterminal) ≡ is = same_Some (child.Value (kind.Tree l.nonterminal)) is known in
      ap (option_map (λ (z : Local). child.Value (kind.Tree z.nonterminal))) (same.locals x l at) ∙ ap (λ z. Some
      (new_child_kind t z)) equal

  -- what is at a place
  pub kind_new : (at : Place) (is : ChildKind) → kind_at row at ≡ Some is → kind_at there (new_place t p at) ≡ Some (new_child_kind t is)
  kind_new (place.Child i) is known =
      ap (option_map (λ (c : Child). c.kind)) (child_there i)
      ∙ (kind_of_child (slice_get row.children i) ∙ ap (option_map (new_child_kind t)) known)
  kind_new (place.Local x) is known = kind_of_local x is (slice_get row.locals x) refl known

  local_owner_new : (x : ℕ) (is : ChildKind) (o : Option Local) → slice_get row.locals x ≡ o
      → option_map (λ (l : Local). child.Value (kind.Tree l.nonterminal)) o ≡ Some is
      → place_owner there (place.Local (t.local_in p x)) ≡ new_owner k (owner_of_local row o)
  local_owner_new x is None at known = absurd (cc known)
  local_owner_new x is (Some l) at known = ap (owner_of_local there) (same.locals x l at)

  pub owner_new : (at : Place) (is : ChildKind) → kind_at row at ≡ Some is → place_owner there (new_place t p at) ≡ new_owner k
      (place_owner row at)
  owner_new (place.Child i) is known = same.owner
  owner_new (place.Local x) is known = local_owner_new x is (slice_get row.locals x) refl known

  pub sees_place : (owner : ℕ) (at : Place) (is : ChildKind) → SeesPlace row owner at is
      → SeesPlace there (new_owner k owner) (new_place t p at) (new_child_kind t is)
  sees_place owner at is sees = record {
    is = kind_new at is sees.is;
    seen = subst (Sees (new_owner k owner)) (sym (owner_new at is sees.is)) (sees_new k owner (place_owner row at) sees.seen);
  }

  pub forwards_new : IsSome row.forward → IsSome there.forward
  forwards_new = some_mapped (new_forward t p) row.forward there.forward same.forward
