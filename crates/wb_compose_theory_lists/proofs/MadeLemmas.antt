-- The rows of which the lists of a union are made, and whose they are.
use Rattle.std.proofs.Common.{◌≡◌, ◌∙◌, ◌+◌, ℕ, zero, suc, List, Some, Contains, All, length, map, slice_get, refl}
use Rattle.std.proofs.Common.{sym, ap}
use Rattle.wb_lemmas.proofs.Elements.{all_contained}
use Rattle.wb_lemmas.proofs.Members.{contains_at, place_of}
use Rattle.wb_syntax_resolved.specs.declared.attributes.Attribute.{Attribute}
use Rattle.wb_syntax_resolved.specs.declared.production.Production.{Production}
use Rattle.wb_compose_theory_attributes.specs.Rows.{new_owner, new_attribute}
use Rattle.wb_compose_theory_attributes.proofs.SeenLemmas.{mapped}
use Rattle.wb_compose_theory_attributes.proofs.VertexLemmas.{contains_map}
use Rattle.wb_compose_theory_lists.specs.Additions.{Rows, Addition, IsOwn}
use Rattle.wb_compose_theory_lists.specs.Joined.{numbered}
use Rattle.wb_compose_theory_lists.specs.Numbers.{before_abstract, numbers_of}
use Rattle.wb_compose_theory_lists.specs.United.{host_production, own_production}
use Rattle.wb_compose_theory_lists.proofs.EachLemmas.{AreRows}
use Rattle.wb_compose_theory_lists.proofs.JoinedLemmas.{numbered_at, numbered_length}
use Rattle.wb_compose_theory_lists.proofs.RowLemmas.{are_rows, owned_new}

-- what is numbered comes from an element
pub numbered_from : {X Y : Type 0} (f : ℕ → X → Y) (number : ℕ) (xs : List X) (z : Y) → Contains (numbered f number xs) z
    → (i : ℕ) × (x : X) × Contains xs x × (z ≡ f i x)
numbered_from f number xs z has =
    let (i, at) = place_of (numbered f number xs) z has in
    let (x, there, same) = mapped (f (number + i)) (slice_get xs i) z (sym (numbered_at f number xs i) ∙ at) in
    (number + i, x, contains_at xs x i there, sym same)

pub new_owner_zero : (owner : ℕ) → new_owner 0 owner ≡ 0
new_owner_zero zero = refl
new_owner_zero (suc owner) = refl

-- rows of the host stay the host's
pub hosts_stay : {X : Type 0} (f : X → X) (owner_of : X → ℕ) → ((x : X) → owner_of (f x) ≡ new_owner 0 (owner_of x)) → (xs : List X) →
    (z : X)
    → Contains (map f xs) z → owner_of z ≡ 0
hosts_stay f owner_of moves xs z has =
    let (x, is, there) = contains_map f xs z has in ap owner_of is ∙ (moves x ∙ new_owner_zero (owner_of x))

module _ (host : Rows) (all : List Addition) (own : (l : ℕ) (y : Addition) → slice_get all l ≡ Some y → IsOwn y) where
  pub attribute_rows : AreRows all (λ l y. map (new_attribute (numbers_of host all l y) (suc l)) y.rows.attributes) (λ
      (r : Attribute). r.owner)
      (λ (y : Addition). length y.rows.attributes)
  attribute_rows =
      are_rows all (λ (r : Attribute). r.owner) (λ l y. new_attribute (numbers_of host all l y) (suc l)) (λ l y r. refl)
      (λ (y : Addition). y.rows.attributes) refl (λ l y at. (own l y at).attributes)

  abbrev lead_rows : ℕ → Addition → List Production
  lead_rows l y = numbered (own_production host all l y) (length host.productions) y.rows.productions

  abbrev follow_rows : ℕ → Addition → List Production
  follow_rows l y = numbered (own_production host all l y) (before_abstract host y) y.rows.abstract_productions

  abbrev leading : List Production
  leading = numbered (host_production host all) 0 host.productions

  abbrev following : List Production
  following = numbered (host_production host all) (length host.productions) host.abstract_productions

  owned_in : (l : ℕ) (y : Addition) (start : ℕ) (rows : List Production) → All (λ (r : Production). r.owner ≡ 1) rows → (z : Production)
      → Contains (numbered (own_production host all l y) start rows) z → z.owner ≡ suc l
  owned_in l y start rows each z has =
      let (i, r, there, is) = numbered_from (own_production host all l y) start rows z has in
      ap (λ (w : Production). w.owner) is ∙ owned_new l r.owner (all_contained (λ (w : Production). w.owner ≡ 1) rows r each there)

  pub lead_are : AreRows all lead_rows (λ (r : Production). r.owner) (λ (y : Addition). length y.rows.productions)
  lead_are = record {
    none = λ l. refl;
    owned = λ l y at z has. owned_in l y (length host.productions) y.rows.productions (own l y at).productions z has;
    count = λ l y. numbered_length (own_production host all l y) (length host.productions) y.rows.productions;
  }

  pub follow_are : AreRows all follow_rows (λ (r : Production). r.owner) (λ (y : Addition). length y.rows.abstract_productions)
  follow_are = record {
    none = λ l. refl;
    owned = λ l y at z has. owned_in l y (before_abstract host y) y.rows.abstract_productions (own l y at).abstract_productions z has;
    count = λ l y. numbered_length (own_production host all l y) (before_abstract host y) y.rows.abstract_productions;
  }

  pub hosts_are : (start : ℕ) (rows : List Production) (z : Production) → Contains (numbered (host_production host all) start rows) z
      → z.owner ≡ 0
  hosts_are start rows z has =
      let (i, r, there, is) = numbered_from (host_production host all) start rows z has in
      ap (λ (w : Production). w.owner) is ∙ new_owner_zero r.owner
