-- What an owner sees of the nonterminals, attributes and occurrences of a union is what is there where it is alone with the host.
use Rattle.std.proofs.Common.{◌≡◌, ◌∙◌, ◌++◌, ◌∷◌, [], ℕ, suc, List, Some, Contains, All, length, map, option_map, slice_get}
use Rattle.std.proofs.Common.{refl, sym, ap}
use Rattle.std.proofs.lemmas.List.{append-nil, length-map, map-append}
use Rattle.std.proofs.lemmas.Option.{slice_get-map}
use Rattle.wb_lemmas.proofs.Elements.{all_contained}
use Rattle.wb_syntax_resolved.specs.declared.attributes.Attribute.{Attribute}
use Rattle.wb_syntax_resolved.specs.declared.attributes.Nonterminal.{Nonterminal}
use Rattle.wb_syntax_resolved.specs.Owners.{Sees}
use Rattle.wb_compose_theory_attributes.specs.Numbers.{NumberMap}
use Rattle.wb_compose_theory_attributes.specs.Rows.{new_owner, new_nonterminal, new_attribute}
use Rattle.wb_compose_theory_attributes.proofs.SeenLemmas.{mapped}
use Rattle.wb_compose_theory_attributes.proofs.VertexLemmas.{contains_map}
use Rattle.wb_compose_theory_lists.specs.Additions.{Rows, Addition, nothing, IsOwn}
use Rattle.wb_compose_theory_lists.specs.Joined.{joined}
use Rattle.wb_compose_theory_lists.specs.Numbers.{numbers_of}
use Rattle.wb_compose_theory_lists.specs.United.{host_numbers, united_nonterminals, united_attributes, each_nonterminals}
use Rattle.wb_compose_theory_lists.specs.United.{each_attributes}
use Rattle.wb_compose_theory_lists.proofs.EachLemmas.{IsView, of_host, of_own, member_of, AreRows, placed, placed_from}
use Rattle.wb_compose_theory_lists.proofs.EachLemmas.{grouped_placed, grouped_from}
use Rattle.wb_compose_theory_lists.proofs.NumberLemmas.{h, u, v, twice_host, twice_own}
use Rattle.wb_compose_theory_lists.proofs.TwiceLemmas.{map_twice, host_owners, own_owners, nonterminal_twice, attribute_twice}

-- an extension's rows in new numbers are its own
pub owned_new : (l owner : ℕ) → owner ≡ 1 → new_owner (suc l) owner ≡ suc l
owned_new l owner is = ap (new_owner (suc l)) is

module _ {X : Type 0} (all : List Addition) (owner_of : X → ℕ) (move : ℕ → Addition → X → X)
    (moves : (l : ℕ) (y : Addition) (r : X) → owner_of (move l y r) ≡ new_owner (suc l) (owner_of r)) (rows_of : Addition → List X)
    (empty : rows_of nothing ≡ []) (own : (l : ℕ) (y : Addition) → slice_get all l ≡ Some y → All (λ (r : X). owner_of r ≡ 1)
    (rows_of y)) where
  pub are_rows : AreRows all (λ l y. map (move l y) (rows_of y)) owner_of (λ (y : Addition). length (rows_of y))
  are_rows = record {
    none = λ l. ap (map (move l nothing)) empty;
    owned = owned;
    count = λ l y. length-map (rows_of y) (move l y);
  } where
    owned : (l : ℕ) (y : Addition) → slice_get all l ≡ Some y → (z : X) → Contains (map (move l y) (rows_of y)) z → owner_of z ≡ suc l
    owned l y at z has =
        let (r, is, there) = contains_map (move l y) (rows_of y) z has in
        ap owner_of is ∙ (moves l y r ∙ owned_new l (owner_of r) (all_contained (λ (q : X). owner_of q ≡ 1) (rows_of y) r
        (own l y at) there))

module _ (host : Rows) (all : List Addition) (own : (l : ℕ) (y : Addition) → slice_get all l ≡ Some y → IsOwn y) (o k : ℕ) (x : Addition)
    (view : IsView all o k x) where
  abbrev moved : NumberMap
  moved = numbers_of host all k x

  -- rows twice moved: the host's, and those of the extension, where o is its owner
  host_rows : {X : Type 0} (f g e : X → X) → ((r : X) → g (f r) ≡ e r) → (rs : List X) → map g (map f rs) ≡ map e rs
  host_rows f g e is rs = map_twice f g e is rs

  pub own_rows_in : {X : Type 0} (rows_of : Addition → List X) → rows_of nothing ≡ [] → (f : X → X) (g : ℕ → X → X)
      → ((r : X) → g (suc k) (f r) ≡ g (suc k) r) → IsView all o k x → map (g o) (map f (rows_of x)) ≡ map (g (suc k)) (rows_of x)
  own_rows_in rows_of empty f g is (of_host zero_is none) =
      let nothing_there : rows_of x ≡ [] = ap rows_of none ∙ empty in
      ap (λ z. map (g o) (map f z)) nothing_there ∙ sym (ap (map (g (suc k))) nothing_there)
  own_rows_in rows_of empty f g is (of_own same at) =
      ap (λ z. map (g z) (map f (rows_of x))) same ∙ map_twice f (g (suc k)) (g (suc k)) is (rows_of x)

  -- the nonterminals where the owner is alone with the host, moved
  one_nonterminals : (rows_of : Addition → List Nonterminal) → rows_of nothing ≡ []
      → map (new_nonterminal moved o) (joined (each_nonterminals host (x ∷ []) rows_of))
      ≡ map (new_nonterminal moved (suc k)) (rows_of x)
  one_nonterminals rows_of empty =
      ap (map (new_nonterminal moved o)) (append-nil (map (new_nonterminal (numbers_of host (x ∷ []) 0 x) 1) (rows_of x)))
      ∙ own_rows_in rows_of empty (new_nonterminal (numbers_of host (x ∷ []) 0 x) 1) (new_nonterminal moved)
      (nonterminal_twice (v host all k x (member_of view)) moved moved (twice_own host all k x (member_of view)) 1 (suc k) (suc k)
      (own_owners k))
      view

  host_nonterminals : (rs : List Nonterminal)
      → map (new_nonterminal moved o) (map (new_nonterminal (host_numbers host (x ∷ [])) 0) rs) ≡ map (new_nonterminal
      (host_numbers host all) 0) rs
  host_nonterminals rs =
      map_twice (new_nonterminal (host_numbers host (x ∷ [])) 0) (new_nonterminal moved o) (new_nonterminal (host_numbers host all) 0)
      (nonterminal_twice (u host all k x (member_of view)) moved (h host all k x (member_of view))
      (twice_host host all k x (member_of view)) 0 o 0 (host_owners o)) rs

  abbrev leading : List Nonterminal
  leading = map (new_nonterminal (host_numbers host all) 0) host.nonterminals

  abbrev following : List Nonterminal
  following = map (new_nonterminal (host_numbers host all) 0) host.abstract_nonterminals

  nonterminals_are : map (new_nonterminal moved o) (united_nonterminals host (x ∷ []))
      ≡ leading ++ map (new_nonterminal moved (suc k)) x.rows.nonterminals ++ following
      ++ map (new_nonterminal moved (suc k)) x.rows.abstract_nonterminals
  nonterminals_are =
      let f = new_nonterminal moved o in
      let a = map (new_nonterminal (host_numbers host (x ∷ [])) 0) host.nonterminals in
      let b = joined (each_nonterminals host (x ∷ []) (λ y. y.rows.nonterminals)) in
      let c = map (new_nonterminal (host_numbers host (x ∷ [])) 0) host.abstract_nonterminals in
      let d = joined (each_nonterminals host (x ∷ []) (λ y. y.rows.abstract_nonterminals)) in
      map-append f (a ++ b ++ c) d
      ∙ (ap (λ z. z ++ map f d) (map-append f (a ++ b) c)
      ∙ (ap (λ z. z ++ map f c ++ map f d) (map-append f a b)
      ∙ (ap (λ z. z ++ map f b ++ map f c ++ map f d) (host_nonterminals host.nonterminals)
      ∙ (ap (λ z. leading ++ z ++ map f c ++ map f d) (one_nonterminals (λ y. y.rows.nonterminals) refl)
      ∙ (ap (λ z. leading ++ map (new_nonterminal moved (suc k)) x.rows.nonterminals ++ z ++ map f d)
      (host_nonterminals host.abstract_nonterminals)
      ∙ ap (λ z. leading ++ map (new_nonterminal moved (suc k)) x.rows.nonterminals ++ following ++ z)
      (one_nonterminals (λ y. y.rows.abstract_nonterminals) refl))))))

  nonterminal_rows : (rows_of : Addition → List Nonterminal) → rows_of nothing ≡ []
      → ((l : ℕ) (y : Addition) → slice_get all l ≡ Some y → All (λ (r : Nonterminal). r.owner ≡ 1) (rows_of y))
      → AreRows all (λ l y. map (new_nonterminal (numbers_of host all l y) (suc l)) (rows_of y)) (λ (r : Nonterminal). r.owner)
      (λ (y : Addition). length (rows_of y))
  nonterminal_rows rows_of empty mine =
      are_rows all (λ (r : Nonterminal). r.owner) (λ l y. new_nonterminal (numbers_of host all l y) (suc l))
      (λ l y r. refl) rows_of empty mine

  lead_rows : AreRows all (λ l y. map (new_nonterminal (numbers_of host all l y) (suc l)) y.rows.nonterminals) (λ
      (r : Nonterminal). r.owner)
      (λ (y : Addition). length y.rows.nonterminals)
  lead_rows = nonterminal_rows (λ (y : Addition). y.rows.nonterminals) refl (λ l y at. (own l y at).nonterminals)

  follow_rows : AreRows all (λ l y. map (new_nonterminal (numbers_of host all l y) (suc l)) y.rows.abstract_nonterminals)
      (λ (r : Nonterminal). r.owner) (λ (y : Addition). length y.rows.abstract_nonterminals)
  follow_rows = nonterminal_rows (λ (y : Addition). y.rows.abstract_nonterminals) refl (λ l y at. (own l y at).abstract_nonterminals)

  pub nonterminals_seen : (m : ℕ) → slice_get (united_nonterminals host all) (moved.nonterminal m)
      ≡ option_map (new_nonterminal moved o) (slice_get (united_nonterminals host (x ∷ [])) m)
  nonterminals_seen m =
      grouped_placed host all (λ l y. map (new_nonterminal (numbers_of host all l y) (suc l)) y.rows.nonterminals)
      (λ l y. map (new_nonterminal (numbers_of host all l y) (suc l)) y.rows.abstract_nonterminals) (λ (r : Nonterminal). r.owner)
      (λ (y : Addition). length y.rows.nonterminals) (λ (y : Addition). length y.rows.abstract_nonterminals) lead_rows follow_rows o k
      x view
      leading following (length host.nonterminals) (length host.abstract_nonterminals)
      (length-map host.nonterminals (new_nonterminal (host_numbers host all) 0))
      (length-map host.abstract_nonterminals (new_nonterminal (host_numbers host all) 0)) m
      ∙ (ap (λ z. slice_get z m) (sym nonterminals_are) ∙ slice_get-map (new_nonterminal moved o) (united_nonterminals host (x ∷ [])) m)

  pub nonterminals_from : (number : ℕ) (r : Nonterminal) → slice_get (united_nonterminals host all) number ≡ Some r → Sees o r.owner
      → (m : ℕ) × (from : Nonterminal) × (slice_get (united_nonterminals host (x ∷ [])) m ≡ Some from) × (number ≡ moved.nonterminal m)
  nonterminals_from number r at sees =
      let (m, is) = grouped_from host all (λ l y. map (new_nonterminal (numbers_of host all l y) (suc l)) y.rows.nonterminals)
      (λ l y. map (new_nonterminal (numbers_of host all l y) (suc l)) y.rows.abstract_nonterminals) (λ (r : Nonterminal). r.owner)
      (λ (y : Addition). length y.rows.nonterminals) (λ (y : Addition). length y.rows.abstract_nonterminals) lead_rows follow_rows o k
      x view
      leading following (length host.nonterminals) (length host.abstract_nonterminals)
      (length-map host.nonterminals (new_nonterminal (host_numbers host all) 0))
      (length-map host.abstract_nonterminals (new_nonterminal (host_numbers host all) 0)) number r at sees in
      let (from, here, same) = mapped (new_nonterminal moved o) (slice_get (united_nonterminals host (x ∷ [])) m) r
      (sym (nonterminals_seen m) ∙ (ap (slice_get (united_nonterminals host all)) (sym is) ∙ at)) in
      (m, from, here, is)

  -- attributes
  abbrev host_attributes : List Attribute
  host_attributes = map (new_attribute (host_numbers host all) 0) host.attributes

  attributes_are : map (new_attribute moved o) (united_attributes host (x ∷ []))
      ≡ host_attributes ++ map (new_attribute moved (suc k)) x.rows.attributes
  attributes_are =
      let f = new_attribute moved o in
      let a = map (new_attribute (host_numbers host (x ∷ [])) 0) host.attributes in
      let b = joined (each_attributes host (x ∷ [])) in
      map-append f a b
      ∙ (ap (λ z. z ++ map f b) (map_twice (new_attribute (host_numbers host (x ∷ [])) 0) f (new_attribute (host_numbers host all) 0)
      (attribute_twice (u host all k x (member_of view)) moved (h host all k x (member_of view))
      (twice_host host all k x (member_of view)) 0 o 0 (host_owners o)) host.attributes)
      ∙ ap (λ z. host_attributes ++ z)
      (ap (map f) (append-nil (map (new_attribute (numbers_of host (x ∷ []) 0 x) 1) x.rows.attributes))
      ∙ own_rows_in (λ (y : Addition). y.rows.attributes) refl (new_attribute (numbers_of host (x ∷ []) 0 x) 1) (new_attribute moved)
      (attribute_twice (v host all k x (member_of view)) moved moved (twice_own host all k x (member_of view)) 1 (suc k) (suc k)
      (own_owners k)) view))

  attribute_rows : AreRows all (λ l y. map (new_attribute (numbers_of host all l y) (suc l)) y.rows.attributes) (λ (r : Attribute). r.owner)
      (λ (y : Addition). length y.rows.attributes)
  attribute_rows =
      are_rows all (λ (r : Attribute). r.owner) (λ l y. new_attribute (numbers_of host all l y) (suc l)) (λ l y r. refl)
      (λ (y : Addition). y.rows.attributes) refl (λ l y at. (own l y at).attributes)

  pub attributes_seen : (m : ℕ) → slice_get (united_attributes host all) (moved.attribute m)
      ≡ option_map (new_attribute moved o) (slice_get (united_attributes host (x ∷ [])) m)
  attributes_seen m =
      ap (λ z. slice_get z (moved.attribute m)) (sym (append-nil (united_attributes host all)))
      ∙ (placed host all (λ l y. map (new_attribute (numbers_of host all l y) (suc l)) y.rows.attributes) (λ (r : Attribute). r.owner)
      (λ (y : Addition). length y.rows.attributes) attribute_rows o k x view host_attributes [] (length host.attributes)
      (length-map host.attributes (new_attribute (host_numbers host all) 0)) m
      ∙ (ap (λ z. slice_get z m) (append-nil (host_attributes ++ map (new_attribute moved (suc k)) x.rows.attributes))
      ∙ (ap (λ z. slice_get z m) (sym attributes_are) ∙ slice_get-map (new_attribute moved o) (united_attributes host (x ∷ [])) m)))

  pub attributes_from : (number : ℕ) (r : Attribute) → slice_get (united_attributes host all) number ≡ Some r → Sees o r.owner
      → (m : ℕ) × (from : Attribute) × (slice_get (united_attributes host (x ∷ [])) m ≡ Some from) × (number ≡ moved.attribute m)
  attributes_from number r at sees =
      let again = ap (λ w. slice_get w number) (append-nil (united_attributes host all)) ∙ at in
      let (m, is) = placed_from host all (λ l y. map (new_attribute (numbers_of host all l y) (suc l)) y.rows.attributes)
      (λ (r : Attribute). r.owner) (λ (y : Addition). length y.rows.attributes) attribute_rows o k x view host_attributes []
      (length host.attributes) (length-map host.attributes (new_attribute (host_numbers host all) 0)) number r again sees in
      let (from, here, same) = mapped (new_attribute moved o) (slice_get (united_attributes host (x ∷ [])) m) r
      (sym (attributes_seen m) ∙ (ap (slice_get (united_attributes host all)) (sym is) ∙ at)) in
      (m, from, here, is)
