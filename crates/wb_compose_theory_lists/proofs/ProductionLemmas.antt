-- What an owner sees of a production of the host, and of one of its own.
use Rattle.std.proofs.Common.{◌≡◌, ◌∙◌, ◌<◌, ◌+◌, ◌++◌, ◌∷◌, [], ℕ, suc, List, Some, None, Contains, length, map, option_map}
use Rattle.std.proofs.Common.{slice_get, refl, sym, ap, subst}
use Rattle.std.proofs.lemmas.List.{append-nil, length-map, map-append}
use Rattle.std.proofs.lemmas.Option.{slice_get-map}
use Rattle.wb_lemmas.proofs.Elements.{all_contained}
use Rattle.wb_syntax_resolved.specs.declared.equation.Equation.{Equation}
use Rattle.wb_syntax_resolved.specs.declared.production.Local.{Local}
use Rattle.wb_syntax_resolved.specs.declared.production.Production.{Production}
use Rattle.wb_syntax_resolved.specs.Owners.{Sees}
use Rattle.wb_compose_theory_attributes.specs.Numbers.{NumberMap}
use Rattle.wb_compose_theory_attributes.specs.Rows.{new_child, new_equation, new_local, new_forward}
use Rattle.wb_compose_theory_attributes.specs.Seen.{IsSeenProduction}
use Rattle.wb_compose_theory_attributes.proofs.SeenLemmas.{mapped}
use Rattle.wb_compose_theory_attributes.proofs.VertexLemmas.{contains_map, map_contains}
use Rattle.wb_compose_theory_lists.specs.Additions.{Rows, Addition, IsOwn}
use Rattle.wb_compose_theory_lists.specs.Joined.{joined, place_after}
use Rattle.wb_compose_theory_lists.specs.Numbers.{locals_in, number_with, number_without, block_of, local_number, numbers_of}
use Rattle.wb_compose_theory_lists.specs.United.{host_numbers, each_locals, host_production, own_production}
use Rattle.wb_compose_theory_lists.proofs.ContainLemmas.{contains_seen, contains_from}
use Rattle.wb_compose_theory_lists.proofs.EachLemmas.{IsView, member_of, AreRows, placed, placed_from}
use Rattle.wb_compose_theory_lists.proofs.NumberLemmas.{h, u, v, twice_host, twice_own, host_local_twice, own_local_twice, without_with}
use Rattle.wb_compose_theory_lists.proofs.RowLemmas.{are_rows, owned_new, own_rows_in}
use Rattle.wb_compose_theory_lists.proofs.TwiceLemmas.{map_twice, option_twice, host_owners, own_owners, child_twice, forward_twice}
use Rattle.wb_compose_theory_lists.proofs.TwiceLemmas.{equation_twice}
use Rattle.wb_compose_theory_lists.proofs.TwiceLemmas.{local_twice}

module _ (host : Rows) (all : List Addition) (own : (l : ℕ) (y : Addition) → slice_get all l ≡ Some y → IsOwn y) (o k : ℕ) (x : Addition)
    (view : IsView all o k x) where
  abbrev moved : NumberMap
  moved = numbers_of host all k x

  abbrev whole : NumberMap
  whole = host_numbers host all

  abbrev host_there : NumberMap
  host_there = host_numbers host (x ∷ [])

  abbrev own_there : NumberMap
  own_there = numbers_of host (x ∷ []) 0 x

  -- one of the extension's own
  module _ (same : o ≡ suc k) (p : ℕ) (r : Production) (without : number_without host x p ≡ None) where
    abbrev row : Production
    row = own_production host (x ∷ []) 0 x p r

    abbrev there : Production
    there = own_production host all k x p r

    local_stays : (y : ℕ) → moved.local_in p y ≡ y
    local_stays y = ap (λ z. local_number host all k x z y) without

    local_two : (l : Local) → new_local moved p (suc k) (new_local own_there p 1 l) ≡ new_local moved p (suc k) l
    local_two = local_twice (v host all k x (member_of view)) moved moved (twice_own host all k x (member_of view)) p p p
        (own_local_twice host all k x (member_of view) p) 1 (suc k) (suc k) (own_owners k)

    equation_two : (e : Equation) → new_equation moved p (suc k) (new_equation own_there p 1 e) ≡ new_equation moved p (suc k) e
    equation_two = equation_twice (v host all k x (member_of view)) moved moved (twice_own host all k x (member_of view)) p p p
        (own_local_twice host all k x (member_of view) p) 1 (suc k) (suc k) (own_owners k)

    locals_to : (y : ℕ) (l : Local) → slice_get row.locals y ≡ Some l
        → slice_get there.locals (moved.local_in p y) ≡ Some (new_local moved p (suc k) l)
    locals_to y l at =
        let (from, has, is) = mapped (new_local own_there p 1) (slice_get r.locals y) l
        (sym (slice_get-map (new_local own_there p 1) r.locals y) ∙ at) in
        ap (slice_get there.locals) (local_stays y) ∙ (slice_get-map (new_local moved p (suc k)) r.locals y
        ∙ (ap (option_map (new_local moved p (suc k))) has
        ∙ ap Some (sym (local_two from) ∙ ap (new_local moved p (suc k)) is)))

    locals_back : (y : ℕ) (l : Local) → slice_get there.locals y ≡ Some l → Sees (suc k) l.owner
        → (z : ℕ) × (from : Local) × (slice_get row.locals z ≡ Some from) × (y ≡ moved.local_in p z)
    locals_back y l at sees =
        let (from, has, is) = mapped (new_local moved p (suc k)) (slice_get r.locals y) l
        (sym (slice_get-map (new_local moved p (suc k)) r.locals y) ∙ at) in (
          y,
          new_local own_there p 1 from,
          slice_get-map (new_local own_there p 1) r.locals y ∙ ap (option_map (new_local own_there p 1)) has,
          sym (local_stays y),
        )

    equations_to : (e : Equation) → Contains row.equations e → Contains there.equations (new_equation moved p (suc k) e)
    equations_to e has =
        let (from, is, listed) = contains_map (new_equation own_there p 1) r.equations e has in
        subst (Contains there.equations) (sym (equation_two from) ∙ ap (new_equation moved p (suc k)) (sym is))
        (map_contains (new_equation moved p (suc k)) r.equations from listed)

    equations_back : (e : Equation) → Contains there.equations e → Sees (suc k) e.owner
        → (from : Equation) × Contains row.equations from × (e ≡ new_equation moved p (suc k) from)
    equations_back e has sees =
        let (from, is, listed) = contains_map (new_equation moved p (suc k)) r.equations e has in (
          new_equation own_there p 1 from,
          map_contains (new_equation own_there p 1) r.equations from listed,
          is ∙ sym (equation_two from),
        )

    own_seen_at : IsSeenProduction moved (suc k) p row there
    own_seen_at = record {
      name = refl;
      owner = sym ((own_owners k).is r.owner);
      role = refl;
      left = sym ((twice_own host all k x (member_of view)).nonterminal r.left);
      children = sym (map_twice (new_child own_there) (new_child moved) (new_child moved)
          (child_twice (v host all k x (member_of view)) moved moved (twice_own host all k x (member_of view))) r.children);
      forward = sym (option_twice (new_forward own_there p) (new_forward moved p) (new_forward moved p)
          (forward_twice (v host all k x (member_of view)) moved moved (twice_own host all k x (member_of view)) p p p
          (own_local_twice host all k x (member_of view) p)) r.forward);
      locals = locals_to;
      locals_from = locals_back;
      equations = equations_to;
      equations_from = equations_back;
    }

    pub own_seen : IsSeenProduction moved o p row there
    own_seen = subst (λ z. IsSeenProduction moved z p row there) (sym same) own_seen_at

  -- one of the host
  module _ (m : ℕ) (r : Production) (at : slice_get (host.productions ++ host.abstract_productions) m ≡ Some r)
      (less : m < length host.productions + length host.abstract_productions) where
    abbrev q : ℕ
    q = number_with host x m

    abbrev host_row : Production
    host_row = host_production host (x ∷ []) m r

    abbrev host_row_there : Production
    host_row_there = host_production host all m r

    abbrev local_rows : ℕ → Addition → List Local
    local_rows l y = map (new_local (numbers_of host all l y) (number_with host y m) (suc l)) (y.locals m)

    abbrev before : List Local
    before = map (new_local whole m 0) r.locals

    host_local_two : (l : Local) → new_local moved q o (new_local host_there m 0 l) ≡ new_local whole m 0 l
    host_local_two = local_twice (u host all k x (member_of view)) moved (h host all k x (member_of view))
        (twice_host host all k x (member_of view)) m q m (host_local_twice host all k x (member_of view) m less) 0 o 0 (host_owners o)

    aspect_local_two : (l : Local) → new_local moved q (suc k) (new_local own_there q 1 l) ≡ new_local moved q (suc k) l
    aspect_local_two = local_twice (v host all k x (member_of view)) moved moved (twice_own host all k x (member_of view)) q q q
        (own_local_twice host all k x (member_of view) q) 1 (suc k) (suc k) (own_owners k)

    locals_are : map (new_local moved q o) host_row.locals ≡ before ++ local_rows k x
    locals_are =
        let f = new_local moved q o in
        let a = map (new_local host_there m 0) r.locals in
        let b = joined (each_locals host (x ∷ []) m) in
        map-append f a b
        ∙ (ap (λ z. z ++ map f b) (map_twice (new_local host_there m 0) f (new_local whole m 0) host_local_two r.locals)
        ∙ ap (λ z. before ++ z) (ap (map f) (append-nil (map (new_local own_there q 1) (x.locals m)))
        ∙ own_rows_in host all own o k x view (λ (y : Addition). y.locals m) refl (new_local own_there q 1) (new_local moved q)
        aspect_local_two view))

    rows_are : AreRows all local_rows (λ (l : Local). l.owner) (λ (y : Addition). length (y.locals m))
    rows_are =
        are_rows all (λ (l : Local). l.owner) (λ l y. new_local (numbers_of host all l y) (number_with host y m) (suc l)) (λ l y z. refl)
        (λ (y : Addition). y.locals m) refl (λ l y at_l. (own l y at_l).locals m)

    -- the number of a local is its place among the host's and those of all extensions
    local_place : (y : ℕ) → moved.local_in q y
        ≡ place_after (length r.locals) (block_of host all (λ (z : Addition). length (z.locals m)) k x) y
    local_place y =
        ap (λ z. local_number host all k x z y) (without_with host x m less)
        ∙ ap (λ z. place_after (length (locals_in z)) (block_of host all (λ (w : Addition). length (w.locals m)) k x) y) at

    pub locals_seen : (y : ℕ) → slice_get host_row_there.locals (moved.local_in q y)
        ≡ option_map (new_local moved q o) (slice_get host_row.locals y)
    locals_seen y =
        ap (slice_get host_row_there.locals) (local_place y)
        ∙ (ap (λ z. slice_get z (place_after (length r.locals) (block_of host all (λ (w : Addition). length (w.locals m)) k x) y))
        (sym (append-nil host_row_there.locals))
        ∙ (placed host all local_rows (λ (l : Local). l.owner) (λ (w : Addition). length (w.locals m)) rows_are o k x view before []
        (length r.locals) (length-map r.locals (new_local whole m 0)) y
        ∙ (ap (λ z. slice_get z y) (append-nil (before ++ local_rows k x))
        ∙ (ap (λ z. slice_get z y) (sym locals_are) ∙ slice_get-map (new_local moved q o) host_row.locals y))))

    host_locals_to : (y : ℕ) (l : Local) → slice_get host_row.locals y ≡ Some l
        → slice_get host_row_there.locals (moved.local_in q y) ≡ Some (new_local moved q o l)
    host_locals_to y l has = locals_seen y ∙ ap (option_map (new_local moved q o)) has

    host_locals_back : (y : ℕ) (l : Local) → slice_get host_row_there.locals y ≡ Some l → Sees o l.owner
        → (z : ℕ) × (from : Local) × (slice_get host_row.locals z ≡ Some from) × (y ≡ moved.local_in q z)
    host_locals_back y l has sees =
        let again = ap (λ w. slice_get w y) (append-nil host_row_there.locals) ∙ has in
        let (z, is) = placed_from host all local_rows (λ (l : Local). l.owner) (λ (w : Addition). length (w.locals m)) rows_are o k x view
        before [] (length r.locals) (length-map r.locals (new_local whole m 0)) y l again sees in
        let y_is = is ∙ sym (local_place z) in
        let (from, here, same) = mapped (new_local moved q o) (slice_get host_row.locals z) l
        (sym (locals_seen z) ∙ (ap (slice_get host_row_there.locals) (sym y_is) ∙ has)) in
        (z, from, here, y_is)

    host_equation_two : (e : Equation) → new_equation moved q o (new_equation host_there m 0 e) ≡ new_equation whole m 0 e
    host_equation_two = equation_twice (u host all k x (member_of view)) moved (h host all k x (member_of view))
        (twice_host host all k x (member_of view)) m q m (host_local_twice host all k x (member_of view) m less) 0 o 0 (host_owners o)

    aspect_equation_two : o ≡ suc k → (e : Equation) → new_equation moved q o (new_equation own_there q 1 e) ≡ new_equation moved q
        (suc k) e
    aspect_equation_two same e =
        ap (λ z. new_equation moved q z (new_equation own_there q 1 e)) same
        ∙ equation_twice (v host all k x (member_of view)) moved moved (twice_own host all k x (member_of view)) q q q
        (own_local_twice host all k x (member_of view) q) 1 (suc k) (suc k) (own_owners k) e

    equation_owned : (l : ℕ) (y : Addition) → slice_get all l ≡ Some y → (e : Equation) → Contains (y.equations m) e
        → (new_equation (numbers_of host all l y) (number_with host y m) (suc l) e).owner ≡ suc l
    equation_owned l y at_l e has =
        owned_new l e.owner (all_contained (λ (z : Equation). z.owner ≡ 1) (y.equations m) e ((own l y at_l).equations m) has)

    host_equations_to : (e : Equation) → Contains host_row.equations e → Contains host_row_there.equations (new_equation moved q o e)
    host_equations_to =
        contains_seen all o k x view (λ (e : Equation). e.owner) r.equations (λ (y : Addition). y.equations m) refl
        (new_equation host_there m 0) (new_equation whole m 0) (new_equation moved q o) (new_equation own_there q 1)
        (λ l y. new_equation (numbers_of host all l y) (number_with host y m) (suc l)) host_equation_two aspect_equation_two equation_owned

    host_equations_back : (e : Equation) → Contains host_row_there.equations e → Sees o e.owner
        → (from : Equation) × Contains host_row.equations from × (e ≡ new_equation moved q o from)
    host_equations_back =
        contains_from all o k x view (λ (e : Equation). e.owner) r.equations (λ (y : Addition). y.equations m) refl
        (new_equation host_there m 0) (new_equation whole m 0) (new_equation moved q o) (new_equation own_there q 1)
        (λ l y. new_equation (numbers_of host all l y) (number_with host y m) (suc l)) host_equation_two aspect_equation_two equation_owned

    pub host_seen : IsSeenProduction moved o q host_row host_row_there
    host_seen = record {
      name = refl;
      owner = sym ((host_owners o).is r.owner);
      role = refl;
      left = sym ((twice_host host all k x (member_of view)).nonterminal r.left);
      children = sym (map_twice (new_child host_there) (new_child moved) (new_child whole)
          (child_twice (u host all k x (member_of view)) moved (h host all k x (member_of view)) (twice_host host all k x (member_of view)))
          r.children);
      forward = sym (option_twice (new_forward host_there m) (new_forward moved q) (new_forward whole m)
          (forward_twice (u host all k x (member_of view)) moved (h host all k x (member_of view)) (twice_host host all k x
          (member_of view))
          m q m (host_local_twice host all k x (member_of view) m less)) r.forward);
      locals = host_locals_to;
      locals_from = host_locals_back;
      equations = host_equations_to;
      equations_from = host_equations_back;
    }
