-- In the lists of a union each row is of an owner who is there and sees what it stands on, and nothing is there twice.
use Rattle.std.proofs.Common.{◌≡◌, ◌∙◌, ◌<◌, ◌≤◌, [], ℕ, suc, List, Some, Contains, All, length, map, slice_get}
use Rattle.std.proofs.Common.{refl, sym, ap, subst, inl, inr, arith}
use Rattle.std.proofs.lemmas.List.{length-map}
use Rattle.std.proofs.lemmas.List.Elements.{All-map}
use Rattle.std.proofs.lemmas.Option.{slice_get_within}
use Rattle.wb_base.specs.Different.{Differ}
use Rattle.wb_lemmas.proofs.Elements.{all_contained, all_weaker, all_from_places}
use Rattle.wb_lemmas.proofs.Members.{contains_at}
use Rattle.wb_lemmas.proofs.Places.{at_append}
use Rattle.wb_syntax_resolved.specs.declared.attributes.Attribute.{Attribute}
use Rattle.wb_syntax_resolved.specs.declared.attributes.Nonterminal.{Nonterminal}
use Rattle.wb_syntax_resolved.specs.declared.attributes.Occurrence.{Occurrence}
use Rattle.wb_syntax_resolved.specs.declared.equation.Equation.{Equation}
use Rattle.wb_syntax_resolved.specs.declared.production.Local.{Local}
use Rattle.wb_syntax_resolved.specs.declared.production.Production.{Production}
use Rattle.wb_syntax_resolved.specs.Once.{OccursOnce}
use Rattle.wb_syntax_resolved.specs.Owners.{IsOwner}
use Rattle.wb_compose_theory_attributes.specs.Numbers.{NumberMap, IsOneToOne}
use Rattle.wb_compose_theory_attributes.specs.Rows.{new_owner, new_nonterminal, new_attribute, new_occurrence, new_equation, new_local}
use Rattle.wb_compose_theory_attributes.specs.Unions.{MayStandOn, IsWrittenWithin, IsWithin}
use Rattle.wb_compose_theory_attributes.proofs.SeenLemmas.{order_once}
use Rattle.wb_compose_theory_attributes.proofs.TargetLemmas.{target_once}
use Rattle.wb_compose_theory_lists.specs.Additions.{Rows, Addition, nothing, IsOwn, IsWrittenByOwner, IsWrittenByExtension, TargetsDiffer}
use Rattle.wb_compose_theory_lists.specs.Additions.{AreOnce}
use Rattle.wb_compose_theory_lists.specs.Joined.{joined, numbered, grouped}
use Rattle.wb_compose_theory_lists.specs.Numbers.{number_with, before_abstract, numbers_of}
use Rattle.wb_compose_theory_lists.specs.United.{host_numbers, host_production, own_production, united_nonterminals, united_attributes}
use Rattle.wb_compose_theory_lists.specs.United.{united_occurrences, united_productions, united_attribution}
use Rattle.wb_compose_theory_lists.proofs.DifferLemmas.{differ_map, keys_differ, each_owned, owner_within, differ_joined}
use Rattle.wb_compose_theory_lists.proofs.EachLemmas.{AreRows}
use Rattle.wb_compose_theory_lists.proofs.JoinedLemmas.{From, joined_from}
use Rattle.wb_compose_theory_lists.proofs.NumberLemmas.{keeps_order}
use Rattle.wb_compose_theory_lists.proofs.OrderLemmas.{Group, in_lead, in_follow, group_of}
use Rattle.wb_compose_theory_lists.proofs.RowLemmas.{are_rows, owned_new}
use Rattle.wb_compose_theory_lists.proofs.MadeLemmas.{new_owner_zero, hosts_stay, numbered_from, attribute_rows, lead_are, follow_are}
use Rattle.wb_compose_theory_lists.proofs.MadeLemmas.{hosts_are}

module _ {X : Type 0} (all : List Addition) (rows others : ℕ → Addition → List X) (owner_of : X → ℕ) (size count : Addition → ℕ)
    (are : AreRows all rows owner_of size) (are' : AreRows all others owner_of count) (leading following : List X)
    (host_is : (x : X) → Contains leading x → owner_of x ≡ 0) (host_is' : (x : X) → Contains following x → owner_of x ≡ 0) where
  within_group : (i : ℕ) (x : X) → Group owner_of leading (numbered rows 0 all) following (numbered others 0 all) i x
      → owner_of x ≤ length all
  within_group i x (in_lead at) = owner_within all rows owner_of size are leading host_is i x at
  within_group i x (in_follow j is at) = owner_within all others owner_of count are' following host_is' j x at

  pub grouped_within : (i : ℕ) (x : X) → slice_get (grouped leading (numbered rows 0 all) following (numbered others 0 all)) i ≡ Some x
      → owner_of x ≤ length all
  grouped_within i x at = within_group i x (group_of owner_of leading (numbered rows 0 all) following (numbered others 0 all) i x at)

-- equations in new numbers differ where targets did
equations_differ : (t : NumberMap) → IsOneToOne t → (q o : ℕ) (es : List Equation) → TargetsDiffer es → Differ (map (new_equation t q o) es)
equations_differ t once q o es differ =
    differ_map (new_equation t q o) es (λ i j x y at at' same. keys_differ (λ (e : Equation). e.target) es differ i j x y at at'
    (target_once t once q x.target y.target (ap (λ (e : Equation). e.target) same)))

-- and so do occurrences
occurrences_differ : (t : NumberMap) → IsOneToOne t → (o : ℕ) (rs : List Occurrence) → OccursOnce rs → Differ (map (new_occurrence t o) rs)
occurrences_differ t once o rs differ =
    differ_map (new_occurrence t o) rs (λ i j x y at at' same. differ i j x y at at'
    (once.attribute x.attribute y.attribute (ap (λ (r : Occurrence). r.attribute) same))
    (once.nonterminal x.nonterminal y.nonterminal (ap (λ (r : Occurrence). r.nonterminal) same)))

module _ (host : Rows) (all : List Addition) (own : (l : ℕ) (y : Addition) → slice_get all l ≡ Some y → IsOwn y)
    (written : (l : ℕ) (y : Addition) → slice_get all l ≡ Some y → IsWrittenByExtension y) (host_once : AreOnce host)
    (once : (l : ℕ) (y : Addition) → slice_get all l ≡ Some y → AreOnce y.rows)
    (aspects_once : (l : ℕ) (y : Addition) → slice_get all l ≡ Some y → (p : ℕ) → TargetsDiffer (y.equations p)) where
  abbrev whole : NumberMap
  whole = host_numbers host all

  whole_once : IsOneToOne whole
  whole_once = order_once whole (keeps_order host all 0 nothing (inl refl))

  own_once : (l : ℕ) (y : Addition) → slice_get all l ≡ Some y → IsOneToOne (numbers_of host all l y)
  own_once l y at = order_once (numbers_of host all l y) (keeps_order host all l y (inr at))

  bound : (owner : ℕ) → owner ≤ length all → IsOwner (map (λ (x : Addition). x.name) all) owner
  bound owner le = let e = length-map all (λ (x : Addition). x.name) in omega (arith, e, le)

  nonterminal_rows : (rows_of : Addition → List Nonterminal) → rows_of nothing ≡ []
      → ((l : ℕ) (y : Addition) → slice_get all l ≡ Some y → All (λ (r : Nonterminal). r.owner ≡ 1) (rows_of y))
      → AreRows all (λ l y. map (new_nonterminal (numbers_of host all l y) (suc l)) (rows_of y)) (λ (r : Nonterminal). r.owner)
      (λ (y : Addition). length (rows_of y))
  nonterminal_rows rows_of empty mine =
      are_rows all (λ (r : Nonterminal). r.owner) (λ l y. new_nonterminal (numbers_of host all l y) (suc l))
      (λ l y r. refl) rows_of empty mine

  nonterminals_within : (i : ℕ) (r : Nonterminal) → slice_get (united_nonterminals host all) i ≡ Some r
      → IsOwner (map (λ (x : Addition). x.name) all) r.owner
  nonterminals_within i r at =
      bound r.owner (grouped_within all (λ l y. map (new_nonterminal (numbers_of host all l y) (suc l)) y.rows.nonterminals)
      (λ l y. map (new_nonterminal (numbers_of host all l y) (suc l)) y.rows.abstract_nonterminals) (λ (z : Nonterminal). z.owner)
      (λ (y : Addition). length y.rows.nonterminals) (λ (y : Addition). length y.rows.abstract_nonterminals)
      (nonterminal_rows (λ (y : Addition). y.rows.nonterminals) refl (λ l y at_l. (own l y at_l).nonterminals))
      (nonterminal_rows (λ (y : Addition). y.rows.abstract_nonterminals) refl (λ l y at_l. (own l y at_l).abstract_nonterminals))
      (map (new_nonterminal whole 0) host.nonterminals) (map (new_nonterminal whole 0) host.abstract_nonterminals)
      (hosts_stay (new_nonterminal whole 0) (λ (z : Nonterminal). z.owner) (λ z. refl) host.nonterminals)
      (hosts_stay (new_nonterminal whole 0) (λ (z : Nonterminal). z.owner) (λ z. refl) host.abstract_nonterminals) i r at)

  attributes_within : (i : ℕ) (r : Attribute) → slice_get (united_attributes host all) i ≡ Some r
      → IsOwner (map (λ (x : Addition). x.name) all) r.owner
  attributes_within i r at =
      bound r.owner (owner_within all (λ l y. map (new_attribute (numbers_of host all l y) (suc l)) y.rows.attributes)
      (λ (z : Attribute). z.owner) (λ (y : Addition). length y.rows.attributes) (attribute_rows host all own)
      (map (new_attribute whole 0) host.attributes)
      (hosts_stay (new_attribute whole 0) (λ (z : Attribute). z.owner) (λ z. refl) host.attributes) i r at)

  occurrence_rows : AreRows all (λ l y. map (new_occurrence (numbers_of host all l y) (suc l)) y.rows.occurrences)
      (λ (r : Occurrence). r.owner) (λ (y : Addition). length y.rows.occurrences)
  occurrence_rows =
      are_rows all (λ (r : Occurrence). r.owner) (λ l y. new_occurrence (numbers_of host all l y) (suc l)) (λ l y r. refl)
      (λ (y : Addition). y.rows.occurrences) refl (λ l y at. (own l y at).occurrences)

  occurrences_within : (i : ℕ) (r : Occurrence) → slice_get (united_occurrences host all) i ≡ Some r
      → IsOwner (map (λ (x : Addition). x.name) all) r.owner
  occurrences_within i r at =
      bound r.owner (owner_within all (λ l y. map (new_occurrence (numbers_of host all l y) (suc l)) y.rows.occurrences)
      (λ (z : Occurrence). z.owner) (λ (y : Addition). length y.rows.occurrences) occurrence_rows
      (map (new_occurrence whole 0) host.occurrences)
      (hosts_stay (new_occurrence whole 0) (λ (z : Occurrence). z.owner) (λ z. refl) host.occurrences) i r at)

  occurrences_once : Differ (united_occurrences host all)
  occurrences_once =
      differ_joined all (λ l y. map (new_occurrence (numbers_of host all l y) (suc l)) y.rows.occurrences)
      (λ (z : Occurrence). z.owner) (λ (y : Addition). length y.rows.occurrences) occurrence_rows
      (map (new_occurrence whole 0) host.occurrences)
      (hosts_stay (new_occurrence whole 0) (λ (z : Occurrence). z.owner) (λ z. refl) host.occurrences)
      (occurrences_differ whole whole_once 0 host.occurrences host_once.occurrences) blocks where
        blocks : (k : ℕ) (xs : List Occurrence)
            → slice_get (numbered (λ l y. map (new_occurrence (numbers_of host all l y) (suc l)) y.rows.occurrences) 0 all) k ≡ Some xs
            → Differ xs
        blocks k xs at =
            let (y, at_y, same) = each_owned all (λ l y. map (new_occurrence (numbers_of host all l y) (suc l)) y.rows.occurrences)
            (λ (z : Occurrence). z.owner) (λ (y : Addition). length y.rows.occurrences) occurrence_rows k xs at in
            subst Differ same (occurrences_differ (numbers_of host all k y) (own_once k y at_y) (suc k) y.rows.occurrences
            (once k y at_y).occurrences)

  -- a production of the host
  module _ (m : ℕ) (r : Production) (differ : TargetsDiffer r.equations) where
    abbrev there : Production
    there = host_production host all m r

    abbrev local_rows : ℕ → Addition → List Local
    local_rows l y = map (new_local (numbers_of host all l y) (number_with host y m) (suc l)) (y.locals m)

    abbrev equation_rows : ℕ → Addition → List Equation
    equation_rows l y = map (new_equation (numbers_of host all l y) (number_with host y m) (suc l)) (y.equations m)

    locals_are : AreRows all local_rows (λ (l : Local). l.owner) (λ (y : Addition). length (y.locals m))
    locals_are =
        are_rows all (λ (l : Local). l.owner) (λ l y. new_local (numbers_of host all l y) (number_with host y m) (suc l)) (λ l y z. refl)
        (λ (y : Addition). y.locals m) refl (λ l y at_l. (own l y at_l).locals m)

    equations_are : AreRows all equation_rows (λ (e : Equation). e.owner) (λ (y : Addition). length (y.equations m))
    equations_are =
        are_rows all (λ (e : Equation). e.owner) (λ l y. new_equation (numbers_of host all l y) (number_with host y m) (suc l))
        (λ l y z. refl) (λ (y : Addition). y.equations m) refl (λ l y at_l. (own l y at_l).equations m)

    may_stand : (owner : ℕ) → owner ≤ length all → MayStandOn (united_attribution host all) there owner
    may_stand owner le = record { is_owner = bound owner le; sees = inl (new_owner_zero r.owner) }

    blocks : (k : ℕ) (xs : List Equation) → slice_get (numbered equation_rows 0 all) k ≡ Some xs → Differ xs
    blocks k xs at =
        let (y, at_y, same) = each_owned all equation_rows (λ (e : Equation). e.owner) (λ (y : Addition). length
        (y.equations m)) equations_are
        k xs at in
        subst Differ same (equations_differ (numbers_of host all k y) (own_once k y at_y) (number_with host y m) (suc k) (y.equations m)
        (aspects_once k y at_y m))

    pub host_written : IsWrittenWithin (united_attribution host all) there
    host_written = record {
      locals = all_from_places (λ (l : Local). MayStandOn (united_attribution host all) there l.owner) there.locals
          (λ i l at. may_stand l.owner (owner_within all local_rows (λ (z : Local). z.owner) (λ (y : Addition). length
          (y.locals m)) locals_are
          (map (new_local whole m 0) r.locals) (hosts_stay (new_local whole m 0) (λ (z : Local). z.owner) (λ z. refl) r.locals) i l at));
      equations = all_from_places (λ (e : Equation). MayStandOn (united_attribution host all) there e.owner) there.equations
          (λ i e at. may_stand e.owner (owner_within all equation_rows (λ (z : Equation). z.owner) (λ (y : Addition). length
          (y.equations m))
          equations_are (map (new_equation whole m 0) r.equations)
          (hosts_stay (new_equation whole m 0) (λ (z : Equation). z.owner) (λ z. refl) r.equations) i e at));
      once = differ_joined all equation_rows (λ (z : Equation). z.owner) (λ (y : Addition). length (y.equations m)) equations_are
          (map (new_equation whole m 0) r.equations)
          (hosts_stay (new_equation whole m 0) (λ (z : Equation). z.owner) (λ z. refl) r.equations)
          (equations_differ whole whole_once m 0 r.equations differ) blocks;
    }

  -- an extension's own
  module _ (k : ℕ) (y : Addition) (at : slice_get all k ≡ Some y) (p : ℕ) (r : Production) (owner : r.owner ≡ 1) (by : IsWrittenByOwner r)
      (differ : TargetsDiffer r.equations) where
    abbrev mine : Production
    mine = own_production host all k y p r

    may_stand_own : (writer : ℕ) → writer ≡ 1 → MayStandOn (united_attribution host all) mine (new_owner (suc k) writer)
    may_stand_own writer is =
        let less : k < length all = slice_get_within all k y at in
        let writer_is = owned_new k writer is in
        let owner_is = owned_new k r.owner owner in
        record {
          is_owner = bound (new_owner (suc k) writer) (omega (arith, less, writer_is));
          sees = inr (owner_is ∙ sym writer_is);
        }

    pub own_written : IsWrittenWithin (united_attribution host all) mine
    own_written = record {
      locals = All-map (λ (l : Local). MayStandOn (united_attribution host all) mine l.owner) (new_local (numbers_of host all k y) p
          (suc k))
          r.locals (all_weaker (λ (l : Local). l.owner ≡ 1)
          (λ (l : Local). MayStandOn (united_attribution host all) mine (new_owner (suc k) l.owner)) r.locals
          (λ l is. may_stand_own l.owner is) by.locals);
      equations = All-map (λ (e : Equation). MayStandOn (united_attribution host all) mine e.owner)
          (new_equation (numbers_of host all k y) p (suc k)) r.equations (all_weaker (λ (e : Equation). e.owner ≡ 1)
          (λ (e : Equation). MayStandOn (united_attribution host all) mine (new_owner (suc k) e.owner)) r.equations
          (λ e is. may_stand_own e.owner is) by.equations);
      once = equations_differ (numbers_of host all k y) (own_once k y at) p (suc k) r.equations differ;
    }

  -- all productions
  abbrev lead_rows : ℕ → Addition → List Production
  lead_rows l y = numbered (own_production host all l y) (length host.productions) y.rows.productions

  abbrev follow_rows : ℕ → Addition → List Production
  follow_rows l y = numbered (own_production host all l y) (before_abstract host y) y.rows.abstract_productions

  abbrev leading : List Production
  leading = numbered (host_production host all) 0 host.productions

  abbrev following : List Production
  following = numbered (host_production host all) (length host.productions) host.abstract_productions

  production_within : (i : ℕ) (z : Production) → slice_get (united_productions host all) i ≡ Some z
      → IsOwner (map (λ (x : Addition). x.name) all) z.owner
  production_within i z at =
      bound z.owner (grouped_within all lead_rows follow_rows (λ (r : Production). r.owner) (λ (y : Addition). length y.rows.productions)
      (λ (y : Addition). length y.rows.abstract_productions) (lead_are host all own) (follow_are host all own) leading following
      (hosts_are host all own 0 host.productions)
      (hosts_are host all own (length host.productions) host.abstract_productions) i z at)

  host_in : (start : ℕ) (rows : List Production) → All (λ (r : Production). TargetsDiffer r.equations) rows → (z : Production)
      → Contains (numbered (host_production host all) start rows) z → IsWrittenWithin (united_attribution host all) z
  host_in start rows differ z has =
      let (i, r, there, is) = numbered_from (host_production host all) start rows z has in
      subst (IsWrittenWithin (united_attribution host all)) (sym is)
      (host_written i r (all_contained (λ (w : Production). TargetsDiffer w.equations) rows r differ there))

  own_in : (k : ℕ) (y : Addition) → slice_get all k ≡ Some y → (start : ℕ) (rows : List Production)
      → All (λ (r : Production). r.owner ≡ 1) rows → All IsWrittenByOwner rows → All (λ (r : Production). TargetsDiffer r.equations) rows
      → (z : Production) → Contains (numbered (own_production host all k y) start rows) z → IsWrittenWithin (united_attribution host all) z
  own_in k y at start rows owners by differ z has =
      let (i, r, there, is) = numbered_from (own_production host all k y) start rows z has in
      subst (IsWrittenWithin (united_attribution host all)) (sym is)
      (own_written k y at i r (all_contained (λ (w : Production). w.owner ≡ 1) rows r owners there)
      (all_contained IsWrittenByOwner rows r by there) (all_contained (λ (w : Production). TargetsDiffer w.equations) rows r differ there))

  lead_in : (i : ℕ) (z : Production) → From (numbered lead_rows 0 all) i z → IsWrittenWithin (united_attribution host all) z
  lead_in i z from =
      let (y, at, same) = each_owned all lead_rows (λ (r : Production). r.owner) (λ (y : Addition). length y.rows.productions)
      (lead_are host all own)
      from.k from.xs from.at in
      let has = subst (λ w. Contains w z) (sym same) (contains_at from.xs z from.i from.has) in
      own_in from.k y at (length host.productions) y.rows.productions (own from.k y at).productions (written from.k y at).productions
      (once from.k y at).productions z has

  follow_in : (i : ℕ) (z : Production) → From (numbered follow_rows 0 all) i z → IsWrittenWithin (united_attribution host all) z
  follow_in i z from =
      let (y, at, same) = each_owned all follow_rows (λ (r : Production). r.owner) (λ (y : Addition). length y.rows.abstract_productions)
      (follow_are host all own) from.k from.xs from.at in
      let has = subst (λ w. Contains w z) (sym same) (contains_at from.xs z from.i from.has) in
      own_in from.k y at (before_abstract host y) y.rows.abstract_productions (own from.k y at).abstract_productions
      (written from.k y at).abstract_productions (once from.k y at).abstract_productions z has

  written_in : (i : ℕ) (z : Production)
      → Group (λ (r : Production). r.owner) leading (numbered lead_rows 0 all) following (numbered follow_rows 0 all) i z
      → IsWrittenWithin (united_attribution host all) z
  written_in i z (in_lead at) = elim (at_append leading (joined (numbered lead_rows 0 all)) z i at) [
    | inl here ↦ host_in 0 host.productions host_once.productions z (contains_at leading z i here)
    | inr (j, is, there) ↦ lead_in j z (joined_from (numbered lead_rows 0 all) j z there)
  ]
  written_in i z (in_follow l is at) = elim (at_append following (joined (numbered follow_rows 0 all)) z l at) [
    | inl here ↦ host_in (length host.productions) host.abstract_productions host_once.abstract_productions z
        (contains_at following z l here)
    | inr (j, is', there) ↦ follow_in j z (joined_from (numbered follow_rows 0 all) j z there)
  ]

  pub is_within : IsWithin (united_attribution host all)
  is_within = record {
    nonterminals = all_from_places (λ (r : Nonterminal). IsOwner (map (λ (x : Addition). x.name) all) r.owner)
        (united_nonterminals host all)
        nonterminals_within;
    attributes = all_from_places (λ (r : Attribute). IsOwner (map (λ (x : Addition). x.name) all) r.owner) (united_attributes host all)
        attributes_within;
    occurrences = all_from_places (λ (r : Occurrence). IsOwner (map (λ (x : Addition). x.name) all) r.owner) (united_occurrences host all)
        occurrences_within;
    productions = all_from_places (λ (r : Production). IsOwner (map (λ (x : Addition). x.name) all) r.owner) (united_productions host all)
        production_within;
    written = all_from_places (IsWrittenWithin (united_attribution host all)) (united_productions host all)
        (λ i z at. written_in i z (group_of (λ (r : Production). r.owner) leading (numbered lead_rows 0 all) following
        (numbered follow_rows 0 all) i z at));
    once = occurrences_once;
  }
