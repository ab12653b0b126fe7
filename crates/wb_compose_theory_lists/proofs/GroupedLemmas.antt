-- In the lists of a union attributes go by owner, and concrete productions come before abstract ones, each by owner.
use Rattle.std.proofs.Common.{◌≡◌, ◌∙◌, ◌<◌, ◌≤◌, ◌++◌, ℕ, suc, List, Some, Contains, All, length, map, slice_get, refl, sym}
use Rattle.std.proofs.Common.{ap, subst, inl, inr, arith}
use Rattle.std.proofs.lemmas.Option.{slice_get_within}
use Rattle.wb_lemmas.proofs.Elements.{all_contained}
use Rattle.wb_lemmas.proofs.Members.{contains_at}
use Rattle.wb_lemmas.proofs.Places.{at_append}
use Rattle.wb_syntax_resolved.specs.declared.attributes.Attribute.{Attribute}
use Rattle.wb_syntax_resolved.specs.declared.production.Production.{Production}
use Rattle.wb_syntax_resolved.specs.declared.production.ProductionRole.{ProductionRole}
use Rattle.wb_syntax_resolved.specs.declared.production.ProductionRole.TheVariants.{Concrete, Abstract}
use Rattle.wb_syntax_resolved.specs.Numbered.{IsGrouped, IsNumbered}
use Rattle.wb_compose_theory_attributes.specs.Rows.{new_attribute}
use Rattle.wb_compose_theory_lists.specs.Additions.{Rows, Addition, IsOwn, HaveRoles}
use Rattle.wb_compose_theory_lists.specs.Joined.{joined, numbered}
use Rattle.wb_compose_theory_lists.specs.Numbers.{before_abstract, numbers_of}
use Rattle.wb_compose_theory_lists.specs.United.{host_numbers, host_production, own_production, united_attributes, united_productions}
use Rattle.wb_compose_theory_lists.specs.United.{united_attribution}
use Rattle.wb_compose_theory_lists.proofs.DifferLemmas.{each_owned, own_is}
use Rattle.wb_compose_theory_lists.proofs.JoinedLemmas.{joined_from}
use Rattle.wb_compose_theory_lists.proofs.OrderLemmas.{Group, in_lead, in_follow, group_of, owners_rise}
use Rattle.wb_compose_theory_lists.proofs.MadeLemmas.{hosts_stay, numbered_from, attribute_rows, lead_are, follow_are, hosts_are}

-- a role isn't the other one
not_both : (role : ProductionRole) → role ≡ Concrete → role ≡ Abstract → ⊥
not_both role one other = cc (one, other)

module _ (host : Rows) (all : List Addition) (own : (l : ℕ) (y : Addition) → slice_get all l ≡ Some y → IsOwn y)
    (host_roles : HaveRoles host)
    (roles : (l : ℕ) (y : Addition) → slice_get all l ≡ Some y → HaveRoles y.rows) where
  attributes_rise : (i j : ℕ) (x y : Attribute) → i < j → slice_get (united_attributes host all) i ≡ Some x
      → slice_get (united_attributes host all) j ≡ Some y → x.owner ≤ y.owner
  attributes_rise =
      owners_rise (λ (r : Attribute). r.owner) (map (new_attribute (host_numbers host all) 0) host.attributes)
      (numbered (λ l y. map (new_attribute (numbers_of host all l y) (suc l)) y.rows.attributes) 0 all)
      (hosts_stay (new_attribute (host_numbers host all) 0) (λ (z : Attribute). z.owner) (λ z. refl) host.attributes)
      (own_is all (λ l y. map (new_attribute (numbers_of host all l y) (suc l)) y.rows.attributes) (λ (r : Attribute). r.owner)
      (λ (y : Addition). length y.rows.attributes) (attribute_rows host all own) (map (new_attribute
      (host_numbers host all) 0) host.attributes)
      (hosts_stay (new_attribute (host_numbers host all) 0) (λ (z : Attribute). z.owner) (λ z. refl) host.attributes))

  attributes_grouped : IsGrouped (λ (r : Attribute). r.owner) (λ x r. Unit {0}) (united_attributes host all)
  attributes_grouped i j x y less at at' = ((λ u. u), (λ f. attributes_rise i j x y less at at'))

  -- productions
  abbrev lead_rows : ℕ → Addition → List Production
  lead_rows l y = numbered (own_production host all l y) (length host.productions) y.rows.productions

  abbrev follow_rows : ℕ → Addition → List Production
  follow_rows l y = numbered (own_production host all l y) (before_abstract host y) y.rows.abstract_productions

  abbrev leading : List Production
  leading = numbered (host_production host all) 0 host.productions

  abbrev following : List Production
  following = numbered (host_production host all) (length host.productions) host.abstract_productions

  -- roles
  host_role : (role : ProductionRole) (start : ℕ) (rows : List Production) → All (λ (r : Production). r.role ≡ role) rows → (z : Production)
      → Contains (numbered (host_production host all) start rows) z → z.role ≡ role
  host_role role start rows each z has =
      let (i, r, there, is) = numbered_from (host_production host all) start rows z has in
      ap (λ (w : Production). w.role) is ∙ all_contained (λ (w : Production). w.role ≡ role) rows r each there

  own_role : (role : ProductionRole) (l : ℕ) (y : Addition) (start : ℕ) (rows : List Production)
      → All (λ (r : Production). r.role ≡ role) rows → (z : Production) → Contains (numbered (own_production host all l y) start rows) z
      → z.role ≡ role
  own_role role l y start rows each z has =
      let (i, r, there, is) = numbered_from (own_production host all l y) start rows z has in
      ap (λ (w : Production). w.role) is ∙ all_contained (λ (w : Production). w.role ≡ role) rows r each there

  lead_role : (i : ℕ) (z : Production) → slice_get (leading ++ joined (numbered lead_rows 0 all)) i ≡ Some z → z.role ≡ Concrete
  lead_role i z at = elim (at_append leading (joined (numbered lead_rows 0 all)) z i at) [
    | inl here ↦ host_role Concrete 0 host.productions host_roles.productions z (contains_at leading z i here)
    | inr (j, is, there) ↦
        let from = joined_from (numbered lead_rows 0 all) j z there in
        let (y, at_y, same) = each_owned all lead_rows (λ (r : Production). r.owner) (λ (y : Addition). length y.rows.productions)
        (lead_are host all own)
        from.k from.xs from.at in
        own_role Concrete from.k y (length host.productions) y.rows.productions (roles from.k y at_y).productions z
        (subst (λ w. Contains w z) (sym same) (contains_at from.xs z from.i from.has))
  ]

  follow_role : (i : ℕ) (z : Production) → slice_get (following ++ joined (numbered follow_rows 0 all)) i ≡ Some z → z.role ≡ Abstract
  follow_role i z at = elim (at_append following (joined (numbered follow_rows 0 all)) z i at) [
    | inl here ↦ host_role Abstract (length host.productions) host.abstract_productions host_roles.abstract_productions z
        (contains_at following z i here)
    | inr (j, is, there) ↦
        let from = joined_from (numbered follow_rows 0 all) j z there in
        let (y, at_y, same) = each_owned all follow_rows (λ (r : Production). r.owner)
        (λ (y : Addition). length y.rows.abstract_productions) (follow_are host all own) from.k from.xs from.at in
        own_role Abstract from.k y (before_abstract host y) y.rows.abstract_productions (roles from.k y at_y).abstract_productions z
        (subst (λ w. Contains w z) (sym same) (contains_at from.xs z from.i from.has))
  ]

  abbrev GroupOf : ℕ → Production → Type 0
  GroupOf i z = Group (λ (r : Production). r.owner) leading (numbered lead_rows 0 all) following (numbered follow_rows 0 all) i z

  abbrev IsInOrder : Production → Production → Type 0
  IsInOrder x y = (y.role ≡ Concrete → x.role ≡ Concrete) × ((x.role ≡ Concrete → y.role ≡ Concrete) → x.owner ≤ y.owner)

  in_order : (i j : ℕ) (x y : Production) → i < j → GroupOf i x → GroupOf j y → IsInOrder x y
  in_order i j x y less (in_lead at) (in_lead at') = (
    (λ c. lead_role i x at),
    (λ f. owners_rise (λ (r : Production). r.owner) leading (numbered lead_rows 0 all) (hosts_are host all own 0 host.productions)
        (own_is all lead_rows (λ (r : Production). r.owner) (λ (y : Addition). length y.rows.productions) (lead_are host all own) leading
        (hosts_are host all own 0 host.productions)) i j x y less at at'),
  )
  in_order i j x y less (in_lead at) (in_follow m is' at') = (
    (λ c. lead_role i x at),
    (λ f. absurd (not_both y.role (f (lead_role i x at)) (follow_role m y at'))),
  )
  in_order i j x y less (in_follow l is at) (in_lead at') =
      let within : j < length (leading ++ joined (numbered lead_rows 0 all)) =
      slice_get_within (leading ++ joined (numbered lead_rows 0 all)) j y at' in
      absurd (omega (arith, less, is, within))
  in_order i j x y less (in_follow l is at) (in_follow m is' at') = (
    (λ c. absurd (not_both y.role c (follow_role m y at'))),
    (λ f. owners_rise (λ (r : Production). r.owner) following (numbered follow_rows 0 all)
        (hosts_are host all own (length host.productions) host.abstract_productions)
        (own_is all follow_rows (λ (r : Production). r.owner) (λ (y : Addition). length y.rows.abstract_productions)
        (follow_are host all own) following
        (hosts_are host all own (length host.productions) host.abstract_productions)) l m x y (omega (arith, less, is, is')) at at'),
  )

  productions_grouped : IsGrouped (λ (r : Production). r.owner) (λ p r. r.role ≡ Concrete) (united_productions host all)
  productions_grouped i j x y less at at' =
      in_order i j x y less
      (group_of (λ (r : Production). r.owner) leading (numbered lead_rows 0 all) following (numbered follow_rows 0 all) i x at)
      (group_of (λ (r : Production). r.owner) leading (numbered lead_rows 0 all) following (numbered follow_rows 0 all) j y at')

  pub is_numbered : IsNumbered (united_attribution host all)
  is_numbered = record { signatures = refl; productions = productions_grouped; attributes = attributes_grouped }
