-- Each production of a union is in that of the other order, in new numbers, with all that is written on it.
use Rattle.std.proofs.Common.{◌≡◌, ◌∙◌, ℕ, List, Some, Contains, map, option_map, slice_get, refl, sym, ap, subst, inr}
use Rattle.wb_lemmas.proofs.Elements.{all_at, all_contained}
use Rattle.wb_lemmas.proofs.Places.{at_once}
use Rattle.wb_compose_theory_attribute_order.specs.Attributions.{ProductionLeadsTo, renamed_equation, renamed_local}
use Rattle.wb_compose_theory_attribute_order.specs.Renumberings.{Renumbering, owner_by}
use Rattle.wb_compose_theory_order.specs.Orders.{IsReordering}
use Rattle.wb_syntax_resolved.specs.declared.attribution.AttributionParts.{AttributionParts}
use Rattle.wb_syntax_resolved.specs.declared.equation.Equation.{Equation}
use Rattle.wb_syntax_resolved.specs.declared.production.Local.{Local}
use Rattle.wb_syntax_resolved.specs.declared.production.Production.{Production}
use Rattle.wb_syntax_resolved.specs.Owners.{IsOwner, Sees}
use Rattle.wb_compose_theory_attributes.specs.Numbers.{NumberMap}
use Rattle.wb_compose_theory_attributes.specs.Rows.{new_child, new_equation, new_forward, new_local}
use Rattle.wb_compose_theory_attributes.specs.Seen.{IsSeenProduction}
use Rattle.wb_compose_theory_attributes.specs.Unions.{IsWithin, IsWrittenWithin, MayStandOn}
use Rattle.wb_compose_theory_lists.specs.Additions.{Addition, Rows}
use Rattle.wb_compose_theory_lists.specs.Numbers.{numbers_of}
use Rattle.wb_compose_theory_lists.specs.United.{united_attribution}
use Rattle.wb_compose_theory_lists.proofs.TwiceLemmas.{child_twice, equation_twice, forward_twice, local_twice, map_twice, option_twice}
use Rattle.wb_compose_theory_attribute_order.specs.Orders.{reordered_rows}
use Rattle.wb_compose_theory_attribute_order.proofs.MovedLemmas.{IsIn}
use Rattle.wb_compose_theory_attribute_order.proofs.OrderRowLemmas.{AreOwn, seen_here, seen_there}
use Rattle.wb_compose_theory_attribute_order.proofs.SharedLemmas.{in_both, locals_twice, no_owners, owner_there, twice}

module _ (host : Rows) {all others : List Addition} {to from : ℕ → ℕ} (re : IsReordering to from all others)
    (own : AreOwn all) (other_own : AreOwn others) where
  abbrev r : Renumbering
  r = reordered_rows host all others to

  abbrev a : AttributionParts
  a = united_attribution host all

  abbrev b : AttributionParts
  b = united_attribution host others

  -- a production that an owner sees, in both orders
  record Both (p : ℕ) (row : Production) (owner other k l : ℕ) (x : Addition) : Type 0 where
    number : ℕ
    source : Production
    there : Production
    p_is : p ≡ (numbers_of host all k x).production number
    at : slice_get b.productions (r.numbers.production p) ≡ Some there
    seen : IsSeenProduction (numbers_of host all k x) owner number source row
    seen_too : IsSeenProduction (numbers_of host others l x) other number source there

  module _ {owner other k l : ℕ} {x : Addition} (is_in : IsIn all others to owner other k l x) where
    abbrev here : NumberMap
    here = numbers_of host all k x

    abbrev beyond : NumberMap
    beyond = numbers_of host others l x

    both : (p : ℕ) (row : Production) → slice_get a.productions p ≡ Some row → Sees owner row.owner → Both p row owner other k l x
    both p row at sees =
        let one = seen_here host re own other_own is_in in
        let two = seen_there host re own other_own is_in in
        let (number, source, source_at, p_is) = one.productions_from p row at sees in
        let (row', at', seen) = one.productions number source source_at in
        let (there, there_at, seen_too) = two.productions number source source_at in
        let row_is = at_once a.productions (here.production number) row' row at' (subst (λ z. slice_get a.productions z ≡ Some row) p_is at) in
        record {
          number = number;
          source = source;
          there = there;
          p_is = p_is;
          at = ap (slice_get b.productions) (ap r.numbers.production p_is ∙ (twice host re is_in).production number) ∙ there_at;
          seen = subst (IsSeenProduction here owner number source) row_is seen;
          seen_too = seen_too;
        }

    module _ (p : ℕ) (row : Production) (s : Both p row owner other k l x) where
      -- locals of the production
      moves : (y : ℕ) → r.numbers.local_in p (here.local_in s.number y) ≡ beyond.local_in s.number y
      moves y = ap (λ z. r.numbers.local_in z (here.local_in s.number y)) s.p_is ∙ locals_twice host re is_in s.number y

      children_are : s.there.children ≡ map (new_child r.numbers) row.children
      children_are =
          s.seen_too.children
          ∙ (sym (map_twice (new_child here) (new_child r.numbers) (new_child beyond) (child_twice here r.numbers beyond (twice host re is_in))
          s.source.children) ∙ ap (map (new_child r.numbers)) (sym s.seen.children))

      forward_is : s.there.forward ≡ option_map (new_forward r.numbers p) row.forward
      forward_is =
          s.seen_too.forward
          ∙ (sym (option_twice (new_forward here s.number) (new_forward r.numbers p) (new_forward beyond s.number)
          (forward_twice here r.numbers beyond (twice host re is_in) s.number p s.number moves) s.source.forward)
          ∙ ap (option_map (new_forward r.numbers p)) (sym s.seen.forward))

      local_new : (l : Local) → renamed_local r p (new_local here s.number owner l) ≡ new_local beyond s.number other l
      local_new l =
          let rows = local_twice here r.numbers beyond (twice host re is_in) s.number p s.number moves owner 0 0 (no_owners owner) l in
          let owners = owner_there is_in l.owner in
          λ i. record (rows i) { owner = owners i }

      equation_new : (e : Equation) → renamed_equation r p (new_equation here s.number owner e) ≡ new_equation beyond s.number other e
      equation_new e =
          let rows = equation_twice here r.numbers beyond (twice host re is_in) s.number p s.number moves owner 0 0 (no_owners owner) e in
          let owners = owner_there is_in e.owner in
          λ i. record (rows i) { owner = owners i }

      local_in : (y : ℕ) (l : Local) → slice_get row.locals y ≡ Some l → owner ≡ l.owner
          → slice_get s.there.locals (r.numbers.local_in p y) ≡ Some (renamed_local r p l)
      local_in y l at mine =
          let (n, source, source_at, y_is) = s.seen.locals_from y l at (inr (sym mine)) in
          let l_is = at_once row.locals (here.local_in s.number n) (new_local here s.number owner source) l (s.seen.locals n source source_at)
          (subst (λ z. slice_get row.locals z ≡ Some l) y_is at) in
          ap (slice_get s.there.locals) (ap (r.numbers.local_in p) y_is ∙ moves n)
          ∙ (s.seen_too.locals n source source_at ∙ ap Some (sym (local_new source) ∙ ap (renamed_local r p) l_is))

      equation_in : (e : Equation) → Contains row.equations e → owner ≡ e.owner → Contains s.there.equations (renamed_equation r p e)
      equation_in e has mine =
          let (source, source_has, e_is) = s.seen.equations_from e has (inr (sym mine)) in
          subst (Contains s.there.equations) (sym (equation_new source) ∙ ap (renamed_equation r p) (sym e_is))
          (s.seen_too.equations source source_has)

      owner_is : s.there.owner ≡ owner_by to row.owner
      owner_is = s.seen_too.owner ∙ (sym (owner_there is_in s.source.owner) ∙ ap (owner_by to) (sym s.seen.owner))

      left_is : s.there.left ≡ r.numbers.nonterminal row.left
      left_is = s.seen_too.left ∙ (sym ((twice host re is_in).nonterminal s.source.left) ∙ ap r.numbers.nonterminal (sym s.seen.left))

  module _ (within : IsWithin a) where
    -- what is written on a production
    module _ (p : ℕ) (row : Production) (at : slice_get a.productions p ≡ Some row) (there : Production)
        (there_at : slice_get b.productions (r.numbers.production p) ≡ Some there) where
      written : IsWrittenWithin a row
      written = all_at (IsWrittenWithin a) a.productions p row within.written at

      local_there : (y : ℕ) (l : Local) → slice_get row.locals y ≡ Some l
          → slice_get there.locals (r.numbers.local_in p y) ≡ Some (renamed_local r p l)
      local_there y l has =
          let may = all_at (λ (z : Local). MayStandOn a row z.owner) row.locals y l written.locals has in
          let o = in_both re l.owner may.is_owner in
          let s = both o.is_in p row at may.sees in
          let same = at_once b.productions (r.numbers.production p) s.there there s.at there_at in
          subst (λ (z : Production). slice_get z.locals (r.numbers.local_in p y) ≡ Some (renamed_local r p l)) same
          (local_in o.is_in p row s y l has refl)

      equation_there : (e : Equation) → Contains row.equations e → Contains there.equations (renamed_equation r p e)
      equation_there e has =
          let may = all_contained (λ (z : Equation). MayStandOn a row z.owner) row.equations e written.equations has in
          let o = in_both re e.owner may.is_owner in
          let s = both o.is_in p row at may.sees in
          let same = at_once b.productions (r.numbers.production p) s.there there s.at there_at in
          subst (λ (z : Production). Contains z.equations (renamed_equation r p e)) same (equation_in o.is_in p row s e has refl)

    pub production_there : (p : ℕ) (row : Production) → slice_get a.productions p ≡ Some row
        → (there : Production) × (slice_get b.productions (r.numbers.production p) ≡ Some there) × ProductionLeadsTo r p row there
    production_there p row at =
        let bounded = all_at (λ (z : Production). IsOwner a.extensions z.owner) a.productions p row within.productions at in
        let o = in_both re row.owner bounded in
        let s = both o.is_in p row at (inr refl) in (
          s.there,
          s.at,
          record {
            name = s.seen_too.name ∙ sym s.seen.name;
            owner = owner_is o.is_in p row s;
            role = s.seen_too.role ∙ sym s.seen.role;
            left = left_is o.is_in p row s;
            children = children_are o.is_in p row s;
            forward = forward_is o.is_in p row s;
            locals = local_there p row at s.there s.at;
            equations = equation_there p row at s.there s.at;
          },
        )
