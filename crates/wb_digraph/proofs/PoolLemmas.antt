-- Sets by numbers, as more of them are found.
use Rattle.std.proofs.Common.{◌≡◌, ℕ, ◌+◌, ◌<◌, ◌≤◌, ◌⊎◌, Bool, List, [], ◌∷◌, ◌++◌, length, get_or, take, Some, refl, sym, ◌∙◌, ap, subst, arith}
use Rattle.std.proofs.Common.{inl, inr, length-append, append_assoc}
use Rattle.std.specs.Prelude.{All, Contains, slice_get, ◌↔◌}
use Rattle.std.proofs.lemmas.List.{append-nil, take_all, take_more}
use Rattle.std.proofs.lemmas.List.Elements.{All-contains, All-get_or, All-push, All-weaker, Contains-get_or, Contains-push, Contains-push_cases}
use Rattle.std.proofs.lemmas.List.Elements.{Contains-append_left}
use Rattle.std.proofs.lemmas.Option.{slice_get-get_or}
use Rattle.wb_lemmas.proofs.Places.{append_before, default_at, push_last}
use Rattle.wb_lemmas.proofs.Members.{nothing_in}
use Rattle.wb_termset.specs.Sets.{IsEmpty, IsMember, IsUnion}
use Rattle.wb_digraph.specs.declared.pool.Union.{Union}
use Rattle.wb_digraph.specs.Inner.Pools.{AreNumbers, Extends, HasMembersOf, IsPool, IsUnionOf, set_at}

-- sets stay where there are more
pub kept_at : (old more : List (List Bool)) (n : ℕ) → n < length old → set_at (old ++ more) n ≡ set_at old n
kept_at old more n lt = default_at (old ++ more) n [] (set_at old n) (append_before old more n lt ∙ slice_get-get_or old n [] lt)

pub extended_at : (old new : List (List Bool)) (n : ℕ) → Extends old new → n < length old → set_at new n ≡ set_at old n
extended_at old new n (more, is) lt = ap (λ z. set_at z n) is ∙ kept_at old more n lt

pub extended_len : (old new : List (List Bool)) → Extends old new → length old ≤ length new
extended_len old new (more, is) = (let e = ap length is in let f = length-append old more in omega (arith, e, f))

pub extends_none : (sets : List (List Bool)) → Extends sets sets
extends_none sets = ([], sym (append-nil sets))

pub extends_then : (old mid new : List (List Bool)) → Extends old mid → Extends mid new → Extends old new
extends_then old mid new (one, is) (two, is') = (one ++ two, is' ∙ ap (λ z. z ++ two) is ∙ append_assoc old one two)

pub numbers_kept : (old new : List (List Bool)) (numbers : List ℕ) → Extends old new → AreNumbers old numbers → AreNumbers new numbers
numbers_kept old new numbers more h =
    All-weaker (λ n. n < length old) (λ n. n < length new)
    (λ n lt. let le = extended_len old new more in omega (arith, le, lt)) numbers h

-- a union stays where there are more sets
pub union_kept : (old new : List (List Bool)) (parts : List ℕ) (whole : ℕ) → Extends old new → IsUnionOf old parts whole →
    IsUnionOf new parts whole
union_kept old new parts whole more h = record {
  numbers = numbers_kept old new parts more h.numbers;
  within = (let le = extended_len old new more in let lt = h.within in omega (arith, le, lt));
  members = λ t. (
    λ has. let (n, of, member) = (h.members t).0 (subst (λ z. IsMember z t) (extended_at old new whole more h.within) has) in (
      n,
      of,
      subst (λ z. IsMember z t) (sym (extended_at old new n more (below n of))) member,
    ),
    λ (n, of, member). subst (λ z. IsMember z t) (sym (extended_at old new whole more h.within))
        ((h.members t).1 (n, of, subst (λ z. IsMember z t) (extended_at old new n more (below n of)) member)),
  );
}
  where
    below : (n : ℕ) → Contains parts n → n < length old
    below n of = All-contains (λ n. n < length old) parts n h.numbers of

-- one set more
pub pool_push : (sets : List (List Bool)) (set : List Bool) (unions : List Union) → length set ≡ length (set_at sets 0) →
    IsPool sets unions → IsPool (sets ++ set ∷ []) unions
pool_push sets set unions len h =
    let first : set_at (sets ++ set ∷ []) 0 ≡ set_at sets 0 = kept_at sets (set ∷ []) 0 h.some in
    record {
      some = (let e = length-append sets (set ∷ []) in let lt = h.some in omega (arith, e, lt));
      empty = subst IsEmpty (sym first) h.empty;
      widths = subst (λ (z : List Bool). All (λ s. length s ≡ length z) (sets ++ set ∷ [])) (sym first)
          (All-push (λ s. length s ≡ length (set_at sets 0)) sets set h.widths len);
      remembered = All-weaker (λ (u : Union). IsUnionOf sets u.parts.items u.whole)
          (λ (u : Union). IsUnionOf (sets ++ set ∷ []) u.parts.items u.whole)
          (λ (u : Union) k. union_kept sets (sets ++ set ∷ []) u.parts.items u.whole (set ∷ [], refl) k) unions h.remembered;
    }

pub pushed_at : (sets : List (List Bool)) (set : List Bool) → set_at (sets ++ set ∷ []) (length sets) ≡ set
pushed_at sets set = default_at (sets ++ set ∷ []) (length sets) [] set (push_last sets set)

-- the first set and unions of none
pub pool_start : (set : List Bool) (unions : List Union) → IsEmpty set →
    All (λ (u : Union). (u.parts.items ≡ []) × (u.whole ≡ 0)) unions → IsPool (set ∷ []) unions
pool_start set unions empty none = record {
  some = omega arith;
  empty = empty;
  widths = All-push (λ (s : List Bool). length s ≡ length set) [] set (λ k d lt. absurd (omega (arith, lt))) refl;
  remembered = All-weaker (λ (u : Union). (u.parts.items ≡ []) × (u.whole ≡ 0))
      (λ (u : Union). IsUnionOf (set ∷ []) u.parts.items u.whole)
      (λ (u : Union) (parts, whole). subst (λ z. IsUnionOf (set ∷ []) z u.whole) (sym parts)
      (subst (IsUnionOf (set ∷ []) []) (sym whole) nothing)) unions none;
}
  where
    nothing : IsUnionOf (set ∷ []) [] 0
    nothing = record {
      numbers = λ k d lt. absurd (omega (arith, lt));
      within = omega arith;
      members = λ t. (λ has. absurd (empty t has), λ (n, of, member). absurd (nothing_in n of));
    }

-- the members of the parts before the first
pub united_start : (sets : List (List Bool)) (parts : List ℕ) (set : List Bool) → set ≡ set_at sets 0 → IsEmpty (set_at sets 0) →
    HasMembersOf sets (take 0 parts) set
united_start sets parts set is empty t = (
  λ has. absurd (empty t (subst (λ z. IsMember z t) is has)),
  λ (n, of, member). absurd (nothing_in n of),
)

-- one part more
pub united_more : (sets : List (List Bool)) (parts : List ℕ) (i d : ℕ) (old new : List Bool) → i < length parts →
    IsUnion old (set_at sets (get_or parts i d)) new → HasMembersOf sets (take i parts) old → HasMembersOf sets (take (i + 1) parts) new
united_more sets parts i d old new lt union h t = (
  λ has. elim ((union.each t).0 has) [
    | inl before ↦ (let (n, of, member) = (h t).0 before in (n, more (Contains-push_left n of), member))
    | inr fresh ↦ (get_or parts i d, more (Contains-push (take i parts) (get_or parts i d)), fresh)
  ],
  λ (n, of, member). (union.each t).1 (elim (Contains-push_cases (take i parts) (get_or parts i d) n
      (subst (λ z. Contains z n) (take_more parts i d lt) of)) [
        | inl before ↦ inl ((h t).1 (n, before, member))
        | inr last ↦ inr (subst (λ z. IsMember (set_at sets z) t) (sym last) member)
      ]),
)
  where
    more : {n : ℕ} → Contains (take i parts ++ get_or parts i d ∷ []) n → Contains (take (i + 1) parts) n
    more {n} of = subst (λ z. Contains z n) (sym (take_more parts i d lt)) of

    Contains-push_left : (n : ℕ) → Contains (take i parts) n → Contains (take i parts ++ get_or parts i d ∷ []) n
    Contains-push_left n of = Contains-append_left (take i parts) (get_or parts i d ∷ []) n of

-- all parts
pub united_all : (sets : List (List Bool)) (parts : List ℕ) (i : ℕ) (set : List Bool) → length parts ≤ i →
    HasMembersOf sets (take i parts) set → HasMembersOf sets parts set
united_all sets parts i set past h = subst (λ z. HasMembersOf sets z set) (take_all i parts past) h

-- the number of a set that has the members of the parts
pub union_of_set : (old new : List (List Bool)) (parts : List ℕ) (whole : ℕ) (set : List Bool) → Extends old new → AreNumbers old parts →
    HasMembersOf old parts set → whole < length new → set_at new whole ≡ set → IsUnionOf new parts whole
union_of_set old new parts whole set more below h lt is = record {
  numbers = numbers_kept old new parts more below;
  within = lt;
  members = λ t. (
    λ has. let (n, of, member) = (h t).0 (subst (λ z. IsMember z t) is has) in (
      n,
      of,
      subst (λ z. IsMember z t) (sym (extended_at old new n more (All-contains (λ n. n < length old) parts n below of))) member,
    ),
    λ (n, of, member). subst (λ z. IsMember z t) (sym is) ((h t).1 (
      n,
      of,
      subst (λ z. IsMember z t) (extended_at old new n more (All-contains (λ n. n < length old) parts n below of)) member,
    )),
  );
}

-- one part is its own union
pub union_of_one : (sets : List (List Bool)) (parts : List ℕ) (d : ℕ) → AreNumbers sets parts → length parts ≡ 1 →
    IsUnionOf sets parts (get_or parts 0 d)
union_of_one sets [] d below len = absurd (omega (arith, len))
union_of_one sets (n ∷ []) d below len = record {
  numbers = below;
  within = All-get_or (λ n. n < length sets) (n ∷ []) 0 0 (omega arith) below;
  members = λ t. (
    λ has. (n, Contains-push [] n, has),
    λ (m, of, member). elim (Contains-push_cases [] n m of) [
      | inl none ↦ absurd (nothing_in m none)
      | inr same ↦ subst (λ z. IsMember (set_at sets z) t) (sym same) member
    ],
  );
}
union_of_one sets (n ∷ m ∷ parts) d below len = absurd (omega (arith, len))

-- the width of a set by number
pub width_at : (sets : List (List Bool)) (unions : List Union) (n : ℕ) → IsPool sets unions → n < length sets →
    length (set_at sets n) ≡ length (set_at sets 0)
width_at sets unions n h lt = All-get_or (λ s. length s ≡ length (set_at sets 0)) sets n [] lt h.widths

-- a set that was read is that of its number
pub set_read : (inside now : List (List Bool)) (n : ℕ) (r : List Bool) → inside ≡ now → n < length now → r ≡ get_or inside n r →
    r ≡ set_at now n
set_read inside now n r same lt is =
    let at : r ≡ get_or now n r = is ∙ ap (λ z. get_or z n r) same in
    sym (default_at now n [] r (slice_get-get_or now n r lt ∙ ap Some (sym at)))
