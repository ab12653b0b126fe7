-- Items that get the sets of what flows to them, one after another.
use Rattle.std.proofs.Common.{◌≡◌, ℕ, ◌+◌, ◌<◌, ◌≤◌, ◌^◌, ◌⊎◌, ◌++◌, ◌∷◌, [], Bool, List, length, Some, refl, sym, ◌∙◌, ap, subst, inl, inr, arith}
use Rattle.std.proofs.Common.{length-append}
use Rattle.std.specs.Prelude.{slice_get, slice_index_or, slice_set, ◌↔◌}
use Rattle.std.proofs.lemmas.Bool.{cases_eq, cases_lt}
use Rattle.std.proofs.lemmas.Option.{slice_get_within, slice_get-get_or}
use Rattle.std.proofs.lemmas.List.Elements.{All-contains, All-get_or}
use Rattle.wb_lemmas.proofs.Places.{at_once, default_at, push_last}
use Rattle.wb_lemmas.proofs.Members.{contains_at, place_of}
use Rattle.wb_termset.specs.Sets.{IsMember}
use Rattle.wb_grammar_theory.specs.declared.item.Item.{Item}
use Rattle.wb_grammar_theory.specs.Lookaheads.{IsLookahead}
use Rattle.wb_grammar_theory.proofs.FlowLemmas.{flows_exact}
use Rattle.wb_items.specs.Kernels.{AreKernels, KernelsView, LeadsTo, closure_of, count_of, prefix_of}
use Rattle.wb_items.specs.Lookaheads.{AreLookaheadsOf, HasNumber as HasSetNumber, IsSetOf, Lists, LookaheadsView, items_of, numbers_of, set_of}
use Rattle.wb_items.specs.LookaheadSets.{AreLookaheads}
use Rattle.wb_items.proofs.CallerLemmas.{items_are, set_once}
use Rattle.wb_items.proofs.RowLemmas.{set_number}
use Rattle.wb_items.proofs.PutLemmas.{added_other, added_set, added_shape, put_lists, put_lists_other, put_shape}
use Rattle.wb_digraph.specs.Inner.Filling.{AreFilledUpTo, HoldFlows, HoldFlowsLater, HoldsSets}
use Rattle.wb_digraph.specs.Inner.Links.{FlowsIn}
use Rattle.wb_digraph.specs.Inner.Pools.{AreNumbers, HaveWidth, set_at}
use Rattle.wb_digraph.proofs.PoolLemmas.{kept_at, pushed_at}

-- no set more
pub holds_none : (lookaheads : LookaheadsView) → length lookaheads.sets ≡ 1 → HoldsSets [] lookaheads
holds_none lookaheads one = record { len = one; same = λ n lt. absurd (omega (arith, lt)) }

-- one set more
pub holds_more : {kernels : KernelsView} (sets : List (List Bool)) (set : List Bool) (old new : LookaheadsView) →
    AreLookaheadsOf kernels old → new ≡ record old { sets = old.sets ++ set ∷ [] } → HoldsSets sets old → HoldsSets (sets ++ set ∷ []) new
holds_more sets set old new shape is h = record {
  len = (let e = ap (λ (z : LookaheadsView). length z.sets) is in let f = length-append old.sets (set ∷ []) in
      let g = length-append sets (set ∷ []) in let k = h.len in omega (arith, e, f, g, k));
  same = λ n lt. elim (cases_lt n (length sets)) [
    | inl less ↦ added_other shape.numbered set is (n + 1) (let e = h.len in omega (arith, e, less)) ∙ h.same n less
        ∙ sym (kept_at sets (set ∷ []) n less)
    | inr past ↦
        let e : n ≡ length sets = (let g = length-append sets (set ∷ []) in omega (arith, g, lt, past)) in
        let f : n + 1 ≡ length old.sets = (let k = h.len in omega (arith, k, e)) in
        ap (set_of new) f ∙ added_set shape.numbered set is ∙ sym (ap (set_at (sets ++ set ∷ [])) e ∙ pushed_at sets set)
  ];
}

-- what numbers have of sets they have of these behind another
pub holds_later : {kernels : KernelsView} {Number : ℕ → Item → ℕ → Type 0} (numbers : List ℕ) (sets : List (List Bool))
    (lookaheads : LookaheadsView) → HoldFlows kernels Number numbers sets → HoldsSets sets lookaheads →
    length sets + 1 < 2 ^ 64 → HoldFlowsLater kernels Number numbers lookaheads
holds_later {kernels} {Number} numbers sets lookaheads f h room = record {
  room = (let e = h.len in omega (arith, e, room));
  within = f.within;
  below = λ n m at. (let lt = there n m at in let e = h.len in omega (arith, lt, e));
  exact = λ s item n m t number at.
      let same = h.same m (there n m at) in
      let one = f.exact s item n m t number at in
      (λ has. one.0 (subst (λ z. IsMember z t) same has), λ flows. subst (λ z. IsMember z t) (sym same) (one.1 flows));
}
  where
    there : (n m : ℕ) → slice_get numbers n ≡ Some m → m < length sets
    there n m at = All-contains (λ k. k < length sets) numbers m f.below (contains_at numbers m n at)

module _ {kernels : KernelsView} (h : AreKernels kernels) (Number : ℕ → Item → ℕ → Type 0) (numbers : List ℕ) where
  -- one item more
  pub filled_more : (s place n m : ℕ) (item : Item) (old new : LookaheadsView) → slice_get (closure_of kernels s) place ≡ Some item →
      Number s item n → slice_get numbers n ≡ Some m →
      new ≡ record old { numbers = slice_set old.numbers s (slice_set (numbers_of old s) place (m + 1)) } →
      HoldFlowsLater kernels Number numbers old → AreFilledUpTo kernels s place old → AreFilledUpTo kernels s (place + 1) new
  filled_more s place n m item old new at number at_m is f h' = record {
    shape = put_shape h'.shape.numbered s place (m + 1) item at_old is (f.below n m at_m) h'.shape;
    exact = λ k j other t earlier at_j. elim (same_cases k s other item) [
      | inl (k_is, other_is) ↦
          let put = put_lists h'.shape.numbered s place (m + 1) item at_old is t in
          let flows = f.exact s item n m t number at_m in
          subst (λ z. Lists new z other t ↔ FlowsIn kernels z other t) (sym k_is)
          (subst (λ z. Lists new s z t ↔ FlowsIn kernels s z t) (sym other_is)
          ((λ lists. flows.0 (put.0 lists)), (λ to. put.1 (flows.1 to))))
      | inr ne ↦
          let before : (k < s) ⊎ ((k ≡ s) × (j < place)) = elim earlier [
            | inl less ↦ inl less
            | inr (same, lt) ↦ elim (cases_eq j place) [
              | inl here ↦ absurd (ne (
                same,
                at_once (closure_of kernels s) place other item
                    (subst (λ z. slice_get (closure_of kernels s) z ≡ Some other) here
                    (subst (λ z. slice_get (closure_of kernels z) j ≡ Some other) same at_j)) at,
              ))
              | inr there ↦ inr (same, omega (arith, lt, there))
            ]
          ] in
          let put = put_lists_other h'.shape.numbered s place (m + 1) item at_old is k other t ne in
          let one = h'.exact k j other t before at_j in
          ((λ lists. one.0 (put.1 lists)), (λ to. put.0 (one.1 to)))
    ];
  }
    where
      at_old : slice_get (items_of old s) place ≡ Some item
      at_old = subst (λ z. slice_get z place ≡ Some item) (sym (items_are h old h'.shape s)) at

      same_cases : (k s : ℕ) (other item : Item) → ((k ≡ s) × (other ≡ item)) ⊎ (((k ≡ s) × (other ≡ item)) → ⊥)
      same_cases k s other item = elim (cases_eq k s) [
        | inr ne ↦ inr (λ (same, _). ne same)
        | inl k_is ↦ elim (cases_eq other.production item.production) [
          | inr ne ↦ inr (λ (_, same). ne (ap (λ (z : Item). z.production) same))
          | inl production ↦ elim (cases_eq other.dot item.dot) [
            | inr ne ↦ inr (λ (_, same). ne (ap (λ (z : Item). z.dot) same))
            | inl dot ↦ inl (k_is, λ i. record { production = production i; dot = dot i })
          ]
        ]
      ]

  -- sets stay where numbers are put
  pub later_kept : (old new : LookaheadsView) → new.sets ≡ old.sets → HoldFlowsLater kernels Number numbers old →
      HoldFlowsLater kernels Number numbers new
  later_kept old new is f = record {
    room = (let e = ap length is in let lt = f.room in omega (arith, e, lt));
    within = f.within;
    below = λ n m at. (let lt = f.below n m at in let e = ap length is in omega (arith, lt, e));
    exact = λ s item n m t number at.
        let one = f.exact s item n m t number at in
        let same : set_of new (m + 1) ≡ set_of old (m + 1) = ap (λ z. slice_index_or z (m + 1) []) is in
        (λ has. one.0 (subst (λ z. IsMember z t) same has), λ flows. subst (λ z. IsMember z t) (sym same) (one.1 flows));
  }

-- no item
pub filled_none : {kernels : KernelsView} (lookaheads : LookaheadsView) → AreLookaheadsOf kernels lookaheads →
    AreFilledUpTo kernels 0 0 lookaheads
filled_none lookaheads shape = record {
  shape = shape;
  exact = λ k j item t earlier at. elim earlier [ inl less ↦ absurd (omega (arith, less)) | inr (_, lt) ↦ absurd (omega (arith, lt)) ];
}

-- all items of a kernel
pub filled_row : {kernels : KernelsView} (s place : ℕ) (lookaheads : LookaheadsView) → length (closure_of kernels s) ≤ place →
    AreFilledUpTo kernels s place lookaheads → AreFilledUpTo kernels (s + 1) 0 lookaheads
filled_row {kernels} s place lookaheads past h = record {
  shape = h.shape;
  exact = λ k j item t earlier at. h.exact k j item t (elim earlier [
    | inr (_, lt) ↦ absurd (omega (arith, lt))
    | inl less ↦ elim (cases_eq k s) [
      | inr ne ↦ inl (omega (arith, less, ne))
      | inl same ↦ inr (
        same,
        (let w = slice_get_within (closure_of kernels s) j item (subst (λ z. slice_get (closure_of kernels z) j ≡ Some item) same at) in
            omega (arith, w, past)),
      )
    ]
  ]) at;
}

-- all kernels
pub filled_all : {kernels : KernelsView} → AreKernels kernels → (s : ℕ) (lookaheads : LookaheadsView) → count_of kernels ≤ s →
    AreFilledUpTo kernels s 0 lookaheads → AreLookaheads kernels lookaheads
filled_all {kernels} h s lookaheads past f = record {
  shape = f.shape;
  exact = λ k item set t lt there.
      let (n, (j, at, has), is) = set_number lookaheads k item set there in
      let at_closure = subst (λ z. slice_get z j ≡ Some item) (items_are h lookaheads f.shape k) at in
      let one = f.exact k j item t (inl (omega (arith, lt, past))) at_closure in
      let flows = flows_exact kernels.grammar (count_of kernels) (prefix_of kernels) (LeadsTo kernels) h.live h.states k lt item t in (
        λ member. flows.0 (one.0 (set, there, member)),
        λ looks.
            let (other, there', member) = one.1 (flows.1 looks) in
            subst (λ z. IsMember z t) (set_once h lookaheads f.shape k item other set there' there) member,
      );
}
