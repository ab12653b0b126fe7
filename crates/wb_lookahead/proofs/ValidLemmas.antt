-- The valid terminals of a kernel, item by item; they are those of a kernel without conflict unless two of their sets meet.
use Rattle.std.proofs.Common.{◌≡◌, ◌≢◌, ℕ, suc, ◌+◌, ◌<◌, ◌≤◌, ◌⊎◌, Bool, false, List, [], ◌∷◌, ◌++◌, Some, length, drop, refl, sym, ◌∙◌, ap, subst}
use Rattle.std.proofs.Common.{inl, inr, arith, length-append}
use Rattle.std.specs.Prelude.{◌↔◌, slice_get}
use Rattle.std.proofs.lemmas.Bool.{cases_eq, cases_lt}
use Rattle.std.proofs.lemmas.List.{length-replicate, length-drop}
use Rattle.std.proofs.lemmas.Option.{slice_get_within}
use Rattle.wb_lemmas.proofs.Places.{at_once}
use Rattle.wb_lemmas.proofs.Members.{contains_at, place_of}
use Rattle.wb_base.specs.declared.symbol.Symbol.{Symbol}
use Rattle.wb_base.specs.declared.symbol.Symbol.TheVariants.{Terminal}
use Rattle.wb_base.specs.Grammar.{GrammarView}
use Rattle.wb_termset.specs.Sets.{IsMember, IsUnion, Intersects}
use Rattle.wb_termset.proofs.CallerLemmas.{IsEmpty-replicate}
use Rattle.wb_grammar_theory.specs.declared.item.Item.{Item}
use Rattle.wb_grammar_theory.specs.Items as valid
use Rattle.wb_grammar_theory.specs.Productions.{right_of, top_of}
use Rattle.wb_grammar_theory.specs.Items.{after_dot, HasItem, IsValidItem}
use Rattle.wb_grammar_theory.specs.Lookaheads.{CanShift, CanReduce, HasConflict, HasNoConflict, IsLookahead}
use Rattle.wb_grammar_theory.proofs.ValidLemmas.{same_conflict}
use Rattle.wb_items.specs.Kernels.{KernelsView, AreKernels, Precedes, closure_of, count_of, prefix_of}
use Rattle.wb_lookahead.specs.declared.action.Action.{Action}
use Rattle.wb_lookahead.specs.declared.action.Action.TheVariants.{Shift}
use Rattle.wb_lookahead.specs.declared.valid.Sets.{Sets}
use Rattle.wb_lookahead.specs.Inner.Rows.{IsRowOf}
use Rattle.wb_lookahead.specs.Inner.Valid.{AddsActions, AreClearUpTo, AreEmpty, AreSetsOf, HasConflictAt, IsClearSet, IsReduced, IsShifted}
use Rattle.wb_lookahead.specs.Inner.Valid.{Meets, Reduces, SetsUpTo, Shifts}
use Rattle.wb_lookahead.proofs.RowLemmas.{each_more, row_only}
use Rattle.wb_lookahead.proofs.StandLemmas.{not_shift, reduction_stands, reductions_once, shift_stands}

-- nothing is found yet
pub none_yet : (kernels : KernelsView) (s : ℕ) (sets : Sets) → AreEmpty (kernels.grammar.terminals + 1) sets → SetsUpTo kernels s 0 sets
none_yet kernels s sets is = record {
  shifted_len = ap length is.shifted ∙ length-replicate count false;
  reduced_len = ap length is.reduced ∙ length-replicate count false;
  shifted = λ t. (
    λ has. absurd (IsEmpty-replicate count t (subst (λ z. IsMember z t) is.shifted has)),
    λ found. (let lt = found.below in absurd (omega arith)),
  );
  reduced = λ t. (
    λ has. absurd (IsEmpty-replicate count t (subst (λ z. IsMember z t) is.reduced has)),
    λ found. (let lt = found.below in absurd (omega arith)),
  );
  apart = λ i j t one other before lt at there a b. absurd (omega arith);
}
  where
    count : ℕ
    count = kernels.grammar.terminals + 1

module _ {kernels : KernelsView} {s : ℕ} where
  -- one item more is shifted, or reduced
  shifted_more : (n t : ℕ) → IsShifted kernels s n t → IsShifted kernels s (n + 1) t
  shifted_more n t f = record {
    place = f.place;
    item = f.item;
    below = (let lt = f.below in omega arith);
    at = f.at;
    shifts = f.shifts;
  }

  reduced_more : (n t : ℕ) → IsReduced kernels s n t → IsReduced kernels s (n + 1) t
  reduced_more n t f = record {
    place = f.place;
    item = f.item;
    below = (let lt = f.below in omega arith);
    at = f.at;
    reduces = f.reduces;
  }

  -- the sets with one item more
  pub sets_more : (n : ℕ) (item : Item) (old new : Sets) → slice_get (closure_of kernels s) n ≡ Some item → SetsUpTo kernels s n old →
      AddsActions kernels s item old new → SetsUpTo kernels s (n + 1) new
  sets_more n item old new here is adds = record {
    shifted_len = adds.shifted_len ∙ is.shifted_len;
    reduced_len = adds.reduced_len ∙ is.reduced_len;
    shifted = λ t. (
      λ has. elim ((adds.shifted t).0 has) [
        | inl before ↦ shifted_more n t ((is.shifted t).0 before)
        | inr now ↦ record { place = n; item = item; below = omega arith; at = here; shifts = now }
      ],
      λ found. (adds.shifted t).1 (shifted_by t found (cases_eq found.place n)),
    );
    reduced = λ t. (
      λ has. elim ((adds.reduced t).0 has) [
        | inl before ↦ reduced_more n t ((is.reduced t).0 before)
        | inr now ↦ record { place = n; item = item; below = omega arith; at = here; reduces = now }
      ],
      λ found. (adds.reduced t).1 (reduced_by t found (cases_eq found.place n)),
    );
    apart = λ i j t one other before lt at there a b. apart_by i j t one other before lt at there a b (cases_eq j n);
  }
    where
      is_here : (place : ℕ) (one : Item) → slice_get (closure_of kernels s) place ≡ Some one → place ≡ n → one ≡ item
      is_here place one at same =
          at_once (closure_of kernels s) n one item (subst (λ z. slice_get (closure_of kernels s) z ≡ Some one) same at) here

      shifted_by : (t : ℕ) (f : IsShifted kernels s (n + 1) t) → (f.place ≡ n) ⊎ (f.place ≡ n → ⊥) → IsMember old.shifted t ⊎
          Shifts kernels item t
      shifted_by t f (inl same) = inr (subst (λ z. Shifts kernels z t) (is_here f.place f.item f.at same) f.shifts)
      shifted_by t f (inr other) = inl ((is.shifted t).1
          (record { place = f.place; item = f.item; below = (let lt = f.below in omega arith); at = f.at; shifts = f.shifts }))

      reduced_by : (t : ℕ) (f : IsReduced kernels s (n + 1) t) → (f.place ≡ n) ⊎ (f.place ≡ n → ⊥) → IsMember old.reduced t ⊎
          Reduces kernels s item t
      reduced_by t f (inl same) = inr (subst (λ z. Reduces kernels s z t) (is_here f.place f.item f.at same) f.reduces)
      reduced_by t f (inr other) = inl ((is.reduced t).1
          (record { place = f.place; item = f.item; below = (let lt = f.below in omega arith); at = f.at; reduces = f.reduces }))

      apart_by : (i j t : ℕ) (one other : Item) → i < j → j < n + 1 → slice_get (closure_of kernels s) i ≡ Some one →
          slice_get (closure_of kernels s) j ≡ Some other → Reduces kernels s one t → Reduces kernels s other t →
          (j ≡ n) ⊎ (j ≡ n → ⊥) → ⊥
      apart_by i j t one other before lt at there a b (inl same) =
          adds.fresh t (subst (λ z. Reduces kernels s z t) (is_here j other there same) b) ((is.reduced t).1
          (record { place = i; item = one; below = omega arith; at = at; reduces = a }))
      apart_by i j t one other before lt at there a b (inr differ) = is.apart i j t one other before (omega arith) at there a b

-- the lookaheads of a complete item, which meet none that was there, are added
pub reductions_added : (kernels : KernelsView) (s : ℕ) (item : Item) (old : Sets) (set new : List Bool) →
    after_dot kernels.grammar item ≡ [] → ((t : ℕ) → IsMember set t ↔ IsLookahead kernels.grammar (prefix_of kernels s) item t) →
    IsUnion old.reduced set new × (¬ Intersects old.reduced set) →
    AddsActions kernels s item old (record { shifted = old.shifted; reduced = new })
reductions_added kernels s item old set new complete exact (joined, apart) = record {
  shifted_len = refl;
  reduced_len = joined.len;
  shifted = λ t. (λ has. inl has, λ either. elim either [ inl has ↦ has | inr (rest, is) ↦ absurd (no_symbol rest t is) ]);
  reduced = λ t. (
    λ has. elim ((joined.each t).0 has) [ inl before ↦ inl before | inr now ↦ inr (complete, (exact t).0 now) ],
    λ either. (joined.each t).1 (elim either [ inl before ↦ inl before | inr now ↦ inr ((exact t).1 now.1) ]),
  );
  fresh = λ t reduces has. apart (t, has, (exact t).1 reduces.1);
}
  where
    no_symbol : (rest : List Symbol) (t : ℕ) → after_dot kernels.grammar item ≡ Terminal t ∷ rest → ⊥
    no_symbol rest t is = (let e : [] ≡ Terminal t ∷ rest = sym complete ∙ is in cc)

-- where they meet one that was there, the item reduces before it too
pub meets_at : (kernels : KernelsView) (s : ℕ) (item : Item) (sets : Sets) (set : List Bool) → after_dot kernels.grammar item ≡ [] →
    ((t : ℕ) → IsMember set t ↔ IsLookahead kernels.grammar (prefix_of kernels s) item t) → Intersects sets.reduced set →
    Meets kernels s item sets
meets_at kernels s item sets set complete exact (t, has, member) =
    record { terminal = t; has = has; reduces = (complete, (exact t).0 member) }

-- a dot is within the right side
dot_within : {g : GrammarView} {prefix : List Symbol} {item : Item} {t : ℕ} → IsValidItem g prefix item t →
    item.dot ≤ length (right_of g item.production)
dot_within {g} valid.start = omega arith
dot_within {g} (valid.close item t b rest q u right v is rule first) = omega arith
dot_within {g} (valid.move item x rest prefix v is longer_is moved_is) =
    subst (λ (z : Item). z.dot ≤ length (right_of g z.production)) (sym moved_is)
    (let e : length (drop item.dot (right_of g item.production)) ≡ suc (length rest) = ap length is in
    omega (arith, e, length-drop item.dot (right_of g item.production)))

-- of complete items the one before is of a lesser production
complete_differ : {g : GrammarView} {prefix : List Symbol} {one other : Item} → Precedes one other → after_dot g one ≡ [] →
    HasItem g prefix other → one.production ≢ other.production
complete_differ (inl less) complete has e = omega (arith, less, e)
complete_differ {g} {prefix} {one} {other} (inr (same, less)) complete (t, v) e =
    let empty : length (drop one.dot (right_of g one.production)) ≡ 0 = ap length complete in
    let within : other.dot ≤ length (right_of g one.production) = subst (λ p. other.dot ≤ length (right_of g p)) (sym same) (dot_within v) in
    omega (arith, empty, length-drop one.dot (right_of g one.production), within, less)

module _ {kernels : KernelsView} {s : ℕ} (h : AreKernels kernels) (below : s < count_of kernels) where
  abbrev g : GrammarView
  g = kernels.grammar

  abbrev items : List Item
  items = closure_of kernels s

  -- a listed item is one of the prefix
  has_at : (place : ℕ) (item : Item) → slice_get items place ≡ Some item → HasItem g (prefix_of kernels s) item
  has_at place item at = (h.closures s below item).0 (contains_at items item place at)

  -- what an item shifts can be shifted
  can_shift : (n t : ℕ) → IsShifted kernels s n t → CanShift g (prefix_of kernels s) t
  can_shift n t f = record { item = f.item; rest = f.shifts.0; has = has_at f.place f.item f.at; before_dot = f.shifts.1 }

  -- where an item reduces, its production can be reduced
  can_reduce : (place t : ℕ) (item : Item) → slice_get items place ≡ Some item → Reduces kernels s item t →
      CanReduce g (prefix_of kernels s) item.production t
  can_reduce place t item at is =
      record { item = item; production = refl; complete = is.0; has = has_at place item at; lookahead = is.1 }

  -- the place of what can be shifted
  shifts_at : (t : ℕ) → CanShift g (prefix_of kernels s) t → IsShifted kernels s (length items) t
  shifts_at t can =
      let (place, at) = place_of items can.item ((h.closures s below can.item).1 can.has) in
      record { place = place; item = can.item; below = slice_get_within items place can.item at; at = at; shifts = (can.rest, can.before_dot) }

  -- the place of what can be reduced
  reduces_at : (p t : ℕ) → CanReduce g (prefix_of kernels s) p t → (found : IsReduced kernels s (length items) t) ×
      (found.item.production ≡ p)
  reduces_at p t can =
      let (place, at) = place_of items can.item ((h.closures s below can.item).1 can.has) in (
        record {
          place = place;
          item = can.item;
          below = slice_get_within items place can.item at;
          at = at;
          reduces = (can.complete, can.lookahead);
        },
        can.production,
      )

  -- two items that reduce before one terminal are a conflict
  pub meets_conflict : (n : ℕ) (item : Item) (sets : Sets) → slice_get items n ≡ Some item → SetsUpTo kernels s n sets →
      Meets kernels s item sets → HasConflictAt kernels s
  meets_conflict n item sets here is met =
      let found = (is.reduced met.terminal).0 met.has in (
        met.terminal,
        inr (
          found.item.production,
          item.production,
          complete_differ (h.in_order s found.place n found.item item found.below found.at here) found.reduces.0 (has_at n item here),
          can_reduce found.place met.terminal found.item found.at found.reduces,
          can_reduce n met.terminal item here met.reduces,
        ),
      )

  -- so are one that shifts a terminal and one that reduces before it
  pub intersects_conflict : (n : ℕ) (sets : Sets) → SetsUpTo kernels s n sets → Intersects sets.shifted sets.reduced →
      HasConflictAt kernels s
  intersects_conflict n sets is (t, one, other) =
      let found = (is.reduced t).0 other in
      (t, inl (found.item.production, can_shift n t ((is.shifted t).0 one), can_reduce found.place t found.item found.at found.reduces))

  -- else there is none
  clear : (sets : Sets) → AreSetsOf kernels s sets → ¬ HasConflictAt kernels s
  clear sets are (t, inl (p, can, reduction)) =
      are.disjoint (t, (are.all.shifted t).1 (shifts_at t can), (are.all.reduced t).1 (reduces_at p t reduction).0)
  clear sets are (t, inr (p, q, differ, one, other)) =
      let (a, a_is) = reduces_at p t one in
      let (b, b_is) = reduces_at q t other in
      in_turn a b (λ e. differ (sym a_is ∙ ap (λ (z : Item). z.production) e ∙ b_is)) (cases_lt a.place b.place) (cases_lt b.place a.place)
    where
      in_turn : (a b : IsReduced kernels s (length items) t) → a.item ≢ b.item → (a.place < b.place) ⊎ (b.place ≤ a.place) →
          (b.place < a.place) ⊎ (a.place ≤ b.place) → ⊥
      in_turn a b differ (inl less) _ = are.all.apart a.place b.place t a.item b.item less b.below a.at b.at a.reduces b.reduces
      in_turn a b differ (inr _) (inl less) = are.all.apart b.place a.place t b.item a.item less a.below b.at a.at b.reduces a.reduces
      in_turn a b differ (inr le) (inr back) =
          let same : a.place ≡ b.place = omega (arith, le, back) in
          differ (at_once items b.place a.item b.item (subst (λ z. slice_get items z ≡ Some a.item) same a.at) b.at)

  -- and the members of both sets are the valid terminals
  pub union_clear : (sets : Sets) (union : List Bool) → AreSetsOf kernels s sets → IsUnion sets.shifted sets.reduced union →
      IsClearSet kernels s union
  union_clear sets union are joined = record {
    valid = record {
      len = joined.len ∙ are.all.shifted_len;
      each = λ t le. (
        λ has. elim ((joined.each t).0 has) [
          | inl one ↦ inl (can_shift (length items) t ((are.all.shifted t).0 one))
          | inr other ↦
              let found = (are.all.reduced t).0 other in
              inr (found.item.production, can_reduce found.place t found.item found.at found.reduces)
        ],
        λ can. elim can [
          | inl shift ↦ (joined.each t).1 (inl ((are.all.shifted t).1 (shifts_at t shift)))
          | inr reduction ↦ (joined.each t).1 (inr ((are.all.reduced t).1 (reduces_at reduction.0 t reduction.1).0))
        ],
      );
    };
    clear = clear sets are;
  }

-- a row of actions rules a conflict out
pub row_clear : {kernels : KernelsView} {s : ℕ} {row : List Action} → AreKernels kernels → s < count_of kernels → IsRowOf kernels s row →
    ¬ HasConflictAt kernels s
row_clear {kernels} {s} h lt is (t, inl (p, can, reduction)) =
    let (n, x) = shift_stands kernels s t h lt can in
    let (b, b_is, y) = reduction_stands kernels s t reduction in
    not_shift (top_of kernels.grammar) p n b b_is (row_only h lt is t (Shift n) x ∙ sym (row_only h lt is t b y))
row_clear {kernels} {s} h lt is (t, inr (p, q, differ, one, other)) =
    let (a, a_is, x) = reduction_stands kernels s t one in
    let (b, b_is, y) = reduction_stands kernels s t other in
    differ (reductions_once (top_of kernels.grammar) p q a b a_is b_is (row_only h lt is t a x ∙ sym (row_only h lt is t b y)))

-- one kernel more
pub clear_more : {kernels : KernelsView} (sets : List (List Bool)) (set : List Bool) (n : ℕ) → AreClearUpTo kernels sets n →
    IsClearSet kernels n set → AreClearUpTo kernels (sets ++ set ∷ []) (n + 1)
clear_more {kernels} sets set n is here = record {
  len = omega (arith, length-append sets (set ∷ []), is.len);
  each = each_more (IsClearSet kernels) sets set [] n is.len is.each here;
}

-- where no kernel has a conflict, no prefix has one
pub all_clear : {kernels : KernelsView} → AreKernels kernels → ((s : ℕ) → s < count_of kernels → ¬ HasConflictAt kernels s) →
    HasNoConflict kernels.grammar
all_clear {kernels} h clear_at prefix t conflict = at (viable conflict)
  where
    viable : HasConflict kernels.grammar prefix t → (item : Item) × HasItem kernels.grammar prefix item
    viable (inl (p, can, reduction)) = (reduction.item, reduction.has)
    viable (inr (p, q, differ, one, other)) = (one.item, one.has)

    at : ((item : Item) × HasItem kernels.grammar prefix item) → ⊥
    at (item, has) =
        let (s, lt, same) = h.states.all prefix (item, has.0, has.1) in
        clear_at s lt (t, (same_conflict kernels.grammar h.live (prefix_of kernels s) prefix same t).1 conflict)
