-- How spreading goes on, one step after another.
use Rattle.std.proofs.Common.{◌≡◌, ℕ, ◌+◌, ◌<◌, ◌≤◌, ◌⊎◌, suc, Bool, true, List, [], ◌∷◌, length, get_or, take, Some, refl, sym, ◌∙◌, ap}
use Rattle.std.proofs.Common.{subst, inl, inr, arith, length-append}
use Rattle.std.specs.Prelude.{All, Contains, slice_get}
use Rattle.std.proofs.lemmas.List.{take_more, take_all}
use Rattle.std.proofs.lemmas.List.Elements.{All-cons, All-push, All-contains, Contains-append_left, Contains-push, Contains-push_cases}
use Rattle.std.proofs.lemmas.Bool.{cases_eq}
use Rattle.std.proofs.lemmas.Option.{same_Some}
use Rattle.wb_grammar_theory.specs.declared.item.Item.{Item}
use Rattle.wb_termset.specs.Sets.{IsMember}
use Rattle.wb_items.specs.Apart.{AreApart}
use Rattle.wb_items.specs.Kernels.{KernelsView, AreKernels, count_of}
use Rattle.wb_items.specs.Lookaheads.{AnswersUnion, AreLookaheadsOf, HasNumber, Lists, LookaheadsView, Unites, items_in, row_of, set_of}
use Rattle.wb_lookahead.specs.declared.worklist.Place.{Place}
use Rattle.wb_lookahead.specs.Inner.Spreading.{AreSound, FlowsTo, IsPlace, Spreads, Waits}
use Rattle.wb_lookahead.specs.Inner.Waiting.{Adds, in_front, at_end, stays}
use Rattle.wb_items.proofs.CallerLemmas.{apart_kept, lists_kept, lists_new, number_back, number_kept, rows_within, shape_kept, stayed}
use Rattle.wb_lookahead.proofs.RoomLemmas.{room_less}
use Rattle.wb_lookahead.proofs.StepLemmas.{closure_at}
use Rattle.wb_lookahead.proofs.OpenedLemmas.{belong_flows}

pub spreads_none : (l : LookaheadsView) (w : List Place) → Spreads l w l w
spreads_none l w = record {
  keeps = λ s item t h. h;
  numbers = λ s item n h. h;
  back = λ s item n h. h;
  waits = λ place h. h;
  grew = λ n. inr (λ t h. h);
  less = omega arith;
}

-- what waits goes on to wait, where items keep their numbers
waits_on : (l m : LookaheadsView) (v w : List Place) (n : ℕ) →
    ((s : ℕ) (item : Item) (k : ℕ) → HasNumber l s item k → HasNumber m s item k) →
    ((place : Place) → Contains v place → Contains w place) → Waits l v n → Waits m w n
waits_on l m v w n numbers kept (place, there, has) = (place, kept place there, numbers place.state place.item n has)

pub spreads_then : {l m n : LookaheadsView} {v w x : List Place} → Spreads l v m w → Spreads m w n x → Spreads l v n x
spreads_then {l} {m} {n} {v} {w} {x} p q = record {
  keeps = λ s item t h. q.keeps s item t (p.keeps s item t h);
  numbers = λ s item k h. q.numbers s item k (p.numbers s item k h);
  back = λ s item k h. p.back s item k (q.back s item k h);
  waits = λ place h. q.waits place (p.waits place h);
  grew = λ k. both k (q.grew k) (p.grew k);
  less = (let a = p.less in let b = q.less in omega arith);
}
  where
    both : (k : ℕ) → Waits n x k ⊎ ((t : ℕ) → IsMember (set_of n k) t → IsMember (set_of m k) t) →
        Waits m w k ⊎ ((t : ℕ) → IsMember (set_of m k) t → IsMember (set_of l k) t) →
        Waits n x k ⊎ ((t : ℕ) → IsMember (set_of n k) t → IsMember (set_of l k) t)
    both k (inl waits) _ = inl waits
    both k (inr same) (inl waited) = inl (waits_on m n w x k q.numbers q.waits waited)
    both k (inr same) (inr before) = inr (λ t h. before t (same t h))

-- numbers of a place
abbrev pub place_of : ℕ → Item → ℕ → Place
place_of s item at = record { state = s; item = item; at = at }

-- an element after a first one
contains_later : (place one : Place) (old : List Place) → Contains old one → Contains (place ∷ old) one
contains_later place one old (k, lt, is) = (suc k, omega arith, is)

-- what waited waits, and the place that was added
pub adds_waits : {old new : List Place} (place : Place) → Adds old place new → (one : Place) → Contains old one → Contains new one
adds_waits {old} place (in_front is) one h = subst (λ z. Contains z one) (sym is) (contains_later place one old h)
adds_waits {old} place (at_end is) one h = subst (λ z. Contains z one) (sym is) (Contains-append_left old (place ∷ []) one h)
adds_waits place (stays other is there) one h = subst (λ z. Contains z one) (sym is) h

pub adds_it : {kernels : KernelsView} {old new : List Place} {place : Place} → All (IsPlace kernels) old → IsPlace kernels place →
    Adds old place new → Contains new place
adds_it {place = place} places p (in_front is) = subst (λ z. Contains z place) (sym is) (0, omega arith, refl)
adds_it {old = old} {place = place} places p (at_end is) = subst (λ z. Contains z place) (sym is) (Contains-push old place)
adds_it {kernels} {old} {new} {place} places p (stays item is there) =
    let other : Place = place_of place.state item place.at in
    let q : IsPlace kernels other = All-contains (IsPlace kernels) old other places there in
    let same : item ≡ place.item = same_Some item place.item (sym q.here ∙ p.here) in
    subst (λ z. Contains z place) (sym is) (subst (λ z. Contains old (place_of place.state z place.at)) same there)

pub adds_places : {kernels : KernelsView} {old new : List Place} {place : Place} → All (IsPlace kernels) old → IsPlace kernels place →
    Adds old place new → All (IsPlace kernels) new
adds_places {kernels} {old} {new} {place} places p (in_front is) = subst (All (IsPlace kernels)) (sym is)
    (All-cons (IsPlace kernels) place old p places)
adds_places {kernels} {old} {new} {place} places p (at_end is) = subst (All (IsPlace kernels)) (sym is)
    (All-push (IsPlace kernels) old place places p)
adds_places {kernels} places p (stays item is there) = subst (All (IsPlace kernels)) (sym is) places

adds_length : {old new : List Place} (place : Place) → Adds old place new → length new ≤ length old + 1
adds_length {old} {new} place (in_front is) = (let e : length new ≡ length (place ∷ old) =
    ap (λ (z : List Place). length z) is in omega (arith, e))
adds_length {old} {new} place (at_end is) = (let e : length new ≡ length old + 1 = ap (λ (z : List Place). length z) is ∙
    length-append old (place ∷ []) in omega (arith, e))
adds_length {old} {new} place (stays item is there) = (let e : length new ≡ length old =
    ap (λ (z : List Place). length z) is in omega (arith, e))

-- what a union leaves flows where it is listed, also at the items that have the set too
pub union_sound : (kernels : KernelsView) {s : ℕ} {item : Item} {old new : LookaheadsView} {added : List Bool} →
    Unites old s item added new → AreApart kernels.grammar old →
    ((k : ℕ) (i : Item) (t : ℕ) → Lists old k i t → FlowsTo kernels k i t) →
    ((t : ℕ) → IsMember added t → FlowsTo kernels s item t) →
    (k : ℕ) (i : Item) (t : ℕ) → Lists new k i t → FlowsTo kernels k i t
union_sound kernels {s} {item} u apart sound flows k i t lists = elim (lists_new u k i t lists) [
  | inl before ↦ sound k i t before
  | inr ((n, one, other), has) ↦
      let (same, belong) = (apart s k item i n n one other).0 refl in
      subst (λ z. FlowsTo kernels z i t) same (belong_flows kernels item i belong (flows t has))
]

pub state_within : {kernels : KernelsView} → AreKernels kernels → (place : Place) → place.state < count_of kernels →
    (old : LookaheadsView) → AreLookaheadsOf kernels old →
    place.state < length old.items
state_within k place lt old shape = (let e = rows_within k old shape in omega (arith, e, lt))

pub is_place : {kernels : KernelsView} → AreKernels kernels → (lookaheads : LookaheadsView) →
    AreLookaheadsOf kernels lookaheads → (s : ℕ) → s < count_of kernels →
    (item : Item) (at : ℕ) → slice_get (items_in (row_of lookaheads s)) at ≡ Some item → IsPlace kernels (place_of s item at)
is_place k lookaheads shape s lt item at e = record { state = lt; here = closure_at k lookaheads shape s item at e }

-- a place is put into an equal list
pub adds_to : {u w v : List Place} {place : Place} → u ≡ w → Adds u place v → Adds w place v
adds_to {v = v} {place} same adds = subst (λ z. Adds z place v) same adds

-- a union that adds something, whose place then waits
pub spread_sound : {kernels : KernelsView}
    (place : Place) {old new : LookaheadsView} {added : List Bool} {w v : List Place} →
    IsPlace kernels place → Unites old place.state place.item added new → AreSound kernels old w →
    ((t : ℕ) → IsMember added t → FlowsTo kernels place.state place.item t) →
    Adds w place v → AreSound kernels new v
spread_sound {kernels} place {old} p u h flows adds = record {
  shape = shape_kept u h.shape;
  apart = apart_kept u kernels.grammar h.apart;
  sound = union_sound kernels u h.apart h.sound flows;
  places = adds_places h.places p adds;
}

-- the set grew, and the place waits
pub spread_spreads : {kernels : KernelsView}
    (place : Place) {old new : LookaheadsView} {added : List Bool} {b : Bool} {w v : List Place} →
    AnswersUnion old place.state place.item added new b → b ≡ true → All (IsPlace kernels) w → IsPlace kernels place → Adds w place v →
    Spreads old w new v
spread_spreads {kernels} place {old} {new} {added} {b} {w} {v} u grew places p adds = record {
  keeps = lists_kept u.united;
  numbers = number_kept u.united;
  back = number_back u.united;
  waits = adds_waits place adds;
  grew = λ n. elim (cases_eq n u.united.number) [
    | inl same ↦ inl (
      place,
      adds_it places p adds,
      subst (HasNumber new place.state place.item) (sym same) (number_kept u.united place.state place.item u.united.number u.united.has),
    )
    | inr other ↦ inr (λ t. subst (λ z. IsMember z t) (stayed u.united n other))
  ];
  less = (let less = room_less u grew in let more = adds_length place adds in omega (arith, less, more));
}

-- an element of a prefix that is one longer
pub contains_more : {A : Type 0} (xs : List A) (i : ℕ) (d x : A) → i < length xs → Contains (take (i + 1) xs) x →
    Contains (take i xs) x ⊎ (get_or xs i d ≡ x)
contains_more xs i d x lt h = Contains-push_cases (take i xs) (get_or xs i d) x (subst (λ z. Contains z x) (take_more xs i d lt) h)

-- an element, where the prefix is the whole list
pub contains_all : {A : Type 0} (xs : List A) (i : ℕ) (x : A) → length xs ≤ i → Contains xs x → Contains (take i xs) x
contains_all xs i x le h = subst (λ z. Contains z x) (sym (take_all i xs le)) h
