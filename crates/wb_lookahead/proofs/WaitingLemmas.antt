-- When nothing waits, the sets are the lookaheads.
use Rattle.std.proofs.Common.{◌≡◌, ℕ, suc, ◌<◌, ◌⊎◌, Bool, List, [], ◌∷◌, length, refl, sym, subst, inl, inr, arith}
use Rattle.std.specs.Prelude.{All, Contains, ◌↔◌}
use Rattle.std.proofs.lemmas.List.Elements.{All-nil}
use Rattle.wb_lemmas.proofs.Members.{contains_cases}
use Rattle.wb_termset.specs.Sets.{IsMember}
use Rattle.wb_grammar_theory.specs.declared.item.Item.{Item}
use Rattle.wb_grammar_theory.specs.Items.{start_item}
use Rattle.wb_grammar_theory.specs.Productions.{end_of}
use Rattle.wb_grammar_theory.specs.States.{start, close, move}
use Rattle.wb_grammar_theory.specs.Lookaheads.{IsLookahead}
use Rattle.wb_grammar_theory.proofs.FlowLemmas.{flows_exact}
use Rattle.wb_items.specs.Kernels.{KernelsView, AreKernels, LeadsTo, count_of, prefix_of}
use Rattle.wb_items.specs.Lookaheads.{AreEmpty, AreLookaheadsOf, HasNumber, IsSetOf, Lists, LookaheadsView, set_of}
use Rattle.wb_items.specs.Apart.{AreApart}
use Rattle.wb_items.specs.LookaheadSets.{AreLookaheads}
use Rattle.wb_items.proofs.CallerLemmas.{empty_lists, empty_sets, set_once}
use Rattle.wb_items.proofs.RowLemmas.{listed_by, lists_by}
use Rattle.wb_lookahead.specs.declared.worklist.Place.{Place}
use Rattle.wb_lookahead.specs.Inner.Spreading.{AreSound, AreWaiting, FlowsTo, IsItemPassed, IsPassedOn, IsPlace, Spreads, Waits}
use Rattle.wb_lookahead.proofs.PassLemmas.{passed_kept}

-- what the set of a number has is passed on from each item that has it
abbrev Closed : KernelsView → LookaheadsView → ℕ → Type 0
Closed kernels l n = (s t : ℕ) (item : Item) → HasNumber l s item n → IsMember (set_of l n) t → IsItemPassed kernels l s item t

-- empty sets, where nothing waits
pub begun_sound : {kernels : KernelsView} (lookaheads : LookaheadsView) {waiting : List Place} → AreLookaheadsOf kernels lookaheads →
    AreApart kernels.grammar lookaheads → AreEmpty lookaheads → waiting ≡ [] → AreSound kernels lookaheads waiting
begun_sound {kernels} lookaheads shape apart empty none = record {
  shape = shape;
  apart = apart;
  sound = λ s item t lists. absurd (empty_lists lookaheads empty s item t lists);
  places = subst (All (IsPlace kernels)) (sym none) (All-nil (IsPlace kernels));
}

-- after the first spread from empty sets, what is listed waits
pub begun_waiting : {kernels : KernelsView} (old : LookaheadsView) {new : LookaheadsView}
    (w : List Place) {v : List Place} → AreEmpty old → Spreads old w new v →
    Lists new 0 (start_item kernels.grammar) (end_of kernels.grammar) → AreWaiting kernels new v
begun_waiting {kernels} old {new} w {v} empty spreads listed = record { start = listed; each = λ n. go n (spreads.grew n) }
  where
    go : (n : ℕ) → Waits new v n ⊎ ((t : ℕ) → IsMember (set_of new n) t → IsMember (set_of old n) t) → Waits new v n ⊎ Closed kernels new n
    go n (inl waits) = inl waits
    go n (inr before) = inr (λ s t item h has. absurd (empty_sets old empty n t (before t has)))

-- a place that waited first has been passed on
pub passed_waiting : {kernels : KernelsView} {old new : LookaheadsView} {all v : List Place} (w : List Place) (place : Place) →
    all ≡ place ∷ w → AreSound kernels old all → AreWaiting kernels old all →
    Spreads old w new v → ((t : ℕ) → Lists old place.state place.item t → IsPassedOn kernels new place.state place.item t) →
    AreWaiting kernels new v
passed_waiting {kernels} {old} {new} {all} {v} w place is sound h spreads passed = record {
  start = spreads.keeps 0 (start_item kernels.grammar) (end_of kernels.grammar) h.start;
  each = λ n. grown n (spreads.grew n);
}
  where
    -- the place had the set, so from each other item that has it what it has was passed on
    taken : (n : ℕ) → ((t : ℕ) → IsMember (set_of new n) t → IsMember (set_of old n) t) → HasNumber old place.state place.item n →
        Closed kernels new n
    taken n before here s t item there has =
        let (same, belong) = (sound.apart place.state s place.item item n n here (spreads.back s item n there)).0 refl in
        subst (λ z. IsItemPassed kernels new z item t) same
        (passed t (lists_by old place.state place.item n t here (before t has)) item belong)

    kept : (n : ℕ) → ((t : ℕ) → IsMember (set_of new n) t → IsMember (set_of old n) t) → Waits old all n ⊎ Closed kernels old n →
        Waits new v n ⊎ Closed kernels new n
    kept n before (inl (one, there, here)) =
        elim (contains_cases place one w (subst (λ z. Contains z one) is there)) [
          | inl same ↦ inr (taken n before (subst (λ (z : Place). HasNumber old z.state z.item n) (sym same) here))
          | inr later ↦ inl (one, spreads.waits one later, spreads.numbers one.state one.item n here)
        ]
    kept n before (inr closed) = inr (λ s t item h has. passed_kept old spreads.keeps (closed s t item (spreads.back s item n h)
        (before t has)))

    grown : (n : ℕ) → Waits new v n ⊎ ((t : ℕ) → IsMember (set_of new n) t → IsMember (set_of old n) t) →
        Waits new v n ⊎ Closed kernels new n
    grown n (inl waits) = inl waits
    grown n (inr before) = kept n before (h.each n)

-- where all that is listed has been passed on, what flows is listed
flows_listed : {kernels : KernelsView} {lookaheads : LookaheadsView} →
    Lists lookaheads 0 (start_item kernels.grammar) (end_of kernels.grammar) →
    ((s : ℕ) (item : Item) (t : ℕ) → Lists lookaheads s item t → IsItemPassed kernels lookaheads s item t) → {s : ℕ} {item : Item} {t : ℕ} →
    FlowsTo kernels s item t → Lists lookaheads s item t
flows_listed begins passed start = begins
flows_listed begins passed {s} (close item t b rest q u right f is rule first) =
    (passed s item t (flows_listed begins passed f)).opens b rest q u is (right, rule) first
flows_listed {lookaheads = lookaheads} begins passed (move item x rest s {t} {s'} {moved} f is next moved_is) =
    subst (λ z. Lists lookaheads s' z t) (sym moved_is) ((passed s item t (flows_listed begins passed f)).moves x rest s' is next)

-- where nothing waits, the sets are exactly the lookaheads
pub all_passed : {kernels : KernelsView} {lookaheads : LookaheadsView} {waiting : List Place} → AreKernels kernels →
    AreSound kernels lookaheads waiting → AreWaiting kernels lookaheads waiting → waiting ≡ [] → AreLookaheads kernels lookaheads
all_passed {kernels} {lookaheads} {waiting} h sound waits none = record { shape = sound.shape; exact = exact }
  where
    closed : (n : ℕ) → Waits lookaheads waiting n ⊎ Closed kernels lookaheads n → Closed kernels lookaheads n
    closed n (inl (place, there, _)) = (let nothing : Contains [] place = subst (λ z. Contains z place) none there in
        absurd (omega (arith, nothing.1)))
    closed n (inr all) = all

    passed : (s : ℕ) (item : Item) (t : ℕ) → Lists lookaheads s item t → IsItemPassed kernels lookaheads s item t
    passed s item t lists = (let (n, here, has) = listed_by lookaheads s item t lists in closed n (waits.each n) s t item here has)

    exact : (s : ℕ) (item : Item) (a : List Bool) (t : ℕ) → s < count_of kernels → IsSetOf lookaheads s item a →
        IsMember a t ↔ IsLookahead kernels.grammar (prefix_of kernels s) item t
    exact s item a t lt set_is =
        let laws = flows_exact kernels.grammar (count_of kernels) (prefix_of kernels) (LeadsTo kernels) h.live h.states s lt item t in (
          λ has. laws.0 (sound.sound s item t (a, set_is, has)),
          λ look.
              let (b, other, has) = flows_listed waits.start passed (laws.1 look) in
              subst (λ z. IsMember z t) (set_once h lookaheads sound.shape s item b a other set_is) has,
        )

-- without the first that waits, the sets are as sound
pub sound_popped : {kernels : KernelsView} {lookaheads : LookaheadsView} {all w : List Place} (place : Place) →
    AreSound kernels lookaheads all → all ≡ place ∷ w → AreSound kernels lookaheads w
sound_popped {kernels} {lookaheads} {all} {w} place h is =
    (let places : All (IsPlace kernels) (place ∷ w) = subst (All (IsPlace kernels)) is h.places in
    record { shape = h.shape; apart = h.apart; sound = h.sound; places = λ k d lt. places (suc k) d (omega arith) })

-- the first that waits is a place
pub first_place : {kernels : KernelsView} {lookaheads : LookaheadsView} {all w : List Place} (place : Place) →
    AreSound kernels lookaheads all → all ≡ place ∷ w → IsPlace kernels place
first_place {kernels} {lookaheads} {all} {w} place h is =
    (let places : All (IsPlace kernels) (place ∷ w) = subst (All (IsPlace kernels)) is h.places in places 0 place (omega arith))
