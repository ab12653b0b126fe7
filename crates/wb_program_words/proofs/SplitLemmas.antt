-- What words split into, one option after another.
use Rattle.std.proofs.Common.{◌≡◌, ◌<◌, ◌++◌, IfNone, ℕ, List, [], ◌∷◌, All, Contains, Option, Some, None, true, false, length, get_or}
use Rattle.std.proofs.Common.{slice_get, slice_set, refl, sym, ap, subst, ◌∙◌, append_assoc}
use Rattle.std.proofs.lemmas.List.{append-nil}
use Rattle.std.proofs.lemmas.List.Elements.{All-nil, All-cons}
use Rattle.std.specs.Borrow.{Bor}
use Rattle.std.specs.Option.{is_some}
use Rattle.wb_lemmas.proofs.Places.{at_default}
use Rattle.wb_base.specs.Different.{Differ}
use Rattle.wb_program_words.specs.Options.{Given, Splits, AreOptions, IsPositional, no_option}
use Rattle.wb_program_words.specs.Inner.Parts.{IsBegun, IsOptionBefore, IsSplit, HasNoSplit, NeverSplits}
use Rattle.wb_program_words.proofs.PartLemmas.{given, option_splits, option_back}
use Rattle.wb_program_words.proofs.SlotLemmas.{no_slots, slots_with, given_twice, unknown_name}

-- the type of a slot
abbrev Slot : Type 0
Slot = Option (Bor (List ℕ))

-- at the beginning there is no option
pub begun : (names words : List (List ℕ)) → IsBegun names words words (None ∷ None ∷ None ∷ [])
begun names words = record {
  options = [];
  values = no_slots names (None ∷ None ∷ None ∷ []) (All-cons E None (None ∷ None ∷ []) refl
      (All-cons E None (None ∷ []) refl (All-cons E None [] refl (All-nil E))));
  onto = λ more positional splits. splits;
  back = λ all positional splits. (all, refl, splits);
}
  where
    E : Slot → Type 0
    E slot = slot ≡ None

module _ (names words later : List (List ℕ)) (slots : List Slot) (is : IsBegun names words later slots) where
  -- what is left is positional
  pub begun_splits : All IsPositional later → IsSplit names words later slots
  begun_splits all = record {
    options = is.options;
    values = is.values;
    splits = subst (λ (os : List Given). Splits words os later) (append-nil is.options) (is.onto [] later (no_option all));
  }

  -- what is left splits in no way
  pub unbegun : NeverSplits later → HasNoSplit names words
  unbegun never options positional splits known = never (is.back options positional splits).0 positional (is.back options positional splits).2

  module _ (rest : List (List ℕ)) (name value : List ℕ) (before : IsOptionBefore later rest name value) where
    -- what it splits into goes on with this option
    goes_on : (all : List Given) (positional : List (List ℕ)) → Splits words all positional
        → (more : List Given) × (all ≡ is.options ++ given name value ∷ more) × Splits rest more positional
    goes_on all positional splits =
        let (os, same, behind) = is.back all positional splits in
        let (more, first, after) = option_back later rest name value before os positional behind in
        (more, same ∙ ap (λ (z : List Given). is.options ++ z) first, after)

    -- and it has a slot, which was empty
    pub begun_longer : Differ names → (k : ℕ) (taken : Bor (List ℕ)) → slice_get names k ≡ Some name → slice_get slots k ≡ Some None
        → taken.now ≡ value → IsBegun names words rest (slice_set slots k (Some taken))
    begun_longer different k taken at free same = record {
      options = is.options ++ given name value ∷ [];
      values = slots_with names is.options name value different slots k taken is.values at free same;
      onto = λ more positional splits.
          subst (λ (os : List Given). Splits words os positional) (sym (append_assoc is.options (given name value ∷ []) more))
          (is.onto (given name value ∷ more) positional (option_splits later rest name value before more positional splits));
      back = λ all positional splits.
          let (more, is_all, after) = goes_on all positional splits in
          (more, is_all ∙ sym (append_assoc is.options (given name value ∷ []) more), after);
    }

    -- no known options are those with a name that isn't known
    pub none_known : ¬ Contains names name → HasNoSplit names words
    none_known unknown all positional splits known =
        let (more, same, after) = goes_on all positional splits in
        unknown_name names is.options name value more unknown (subst (AreOptions names) same known)

    -- and none those with a name that was there
    pub none_new : (k : ℕ) (w : Bor (List ℕ)) → slice_get names k ≡ Some name → slice_get slots k ≡ Some (Some w) → HasNoSplit names words
    none_new k w at taken all positional splits known =
        let (more, same, after) = goes_on all positional splits in
        given_twice names is.options name value slots k w more is.values at taken (subst (AreOptions names) same known)

-- what holds where there is nothing
pub on_none : {X : Type 0} (o : Option X) (P : Type 0) → P → IfNone o P
on_none None P holds = holds
on_none (Some x) P holds = tt

-- a slot with something has a value
pub taken_slot : (slots : List Slot) (k : ℕ) → k < length slots → is_some (get_or slots k None) ≡ true
    → (w : Bor (List ℕ)) × (slice_get slots k ≡ Some (Some w))
taken_slot slots k within is = by (get_or slots k None) refl is where
  by : (slot : Slot) → get_or slots k None ≡ slot → is_some slot ≡ true → (w : Bor (List ℕ)) × (slice_get slots k ≡ Some (Some w))
  by None same some = absurd (let never : false ≡ true = some in cc)
  by (Some w) same some = (w, at_default slots k None within ∙ ap Some same)

-- a slot with nothing is empty
pub free_slot : (slots : List Slot) (k : ℕ) → k < length slots → is_some (get_or slots k None) ≡ false → slice_get slots k ≡ Some None
free_slot slots k within is = by (get_or slots k None) refl is where
  by : (slot : Slot) → get_or slots k None ≡ slot → is_some slot ≡ false → slice_get slots k ≡ Some None
  by None same none = at_default slots k None within ∙ ap Some same
  by (Some w) same none = absurd (let never : true ≡ false = none in cc)
