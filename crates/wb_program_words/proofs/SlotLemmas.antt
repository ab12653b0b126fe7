-- Slots of options, one option after another.
use Rattle.std.proofs.Common.{◌≡◌, ◌≢◌, ◌⊎◌, inl, inr, ℕ, zero, suc, List, [], ◌∷◌, ◌++◌, All, Contains, Option, Some, None, length}
use Rattle.std.proofs.Common.{slice_get, slice_set, refl, sym, ap, subst, ◌∙◌, arith}
use Rattle.std.specs.Prelude.{option_map}
use Rattle.std.proofs.lemmas.List.{map-append}
use Rattle.std.proofs.lemmas.List.Elements.{All-nil, All-head, All-push}
use Rattle.std.proofs.lemmas.Option.{slice_get_within, slice_get-map, same_Some}
use Rattle.wb_lemmas.proofs.Elements.{all_contained, all_right}
use Rattle.wb_lemmas.proofs.Members.{contains_at, contains_push, nothing_in}
use Rattle.wb_lemmas.proofs.Places.{append_keeps, append_seam, at_push, nothing_at, push_keeps, push_last}
use Rattle.wb_base.specs.Different.{Differ}
use Rattle.std.specs.Borrow.{Bor}
use Rattle.wb_program_words.specs.Options.{Given, HasOption, AreOptions, names_of}
use Rattle.wb_program_words.specs.Inner.Slots.{AreSlots, IsSlot}
use Rattle.wb_program_words.proofs.PartLemmas.{given}

-- an element of a list in which one is replaced is that, or is elsewhere and was there
pub set_cases : {X : Type 0} (xs : List X) (k j : ℕ) (new x : X) → slice_get (slice_set xs k new) j ≡ Some x
    → ((j ≡ k) × (new ≡ x)) ⊎ ((j ≢ k) × (slice_get xs j ≡ Some x))
set_cases [] k j new x at = absurd (nothing_at x j at)
set_cases (y ∷ ys) zero zero new x at = inl (refl, same_Some new x at)
set_cases (y ∷ ys) zero (suc j) new x at = inr ((λ (e : suc j ≡ 0). omega (arith, e)), at)
set_cases (y ∷ ys) (suc k) zero new x at = inr ((λ (e : 0 ≡ suc k). omega (arith, e)), at)
set_cases (y ∷ ys) (suc k) (suc j) new x at = elim (set_cases ys k j new x at) [
  | inl both ↦ inl (ap suc both.0, both.1)
  | inr other ↦ inr ((λ (e : suc j ≡ suc k). other.0 (omega (arith, e))), other.1)
]

-- a list whose elements differ and one more that it doesn't contain
different_push : {X : Type 0} (xs : List X) (x : X) → Differ xs → ¬ Contains xs x → Differ (xs ++ x ∷ [])
different_push {X} xs x different new y i j first second = cases (at_push xs x y i first) (at_push xs x y j second) where
  cases : (slice_get xs i ≡ Some y) ⊎ ((i ≡ length xs) × (x ≡ y)) → (slice_get xs j ≡ Some y) ⊎ ((j ≡ length xs) × (x ≡ y)) → i ≡ j
  cases (inl a) (inl b) = different y i j a b
  cases (inl a) (inr b) = absurd (new (subst (λ z. Contains xs z) (sym b.1) (contains_at xs y i a)))
  cases (inr a) (inl b) = absurd (new (subst (λ z. Contains xs z) (sym a.1) (contains_at xs y j b)))
  cases (inr a) (inr b) = a.0 ∙ sym b.0

module _ (options : List Given) (name value : List ℕ) where
  -- the options with one more
  abbrev longer : List Given
  longer = options ++ given name value ∷ []

  -- their names
  longer_names : names_of longer ≡ names_of options ++ name ∷ []
  longer_names = map-append (λ (o : Given). o.name) options (given name value ∷ [])

  -- an option that was there still has its value
  still : (other v : List ℕ) → HasOption options other v → HasOption longer other v
  still other v has = record {
    place = has.place;
    given = push_keeps options (given name value) has.place (record { name = other; value = v }) has.given;
  }

  -- a name that wasn't there is there only where it is that of the last one
  not_there : (other : List ℕ) → other ≢ name → ¬ Contains (names_of options) other → ¬ Contains (names_of longer) other
  not_there other differs none has =
      elim (contains_push (names_of options) name other (subst (λ (ns : List (List ℕ)). Contains ns other) longer_names has)) [
        | inl before ↦ none before
        | inr last ↦ differs (sym last)
      ]

  -- a slot of another name keeps what it is
  keeps : (other : List ℕ) (slot : Option (Bor (List ℕ))) → other ≢ name → IsSlot options other slot → IsSlot longer other slot
  keeps other None differs is = not_there other differs is
  keeps other (Some v) differs is = still other v.now is

module _ (names : List (List ℕ)) (options : List Given) (name value : List ℕ) where
  -- one more option has its slot
  pub slots_with : Differ names → (slots : List (Option (Bor (List ℕ)))) (k : ℕ) (given_value : Bor (List ℕ)) → AreSlots names options slots
      → slice_get names k ≡ Some name → slice_get slots k ≡ Some None → given_value.now ≡ value
      → AreSlots names (longer options name value) (slice_set slots k (Some given_value))
  slots_with different slots k given_value are at free is = record {
    known = record {
      known = All-push (λ (o : Given). Contains names o.name) options (given name value) are.known.known (contains_at names name k at);
      once = subst Differ (sym (longer_names options name value)) (different_push (names_of options) name are.known.once (are.each k name None at free));
    };
    each = λ j other slot there stands. elim (set_cases slots k j (Some given_value) slot stands) [
      | inl (same, new) ↦
          let alike : other ≡ name = same_Some other name (sym there ∙ (ap (slice_get names) same ∙ at)) in
          subst (λ (z : Option (Bor (List ℕ))). IsSlot (longer options name value) other z) new
          (record {
            place = length options;
            given = push_last options (given name value)
                ∙ ap Some (ap (λ (n : List ℕ). given n value) (sym alike) ∙ ap (given other) (sym is));
          })
      | inr (differs, old) ↦
          keeps options name value other slot (λ (same : other ≡ name). differs (different name j k (there ∙ ap Some same) at)) (are.each j other slot there old)
    ];
  }

  -- an option that was there isn't allowed again
  pub given_twice : (slots : List (Option (Bor (List ℕ)))) (k : ℕ) (w : Bor (List ℕ)) (more : List Given) → AreSlots names options slots
      → slice_get names k ≡ Some name → slice_get slots k ≡ Some (Some w) → ¬ AreOptions names (options ++ given name value ∷ more)
  given_twice slots k w more are at taken allowed =
      let has : HasOption options name w.now = are.each k name (Some w) at taken in
      let all = options ++ given name value ∷ more in
      let first : slice_get (names_of all) has.place ≡ Some name =
      slice_get-map (λ (o : Given). o.name) all has.place
      ∙ ap (option_map (λ (o : Given). o.name)) (append_keeps options (given name value ∷ more) has.place (given name w.now) has.given) in
      let second : slice_get (names_of all) (length options) ≡ Some name =
      slice_get-map (λ (o : Given). o.name) all (length options)
      ∙ ap (option_map (λ (o : Given). o.name)) (append_seam options (given name value) more) in
      let same : has.place ≡ length options = allowed.once name has.place (length options) first second in
      let within = slice_get_within options has.place (given name w.now) has.given in
      omega (arith, same, within)

  -- and neither is one of no known name
  pub unknown_name : (more : List Given) → ¬ Contains names name → ¬ AreOptions names (options ++ given name value ∷ more)
  unknown_name more unknown allowed =
      unknown (All-head (λ (o : Given). Contains names o.name) (given name value) more
      (all_right (λ (o : Given). Contains names o.name) options (given name value ∷ more) allowed.known))

-- no options have empty slots
pub no_slots : (names : List (List ℕ)) (slots : List (Option (Bor (List ℕ)))) → All (λ (slot : Option (Bor (List ℕ))). slot ≡ None) slots → AreSlots names [] slots
no_slots names slots empty = record {
  known = record {
    known = All-nil (λ (o : Given). Contains names o.name);
    once = λ name i j at there. absurd (none_some at);
  };
  each = λ k name slot at stands.
      let is : slot ≡ None = all_contained (λ (z : Option (Bor (List ℕ))). z ≡ None) slots slot empty (contains_at slots slot k stands) in
      subst (λ (z : Option (Bor (List ℕ))). IsSlot [] name z) (sym is) (nothing_in name);
}
  where
    none_some : {X : Type 0} {x : X} → None ≡ Some x → ⊥
    none_some e = cc
