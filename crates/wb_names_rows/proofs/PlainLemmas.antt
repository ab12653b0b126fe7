-- What items of names alone make, one after the other.
use Rattle.std.proofs.Common.{◌≡◌, ◌<◌, ◌≤◌, ◌+◌, ◌++◌, ◌∷◌, [], ℕ, List, Option, Some, None, length, take, get_or, ap, sym, refl, subst}
use Rattle.std.proofs.Common.{◌∙◌, append_assoc}
use Rattle.std.specs.Prelude.{filter_map, option_to_list}
use Rattle.std.specs.List.{AllZip}
use Rattle.std.proofs.lemmas.List.{take_more, take_all, append-nil}
use Rattle.std.proofs.lemmas.List.Elements.{filter_map-append}
use Rattle.wb_syntax.specs.declared.item.Item.{Item}
use Rattle.wb_syntax.specs.declared.item.PlainForm.{PlainForm}
use Rattle.wb_syntax.specs.declared.pattern.Pattern.{Pattern}
use Rattle.wb_names_theory.specs.Declarations.{plain_of, plain_items, attribute_of, occurrence_of, preference_of}
use Rattle.wb_names_rows.specs.declared.plains.Plains.{Plains}
use Rattle.wb_names_rows.specs.declared.scope.Scope.{Scope}
use Rattle.wb_names_rows.specs.Plains.{AddsEach, AddsPlains, IsFoundAttribute, IsFoundOccurrence, IsFoundPreference}
use Rattle.wb_names_rows.proofs.ZipLemmas.{zip_append, zip_more}

-- nothing is added for nothing
pub each_nothing : {A B : Type 0} (R : A → B → Type 0) (old : List B) → AddsEach R [] old old
each_nothing R old = ([], sym (append-nil old), tt)

-- the next element of a slice and its row
pub each_more : {A B : Type 0} (R : A → B → Type 0) (xs : List A) (i : ℕ) (x : A) (y : B) (old mid : List B)
    → AddsEach R (take i xs) old mid
    → i < length xs → x ≡ get_or xs i x → R x y → AddsEach R (take (i + 1) xs) old (mid ++ y ∷ [])
each_more R xs i x y old mid (own, is, all) within same holds =
    (own ++ y ∷ [], ap (λ z. z ++ y ∷ []) is ∙ append_assoc old own (y ∷ []), zip_more R xs own i x y all within same holds)

pub each_all : {A B : Type 0} (R : A → B → Type 0) (xs : List A) (i : ℕ) (old new : List B) → AddsEach R (take i xs) old new
    → length xs ≤ i → AddsEach R xs old new
each_all R xs i old new so_far ended = subst (λ z. AddsEach R z old new) (take_all i xs ended) so_far

-- what two lists add, one after the other
each_append : {X A B : Type 0} (h : X → Option A) (R : A → B → Type 0) (xs us : List X) (old mid new : List B)
    → AddsEach R (filter_map h xs) old mid → AddsEach R (filter_map h us) mid new → AddsEach R (filter_map h (xs ++ us)) old new
each_append h R xs us old mid new (own, is, all) (more, added, zipped) = (
  own ++ more,
  added ∙ (ap (λ z. z ++ more) is ∙ append_assoc old own more),
  subst (λ z. AllZip R z (own ++ more)) (sym (filter_map-append h xs us))
      (zip_append R (filter_map h xs) (filter_map h us) own more all zipped),
)

kept : (o : Option PlainForm) → filter_map (λ (x : Option PlainForm). x) (o ∷ []) ≡ option_to_list o
kept None = refl
kept (Some x) = refl

module _ (s : Scope) where
  pub plains_nothing : (old : Plains) → AddsPlains s [] old old
  plains_nothing old = record {
    attributes = each_nothing (IsFoundAttribute s) old.attributes.items;
    occurrences = each_nothing (IsFoundOccurrence s) old.occurrences.items;
    preferences = each_nothing (IsFoundPreference s) old.preferences.items;
  }

  plains_append : (xs us : List PlainForm) (old mid new : Plains) → AddsPlains s xs old mid → AddsPlains s us mid new
      → AddsPlains s (xs ++ us) old new
  plains_append xs us old mid new a b = record {
    attributes = each_append attribute_of (IsFoundAttribute s) xs us old.attributes.items mid.attributes.items new.attributes.items
        a.attributes b.attributes;
    occurrences = each_append occurrence_of (IsFoundOccurrence s) xs us old.occurrences.items mid.occurrences.items
        new.occurrences.items a.occurrences b.occurrences;
    preferences = each_append preference_of (IsFoundPreference s) xs us old.preferences.items mid.preferences.items
        new.preferences.items a.preferences b.preferences;
  }

  one_item : (item : Item Pattern) → plain_items (item ∷ []) ≡ option_to_list (plain_of item.form)
  one_item item = kept (plain_of item.form)

  -- the next item
  pub plains_more : (items : List (Item Pattern)) (i : ℕ) (item : Item Pattern) (old mid new : Plains)
      → AddsPlains s (plain_items (take i items)) old mid → i < length items → item ≡ get_or items i item
      → AddsPlains s (option_to_list (plain_of item.form)) mid new → AddsPlains s (plain_items (take (i + 1) items)) old new
  plains_more items i item old mid new so_far within is adds =
      let more : plain_items (take (i + 1) items) ≡ plain_items (take i items) ++ option_to_list (plain_of item.form) =
      ap plain_items (take_more items i item within ∙ ap (λ z. take i items ++ z ∷ []) (sym is))
      ∙ (filter_map-append (λ (x : Item Pattern). plain_of x.form) (take i items) (item ∷ [])
      ∙ ap (λ z. plain_items (take i items) ++ z) (one_item item)) in
      subst (λ z. AddsPlains s z old new) (sym more)
      (plains_append (plain_items (take i items)) (option_to_list (plain_of item.form)) old mid new so_far adds)
