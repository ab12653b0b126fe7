-- The values of options, from their slots.
use Rattle.std.proofs.Common.{◌≡◌, ◌≢◌, ◌<◌, ◌+◌, inl, inr, ℕ, List, Contains, Option, Some, None, arith, length, map, slice_get}
use Rattle.std.proofs.Common.{slice_set, take, refl, ap, sym, subst, ◌∙◌}
use Rattle.std.specs.Prelude.{option_map}
use Rattle.std.specs.Borrow.{Bor}
use Rattle.std.proofs.lemmas.Bool.Decides.{eqb_tells}
use Rattle.std.proofs.lemmas.List.{length-map}
use Rattle.std.proofs.lemmas.Option.{same_Some, slice_get_within, slice_get-map}
use Rattle.wb_lemmas.proofs.Members.{place_of}
use Rattle.wb_lemmas.proofs.Places.{at_take, at_within}
use Rattle.wb_base.specs.Different.{Differ}
use Rattle.wb_program_words.specs.Options.{Given, HasNumber, names_of}
use Rattle.wb_program_words.specs.OptionValues.{HasValue, OptionValue, a_number, a_word}
use Rattle.wb_program_words.specs.Rows.{HaveValues, form_of, name_of}
use Rattle.wb_program_words.specs.declared.rows.Form.TheVariants as f
use Rattle.wb_program_words.specs.declared.rows.OptionName.{OptionName}
use Rattle.wb_program_words.specs.declared.values.Value.{Value}
use Rattle.wb_program_words.specs.Inner.Numbers.{IsNumberFrom}
use Rattle.wb_program_words.specs.Inner.Slots.{IsSlot}
use Rattle.wb_program_words.specs.Inner.Values.{HasNoValue, HaveNoValues, value_in}
use Rattle.wb_program_words.proofs.OneAsked.{not_lacked, one_text}
use Rattle.wb_program_words.proofs.SlotLemmas.{set_cases}

-- the type of a slot
abbrev Slot : Type 0
Slot = Option (Bor (List ℕ))

-- a number that a slot has
pub number_given : (options : List Given) (name : List ℕ) (w : Bor (List ℕ)) (least most number : ℕ) → IsSlot options name (Some w)
    → IsNumberFrom w.now least most number → HasNumber options name least most number
number_given options name w least most number slot is = record {
  value = w.now;
  given = slot;
  digits = is.digits;
  is = is.is;
  low = is.low;
  high = is.high;
}

-- and one that it hasn't
no_number : (options : List Given) (name : List ℕ) (w : Bor (List ℕ)) (least most number : ℕ) → Differ (names_of options)
    → IsSlot options name (Some w) → ((n : ℕ) → ¬ IsNumberFrom w.now least most n) → HasNumber options name least most number → ⊥
no_number options name w least most number once slot none has =
    let same : has.value ≡ w.now = one_text options once name has.value w.now has.given slot in
    none number (subst (λ (t : List ℕ). IsNumberFrom t least most number) same
    (record { digits = has.digits; is = has.is; low = has.low; high = has.high }))

-- without a word no option has a value that must be given
pub no_word : (name : List ℕ) → HasNoValue f.Word name None
no_word name options (a_word text) once slot has = not_lacked options once name text has slot
no_word name options (a_number n) once slot has = has

pub no_number_there : (least most : ℕ) (name : List ℕ) → HasNoValue (f.Number least most) name None
no_number_there least most name options (a_word text) once slot has = has
no_number_there least most name options (a_number n) once slot has = not_lacked options once name has.value has.given slot

-- nor where it writes no number
pub no_digits : (least most : ℕ) (w : Bor (List ℕ)) → ((n : ℕ) → ¬ IsNumberFrom w.now least most n) → (name : List ℕ)
    → HasNoValue (f.Number least most) name (Some w)
no_digits least most w none name options (a_word text) once slot has = has
no_digits least most w none name options (a_number n) once slot has = no_number options name w least most n once slot none has

pub no_digits_or : (least most otherwise : ℕ) (w : Bor (List ℕ)) → ((n : ℕ) → ¬ IsNumberFrom w.now least most n) → (name : List ℕ)
    → HasNoValue (f.NumberOr least most otherwise) name (Some w)
no_digits_or least most otherwise w none name options (a_word text) once slot has = has
no_digits_or least most otherwise w none name options (a_number n) once slot (inl has) = no_number options name w least most n once slot none has
no_digits_or least most otherwise w none name options (a_number n) once slot (inr lacks) = not_lacked options once name w.now slot lacks.0

-- one more value at its place
pub values_more : (options : List Given) (names : List OptionName) (values : List Value) (i : ℕ) (value : Value)
    (name : OptionName) → slice_get names i ≡ Some name → HasValue (form_of name) options (name_of name) (value_in value)
    → ((k : ℕ) (n : OptionName) (w : Value) → k < i → slice_get names k ≡ Some n → slice_get values k ≡ Some w
    → HasValue (form_of n) options (name_of n) (value_in w))
    → (k : ℕ) (n : OptionName) (w : Value) → k < i + 1 → slice_get names k ≡ Some n → slice_get (slice_set values i value) k ≡ Some w
    → HasValue (form_of n) options (name_of n) (value_in w)
values_more options names values i value name at is before k n w small named there = elim (set_cases values i k value w there) [
  | inl (same, new) ↦
      let alike : name ≡ n = same_Some name n (sym at ∙ (ap (slice_get names) (sym same) ∙ named)) in
      subst (λ (z : OptionName). HasValue (form_of z) options (name_of z) (value_in w)) alike
      (subst (λ (z : Value). HasValue (form_of name) options (name_of name) (value_in z)) new is)
  | inr (differs, old) ↦ before k n w (omega (arith, small, differs)) named old
]

-- all values at their places
pub values_are : (options : List Given) (names : List OptionName) (values : List Value) → length (take (length names) values) ≡ length names
    → ((k : ℕ) (n : OptionName) (w : Value) → k < length names → slice_get names k ≡ Some n → slice_get values k ≡ Some w
    → HasValue (form_of n) options (name_of n) (value_in w))
    → HaveValues options names (map value_in (take (length names) values))
values_are options names values long each = record {
  many = length-map (take (length names) values) value_in ∙ long;
  each = λ k name value at there. found k name value at (slice_get (take (length names) values) k) refl
      (sym (slice_get-map value_in (take (length names) values) k) ∙ there);
}
  where
    found : (k : ℕ) (name : OptionName) (value : OptionValue) → slice_get names k ≡ Some name → (o : Option Value)
        → slice_get (take (length names) values) k ≡ o → option_map value_in o ≡ Some value
        → HasValue (form_of name) options (name_of name) value
    found k name value at None is same = absurd (let never : None ≡ Some value = same in cc)
    found k name value at (Some w) is same =
        let (small, old) = at_take values (length names) k w is in
        subst (λ (z : OptionValue). HasValue (form_of name) options (name_of name) z) (same_Some (value_in w) value same)
        (each k name w small at old)

-- where an option of the row has no value, there are none
pub none_have : (names : List OptionName) (slots : List Slot) (i : ℕ) (name : OptionName) (slot : Slot) → slice_get names i ≡ Some name
    → slice_get slots i ≡ Some slot → HasNoValue (form_of name) (name_of name) slot → HaveNoValues names slots
none_have names slots i name slot at there none options values are have =
    let small : i < length values = subst (λ (n : ℕ). i < n) (sym have.many) (slice_get_within names i name at) in
    let (value, is) = at_within values i small in
    none options value are.known.once
    (are.each i (name_of name) slot (slice_get-map name_of names i ∙ ap (option_map name_of) at) there)
    (have.each i name value at is)

-- one option more that isn't named so
pub no_name_more : (names : List OptionName) (text : List ℕ) (i : ℕ) (name : OptionName) → slice_get names i ≡ Some name
    → name_of name ≢ text → ((k : ℕ) (n : OptionName) → k < i → slice_get names k ≡ Some n → name_of n ≢ text)
    → (k : ℕ) (n : OptionName) → k < i + 1 → slice_get names k ≡ Some n → name_of n ≢ text
no_name_more names text i name at other before k n small there = elim (eqb_tells k i) [
  | inl same ↦
      let alike : name ≡ n = same_Some name n (sym at ∙ (ap (slice_get names) (sym same.1) ∙ there)) in
      λ (is : name_of n ≡ text). other (ap name_of alike ∙ is)
  | inr differs ↦ (let apart = differs.1 in before k n (omega (arith, small, apart)) there)
]

-- where no option is named so, none of the names is this
pub no_name : (names : List OptionName) (text : List ℕ) → ((k : ℕ) (n : OptionName) → slice_get names k ≡ Some n → name_of n ≢ text)
    → ¬ Contains (map name_of names) text
no_name names text none has =
    let (k, at) = place_of (map name_of names) text has in
    by k (slice_get names k) refl (sym (slice_get-map name_of names k) ∙ at)
  where
    by : (k : ℕ) (o : Option OptionName) → slice_get names k ≡ o → option_map name_of o ≡ Some text → ⊥
    by k None is same = let never : None ≡ Some text = same in cc
    by k (Some n) is same = none k n is (same_Some (name_of n) text same)
