-- What words split into, by what is at their beginning.
use Rattle.std.proofs.Common.{◌≡◌, ◌≢◌, ◌<◌, ◌≤◌, ◌+◌, ◌-◌, inl, inr, ℕ, suc, List, [], ◌∷◌, ◌++◌, All, Bool, String, Global, string_bytes}
use Rattle.std.proofs.Common.{true, false, Option, Some, None, IfSome, IfNone, MatchOption, Bor, length, drop, take, eqb, get_or, slice_get}
use Rattle.std.proofs.Common.{refl, sym, ap, subst, ◌∙◌, arith}
use Rattle.std.specs.List.{position_or_len, before_first, after_first}
use Rattle.std.specs.Option.{option_map}
use Rattle.std.proofs.Math.Seq.{drop-cons}
use Rattle.std.proofs.lemmas.Bool.{eqb-true}
use Rattle.std.proofs.lemmas.Bool.Decides.{eqb_tells}
use Rattle.std.proofs.lemmas.List.{drop-map, drop_all, get_or-take, length-take-le}
use Rattle.std.proofs.lemmas.List.Elements.{All-nil, All-cons, All-head, All-tail, All-map, All-from_get_or}
use Rattle.std.proofs.lemmas.List.Sums.{fails_before_first, passes_at_first, split_at_first}
use Rattle.std.proofs.lemmas.Option.{slice_get_within, slice_get-map, get_or_from_slice_get}
use Rattle.std.proofs.lemmas.Str.Pattern.{IsSplitOnceResult, split_once_first}
use lib.Chars.{codes}
use Rattle.wb_lemmas.proofs.Parts.{take_to_end}
use Rattle.wb_lemmas.proofs.Places.{read_at}
use Rattle.wb_program_words.specs.Options.{Given, IsOptionName, IsPositional, Splits, no_option, apart, joined}
use Rattle.wb_program_words.specs.Asked.{texts}
use Rattle.wb_program_words.specs.Inner.Parts.{IsOptionBefore, NeverSplits}
use Rattle.wb_program_words.proofs.OneAsked.{no_dash, no_cut, one_cut, one_given}

true_false : true ≡ false → ⊥
true_false e = cc

-- an option with this name and this value
abbrev pub given : List ℕ → List ℕ → Given
given name value = record { name = name; value = value }

-- words that begin with an option split into it and what the rest splits into
pub option_splits : (words rest : List (List ℕ)) (name value : List ℕ) → IsOptionBefore words rest name value → (more : List Given)
    (positional : List (List ℕ)) → Splits rest more positional → Splits words (given name value ∷ more) positional
option_splits words rest name value before more positional splits = elim before.written [
  | inl is ↦ subst (λ (ws : List (List ℕ)). Splits ws (given name value ∷ more) positional) (sym is)
      (apart {o = given name value} before.is_name refl refl before.is_value splits)
  | inr is ↦ subst (λ (ws : List (List ℕ)). Splits ws (given name value ∷ more) positional) (sym is)
      (joined {o = given name value} before.is_name refl before.is_value splits)
]

-- words split into this option and what the rest splits into
abbrev Back : List (List ℕ) → List ℕ → List ℕ → List Given → List (List ℕ) → Type 0
Back rest name value all positional = (more : List Given) × (all ≡ given name value ∷ more) × Splits rest more positional

back_apart : (words rest : List (List ℕ)) (name value : List ℕ) (all : List Given) (positional : List (List ℕ)) → IsOptionName name
    → words ≡ (45 ∷ 45 ∷ name) ∷ value ∷ rest → Splits words all positional → Back rest name value all positional
back_apart words rest name value all positional is_name is (no_option every) =
    absurd (no_dash (45 ∷ 45 ∷ name) (45 ∷ name) (All-head IsPositional (45 ∷ 45 ∷ name) (value ∷ rest) (subst (All IsPositional) is every)) refl)
back_apart words rest name value all positional is_name is
    (apart {word = word} {value = v} {words = later} {o = o} {options = os} named begins same is_value splits) =
    let first : word ≡ 45 ∷ 45 ∷ name = cc is in
    let second : v ≡ value = cc is in
    let others : later ≡ rest = cc is in
    let both : 45 ∷ 45 ∷ o.name ≡ 45 ∷ 45 ∷ name = sym begins ∙ first in
    let names : o.name ≡ name = cc both in
    let option : o ≡ given name value = one_given o (given name value) names (sym same ∙ second) in
    (os, ap (λ (q : Given). q ∷ os) option, subst (λ (ws : List (List ℕ)). Splits ws os positional) others splits)
back_apart words rest name value all positional is_name is (joined {word = word} {words = later} {o = o} named begins is_value splits) =
    let first : word ≡ 45 ∷ 45 ∷ name = cc is in
    let both : 45 ∷ 45 ∷ name ≡ 45 ∷ 45 ∷ (o.name ++ 61 ∷ o.value) = sym first ∙ begins in
    absurd (no_cut name o.name o.value is_name (cc both))

back_joined : (words rest : List (List ℕ)) (name value : List ℕ) (all : List Given) (positional : List (List ℕ)) → IsOptionName name
    → words ≡ (45 ∷ 45 ∷ (name ++ 61 ∷ value)) ∷ rest → Splits words all positional → Back rest name value all positional
back_joined words rest name value all positional is_name is (no_option every) =
    absurd (no_dash (45 ∷ 45 ∷ (name ++ 61 ∷ value)) (45 ∷ (name ++ 61 ∷ value))
    (All-head IsPositional (45 ∷ 45 ∷ (name ++ 61 ∷ value)) rest (subst (All IsPositional) is every)) refl)
back_joined words rest name value all positional is_name is (apart {word = word} {o = o} named begins same is_value splits) =
    let first : word ≡ 45 ∷ 45 ∷ (name ++ 61 ∷ value) = cc is in
    let both : 45 ∷ 45 ∷ o.name ≡ 45 ∷ 45 ∷ (name ++ 61 ∷ value) = sym begins ∙ first in
    absurd (no_cut o.name name value named (cc both))
back_joined words rest name value all positional is_name is
    (joined {word = word} {words = later} {o = o} {options = os} named begins is_value splits) =
    let first : word ≡ 45 ∷ 45 ∷ (name ++ 61 ∷ value) = cc is in
    let others : later ≡ rest = cc is in
    let both : 45 ∷ 45 ∷ (o.name ++ 61 ∷ o.value) ≡ 45 ∷ 45 ∷ (name ++ 61 ∷ value) = sym begins ∙ first in
    let cut = one_cut o.name name o.value value named is_name (cc both) in
    let option : o ≡ given name value = one_given o (given name value) cut.0 cut.1 in
    (os, ap (λ (q : Given). q ∷ os) option, subst (λ (ws : List (List ℕ)). Splits ws os positional) others splits)

-- and in no other way
pub option_back : (words rest : List (List ℕ)) (name value : List ℕ) → IsOptionBefore words rest name value → (all : List Given)
    (positional : List (List ℕ)) → Splits words all positional → Back rest name value all positional
option_back words rest name value before all positional splits = elim before.written [
  | inl is ↦ back_apart words rest name value all positional before.is_name is splits
  | inr is ↦ back_joined words rest name value all positional before.is_name is splits
]

-- an option with a value that is none splits in no way: in one word
pub no_value_joined : (words rest : List (List ℕ)) (name value : List ℕ) → IsOptionName name → ¬ IsPositional value
    → words ≡ (45 ∷ 45 ∷ (name ++ 61 ∷ value)) ∷ rest → NeverSplits words
no_value_joined words rest name value is_name bad is all positional (no_option every) =
    no_dash (45 ∷ 45 ∷ (name ++ 61 ∷ value)) (45 ∷ (name ++ 61 ∷ value))
    (All-head IsPositional (45 ∷ 45 ∷ (name ++ 61 ∷ value)) rest (subst (All IsPositional) is every)) refl
no_value_joined words rest name value is_name bad is all positional (apart {word = word} {o = o} named begins same is_value splits) =
    let first : word ≡ 45 ∷ 45 ∷ (name ++ 61 ∷ value) = cc is in
    let both : 45 ∷ 45 ∷ o.name ≡ 45 ∷ 45 ∷ (name ++ 61 ∷ value) = sym begins ∙ first in
    no_cut o.name name value named (cc both)
no_value_joined words rest name value is_name bad is all positional (joined {word = word} {o = o} named begins is_value splits) =
    let first : word ≡ 45 ∷ 45 ∷ (name ++ 61 ∷ value) = cc is in
    let both : 45 ∷ 45 ∷ (o.name ++ 61 ∷ o.value) ≡ 45 ∷ 45 ∷ (name ++ 61 ∷ value) = sym begins ∙ first in
    let cut = one_cut o.name name o.value value named is_name (cc both) in
    bad (subst IsPositional cut.1 is_value)

-- in two words
pub no_value_apart : (words rest : List (List ℕ)) (name value : List ℕ) → IsOptionName name → ¬ IsPositional value
    → words ≡ (45 ∷ 45 ∷ name) ∷ value ∷ rest → NeverSplits words
no_value_apart words rest name value is_name bad is all positional (no_option every) =
    no_dash (45 ∷ 45 ∷ name) (45 ∷ name) (All-head IsPositional (45 ∷ 45 ∷ name) (value ∷ rest) (subst (All IsPositional) is every)) refl
no_value_apart words rest name value is_name bad is all positional (apart {value = v} {o = o} named begins same is_value splits) =
    let second : v ≡ value = cc is in
    bad (subst IsPositional (sym same ∙ second) is_value)
no_value_apart words rest name value is_name bad is all positional (joined {word = word} {o = o} named begins is_value splits) =
    let first : word ≡ 45 ∷ 45 ∷ name = cc is in
    let both : 45 ∷ 45 ∷ name ≡ 45 ∷ 45 ∷ (o.name ++ 61 ∷ o.value) = sym first ∙ begins in
    no_cut name o.name o.value is_name (cc both)

-- with no word after it
pub no_value_at_all : (words : List (List ℕ)) (name : List ℕ) → IsOptionName name → words ≡ (45 ∷ 45 ∷ name) ∷ [] → NeverSplits words
no_value_at_all words name is_name is all positional (no_option every) =
    no_dash (45 ∷ 45 ∷ name) (45 ∷ name) (All-head IsPositional (45 ∷ 45 ∷ name) [] (subst (All IsPositional) is every)) refl
no_value_at_all words name is_name is all positional (apart {word = word} {value = v} {words = later} named begins same is_value splits) =
    let none_more : v ∷ later ≡ [] = cc is in
    cc none_more
no_value_at_all words name is_name is all positional (joined {word = word} {o = o} named begins is_value splits) =
    let first : word ≡ 45 ∷ 45 ∷ name = cc is in
    let both : 45 ∷ 45 ∷ name ≡ 45 ∷ 45 ∷ (o.name ++ 61 ∷ o.value) = sym first ∙ begins in
    no_cut name o.name o.value is_name (cc both)

-- words that begin with no option, and aren't all positional, split in no way
pub no_option_first : (words rest : List (List ℕ)) (first : List ℕ) → words ≡ first ∷ rest → ((x : List ℕ) → first ≢ 45 ∷ 45 ∷ x)
    → ¬ All IsPositional words → NeverSplits words
no_option_first words rest first is other bad all positional (no_option every) = bad every
no_option_first words rest first is other bad all positional (apart {word = word} {o = o} named begins same is_value splits) =
    let begin : word ≡ first = cc is in
    other o.name (sym begin ∙ begins)
no_option_first words rest first is other bad all positional (joined {word = word} {o = o} named begins is_value splits) =
    let begin : word ≡ first = cc is in
    other (o.name ++ 61 ∷ o.value) (sym begin ∙ begins)

-- the text before the first '=' has none, and the text is it, the '=' and what is after
pub cut_some : (bs : List ℕ) (r : Option (Bor (List ℕ) × Bor (List ℕ))) → IsSplitOnceResult 61 bs r
    → IfSome r (λ x. IsOptionName x.0.now × (bs ≡ x.0.now ++ (codes "=" ++ x.1.now)))
cut_some bs r is = by r (split_once_first 61 bs r is (omega arith)) where
  is_cut : ℕ → Bool
  is_cut b = eqb b 61

  name : position_or_len is_cut bs < length bs → IsOptionName (before_first is_cut bs)
  name within =
      All-from_get_or (λ (byte : ℕ). byte ≢ 61) (before_first is_cut bs) 0 (λ i lt same.
      let at : i < position_or_len is_cut bs = let short = length-take-le (position_or_len is_cut bs) bs (omega (arith, within)) in omega (arith, lt, short, within) in
      let fails = fails_before_first is_cut bs i 0 at in
      let there : get_or (before_first is_cut bs) i 0 ≡ get_or bs i 0 = get_or-take (position_or_len is_cut bs) bs i 0 at in
      elim (eqb_tells (get_or bs i 0) 61) [
        | inl found ↦ true_false (sym found.0 ∙ fails)
        | inr other ↦ other.1 (sym there ∙ same)
      ])

  whole : position_or_len is_cut bs < length bs → bs ≡ before_first is_cut bs ++ 61 ∷ after_first is_cut bs
  whole within =
      let byte : get_or bs (position_or_len is_cut bs) 0 ≡ 61 = eqb-true (get_or bs (position_or_len is_cut bs) 0) 61 (passes_at_first is_cut bs 0 within) in
      split_at_first is_cut bs 0 within ∙ ap (λ (b : ℕ). before_first is_cut bs ++ b ∷ after_first is_cut bs) byte

  by : (r : Option (Bor (List ℕ) × Bor (List ℕ)))
      → MatchOption r (position_or_len is_cut bs ≡ length bs)
      (λ x. (position_or_len is_cut bs < length bs) × (x.0.now ≡ before_first is_cut bs) × (x.1.now ≡ after_first is_cut bs))
      → IfSome r (λ x. IsOptionName x.0.now × (bs ≡ x.0.now ++ (codes "=" ++ x.1.now)))
  by None m = tt
  by (Some x) m =
      let first : IsOptionName x.0.now = subst IsOptionName (sym m.1) (name m.0) in
      (first, whole m.0 ∙ (ap (λ (a : List ℕ). a ++ 61 ∷ after_first is_cut bs) (sym m.1) ∙ ap (λ (b : List ℕ). x.0.now ++ 61 ∷ b) (sym m.2)))

-- a text without '=' is a name
pub cut_none : (bs : List ℕ) (r : Option (Bor (List ℕ) × Bor (List ℕ))) → IsSplitOnceResult 61 bs r → IfNone r (IsOptionName bs)
cut_none bs r is = by r (split_once_first 61 bs r is (omega arith)) where
  is_cut : ℕ → Bool
  is_cut b = eqb b 61

  by : (r : Option (Bor (List ℕ) × Bor (List ℕ)))
      → MatchOption r (position_or_len is_cut bs ≡ length bs)
      (λ x. (position_or_len is_cut bs < length bs) × (x.0.now ≡ before_first is_cut bs) × (x.1.now ≡ after_first is_cut bs))
      → IfNone r (IsOptionName bs)
  by (Some x) m = tt
  by None m =
      All-from_get_or (λ (byte : ℕ). byte ≢ 61) bs 0 (λ i lt same.
      let fails = fails_before_first is_cut bs i 0 (omega (arith, lt, m)) in
      elim (eqb_tells (get_or bs i 0) 61) [
        | inl found ↦ true_false (sym found.0 ∙ fails)
        | inr other ↦ other.1 same
      ])

-- the words from a place on are the one there and those after it
pub from_place : (words : List (List ℕ)) (at : ℕ) (word : List ℕ) → slice_get words at ≡ Some word → drop at words ≡ word ∷ drop (at + 1) words
from_place words at word is =
    drop-cons words at word (slice_get_within words at word is)
    ∙ ap (λ (w : List ℕ). w ∷ drop (suc at) words) (get_or_from_slice_get words at word word is)
    ∙ ap (λ (k : ℕ). word ∷ drop k words) {x = suc at} {y = at + 1} (omega arith)

-- the word at a place, as its text
pub text_at : (words : List (String Global)) (at : ℕ) (word : String Global) → at < length words → word ≡ get_or words at word
    → slice_get (texts words) at ≡ Some (string_bytes word)
text_at words at word within is =
    slice_get-map string_bytes words at ∙ ap (option_map string_bytes) (read_at words words at word refl within is)

-- the words from the last place on are the one there
pub last_place : (words : List (List ℕ)) (at : ℕ) (word : List ℕ) → slice_get words at ≡ Some word → length words ≤ at + 1
    → drop at words ≡ word ∷ []
last_place words at word is long = from_place words at word is ∙ ap (λ (ws : List (List ℕ)). word ∷ ws) (drop_all (at + 1) words long)

-- an option in two words from a place on
pub two_words : (words : List (String Global)) (at : ℕ) (word : String Global) (name value : List ℕ)
    → slice_get (texts words) at ≡ Some (45 ∷ 45 ∷ name) → at + 1 < length words → word ≡ get_or words (at + 1) word
    → value ≡ string_bytes word → drop at (texts words) ≡ (45 ∷ 45 ∷ name) ∷ value ∷ drop (at + 2) (texts words)
two_words words at word name value there within is same =
    let second : slice_get (texts words) (at + 1) ≡ Some value = text_at words (at + 1) word within is ∙ ap Some (sym same) in
    from_place (texts words) at (45 ∷ 45 ∷ name) there
    ∙ (ap (λ (ws : List (List ℕ)). (45 ∷ 45 ∷ name) ∷ ws) (from_place (texts words) (at + 1) value second)
    ∙ ap (λ (k : ℕ). (45 ∷ 45 ∷ name) ∷ value ∷ drop k (texts words)) {x = at + 1 + 1} {y = at + 2} (omega arith))

-- words are positional where their texts are
positional_words : (words : List (String Global)) → All IsPositional (texts words) → All (λ word. IsPositional (string_bytes word)) words
positional_words [] all = All-nil (λ (word : String Global). IsPositional (string_bytes word))
positional_words (word ∷ words) all =
    All-cons (λ (w : String Global). IsPositional (string_bytes w)) word words
    (All-head IsPositional (string_bytes word) (texts words) all)
    (positional_words words (All-tail IsPositional (string_bytes word) (texts words) all))

-- the words from a place on, and their texts
pub rest_texts : (words : List (String Global)) (at : ℕ) → texts (take (length words - at) (drop at words)) ≡ drop at (texts words)
rest_texts words at = ap texts (take_to_end at words) ∙ sym (drop-map string_bytes at words)

pub rest_positional : (words : List (String Global)) (at : ℕ)
    → All (λ word. IsPositional (string_bytes word)) (take (length words - at) (drop at words)) → All IsPositional (drop at (texts words))
rest_positional words at all =
    subst (All IsPositional) (rest_texts words at) (All-map IsPositional string_bytes (take (length words - at) (drop at words)) all)

pub positional_rest : (words : List (String Global)) (at : ℕ) → All IsPositional (drop at (texts words))
    → All (λ word. IsPositional (string_bytes word)) (take (length words - at) (drop at words))
positional_rest words at all =
    positional_words (take (length words - at) (drop at words)) (subst (All IsPositional) (sym (rest_texts words at)) all)
