-- No two rows have one verb, and no row has one option twice: by a computation over the tables.
use Rattle.std.proofs.Common.{◌≡◌, ℕ, zero, suc, List, [], ◌∷◌, Bool, true, false, ◌&&◌, Some, map, slice_get, refl, ap, sym, subst, ◌∙◌}
use Rattle.std.specs.Prelude.{if◌then◌else◌}
use Rattle.std.specs.Str.{bytes_eq}
use Rattle.std.proofs.lemmas.Option.{same_Some}
use Rattle.std.proofs.lemmas.Slice.Eq.{bytes_eq-Decides}
use denote.Enum.Bare.{sameb, same_true}
use Rattle.wb_lemmas.proofs.Booleans.{and_left, and_right}
use Rattle.wb_lemmas.proofs.Places.{nothing_at}
use Rattle.wb_base.specs.Different.{Differ}
use Rattle.wb_text_tokens.proofs.Enumerations.{each_value, holds_from}
use Rattle.wb_program_words.specs.Rows.{name_of, row_of}
use Rattle.wb_program_words.specs.contracts.rows.Verb as verbs
use Rattle.wb_program_words.specs.declared.rows.Verb.{Verb}

-- two verbs that are written alike are one
abbrev is_told : Verb → Verb → Bool
is_told u v = if bytes_eq (row_of u).verb (row_of v).verb then sameb verbs.the_type u v else true

-- so it is of all
told : (u v : Verb) → is_told u v ≡ true
told u v =
    each_value verbs.enum (λ y. is_told u y)
    (each_value verbs.enum (λ x. holds_from verbs.enum.parts (λ c. is_told x (verbs.enum.make c))) refl u) v

pub one_verb : (u v : Verb) → (row_of u).verb ≡ (row_of v).verb → u ≡ v
one_verb u v alike =
    let yes : bytes_eq (row_of u).verb (row_of v).verb ≡ true = (bytes_eq-Decides (row_of u).verb (row_of v).verb).1 alike in
    same_true verbs.the_type tt u v
    (subst (λ (b : Bool). (if b then sameb verbs.the_type u v else true) ≡ true) yes (told u v))

-- a text is none of these
abbrev is_new : List ℕ → List (List ℕ) → Bool
is_new text [] = true
is_new text (other ∷ texts) = (if bytes_eq text other then false else true) && is_new text texts

-- all of these differ
abbrev are_apart : List (List ℕ) → Bool
are_apart [] = true
are_apart (text ∷ texts) = is_new text texts && are_apart texts

true_false : true ≡ false → ⊥
true_false e = cc

new_is_nowhere : (text : List ℕ) (texts : List (List ℕ)) (k : ℕ) → is_new text texts ≡ true → slice_get texts k ≡ Some text → ⊥
new_is_nowhere text [] k new at = nothing_at text k at
new_is_nowhere text (other ∷ texts) zero new at =
    let same : other ≡ text = same_Some other text at in
    let yes : bytes_eq text other ≡ true = (bytes_eq-Decides text other).1 (sym same) in
    let first = and_left (if bytes_eq text other then false else true) (is_new text texts) new in
    true_false (sym (subst (λ (b : Bool). (if b then false else true) ≡ true) yes first))
new_is_nowhere text (other ∷ texts) (suc k) new at =
    new_is_nowhere text texts k (and_right (if bytes_eq text other then false else true) (is_new text texts) new) at

pub apart_differ : (texts : List (List ℕ)) → are_apart texts ≡ true → Differ texts
apart_differ [] apart x i j first second = absurd (nothing_at x i first)
apart_differ (text ∷ texts) apart x zero zero first second = refl
apart_differ (text ∷ texts) apart x zero (suc j) first second =
    let same : text ≡ x = same_Some text x first in
    absurd (new_is_nowhere text texts j (and_left (is_new text texts) (are_apart texts) apart) (second ∙ ap Some (sym same)))
apart_differ (text ∷ texts) apart x (suc i) zero first second =
    let same : text ≡ x = same_Some text x second in
    absurd (new_is_nowhere text texts i (and_left (is_new text texts) (are_apart texts) apart) (first ∙ ap Some (sym same)))
apart_differ (text ∷ texts) apart x (suc i) (suc j) first second =
    ap suc (apart_differ texts (and_right (is_new text texts) (are_apart texts) apart) x i j first second)

-- the options of each row have different names
pub options_apart : (verb : Verb) → Differ (map name_of (row_of verb).options)
options_apart verb =
    apart_differ (map name_of (row_of verb).options) (each_value verbs.enum (λ v. are_apart (map name_of (row_of v).options)) refl verb)
