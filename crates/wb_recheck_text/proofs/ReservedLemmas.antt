-- The words that are searched are the reserved ones.
use Rattle.std.proofs.Common.{◌≡◌, ◌<◌, ◌≤◌, ℕ, List, Bool, map, length, get_or, take, refl, sym, ◌∙◌, subst, arith}
use Rattle.std.specs.Prelude.{Contains, MatchBool}
use Rattle.std.proofs.lemmas.List.{length-map, get_or-map}
use Rattle.wb_base.specs.Identifiers.{IsReserved, reserved_words}
use Rattle.wb_text_tokens.specs.Words.{word_text}
use Rattle.wb_text_tokens.specs.contracts.word.Word as words
use Rattle.wb_text_tokens.specs.declared.word.Word.{Word}
use Rattle.wb_text_tokens.specs.declared.word.Word.TheVariants.{Abstract}
use Rattle.wb_text_tokens.proofs.Enumerations.{values_of}

-- one of the words is spelled so
pub among : (list : List Word) (i : ℕ) (d : Word) (text : List ℕ) → i < length list → word_text (get_or list i d) ≡ text
    → Contains (map word_text list) text
among list i d text within same =
    (i, omega (arith, within, length-map list word_text), get_or-map word_text list i d text within ∙ same)

-- none is, where none up to the end is
pub not_among : (list : List Word) (i : ℕ) (text : List ℕ) → length list ≤ i
    → ((k : ℕ) (d : Word) → k < i → text ≡ word_text (get_or list k d) → ⊥) → ¬ Contains (map word_text list) text
not_among list i text past none (k, within, is) =
    let below : k < length list = omega (arith, within, length-map list word_text) in
    none k Abstract (omega (arith, past, below)) (sym is ∙ get_or-map word_text list k Abstract text below)

-- what is a word in every format, which all are but `closed`
abbrev plain_words : List Word
plain_words = take 35 (values_of words.enum)

reserved_list : reserved_words ≡ map word_text plain_words
unfolding reserved_words
reserved_list = refl

-- so the answer of the search is whether the text is reserved
pub reserved_answer : (b : Bool) (text : List ℕ)
    → MatchBool b (Contains (map word_text plain_words) text) (¬ Contains (map word_text plain_words) text)
    → MatchBool b (IsReserved text) (¬ IsReserved text)
reserved_answer b text found =
    subst (λ (l : List (List ℕ)). MatchBool b (Contains l text) (¬ Contains l text)) (sym reserved_list) found
