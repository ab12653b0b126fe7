-- The texts of words, and from a place on.
use Rattle.std.proofs.Common.{String, Global, string_bytes, get_or, ap, ◌≡◌, ◌<◌, ◌≤◌, ◌+◌, ℕ, List, [], ◌∷◌, length, drop}
use Rattle.std.proofs.Common.{subst, sym}
use Rattle.std.proofs.lemmas.List.{drop-map, length-map}
use Rattle.wb_lemmas.proofs.Parts.{drop_from, drop_past}
use Rattle.wb_program_words.specs.Asked.{texts}

-- the texts of words are as many
pub few_texts : (words : List (String Global)) (most : ℕ) → length words ≤ most → length (texts words) ≤ most
few_texts words most few = subst (λ (n : ℕ). n ≤ most) (sym (length-map words string_bytes)) few

-- the texts from a place on begin with that of the word there
pub texts_from : (words : List (String Global)) (at : ℕ) (word : String Global) (file : List ℕ) → at < length words
    → word ≡ get_or words at word → file ≡ string_bytes word → drop at (texts words) ≡ file ∷ drop (at + 1) (texts words)
texts_from words at word file within is same =
    let here : drop at (texts words) ≡ texts (drop at words) = drop-map string_bytes at words in
    let split : texts (drop at words) ≡ string_bytes word ∷ texts (drop (at + 1) words) = ap texts (drop_from words at word within is) in
    let later : drop (at + 1) (texts words) ≡ texts (drop (at + 1) words) = drop-map string_bytes (at + 1) words in
    cc (here, split, later, same)

-- and past the last there is none
pub texts_past : (words : List (String Global)) (at : ℕ) → length words ≤ at → drop at (texts words) ≡ []
texts_past words at past = drop_past (texts words) at (few_texts words at past)
