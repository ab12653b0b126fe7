-- The words of a dialect are those that are reserved in it, and each word and each mark has a spelling of its own.
use Rattle.std.proofs.Common.{◌≡◌, ◌≢◌, ℕ, ◌<◌, List, [], ◌∷◌, Bool, true, false, Option, Some, None, length, take, IsTrue}
use Rattle.std.proofs.Common.{get_or, refl, sym, ap, ◌∙◌, subst, inl, inr, ◌⊎◌, ⊎_elim, arith}
use Rattle.std.specs.Prelude.{map, codes, Contains, if◌then◌else◌}
use Rattle.std.specs.List.{list_all}
use Rattle.std.specs.Str.{bytes_eq}
use Rattle.std.proofs.lemmas.Bool.{cases_lt}
use Rattle.std.proofs.lemmas.List.{length-map, get_or-map, get_or-take}
use Rattle.std.proofs.lemmas.List.Folds.{list_all_at}
use denote.Enum.Bare.{sameb, same_true}
use Rattle.wb_base.specs.Identifiers.{IsReserved, reserved_words}
use Rattle.wb_text_tokens.specs.Words.{word_text, punctuation_text, has_closed, is_word_of, IsSpelledIn, IsReservedIn}
use Rattle.wb_text_tokens.specs.contracts.word.Word as words
use Rattle.wb_text_tokens.specs.contracts.punctuation.Punctuation as marks
use Rattle.wb_text_tokens.specs.declared.token.Dialect.{Dialect}
use Rattle.wb_text_tokens.specs.declared.token.Dialect.TheVariants.{Terms, FormatOne, FormatTwo}
use Rattle.wb_text_tokens.specs.declared.word.Word.{Word}
use Rattle.wb_text_tokens.specs.declared.word.Word.TheVariants as w
use Rattle.wb_text_tokens.specs.declared.punctuation.Punctuation.{Punctuation}
use Rattle.wb_text_tokens.proofs.Enumerations.{values_of, contains_value, each_value}

-- the reserved words, in the order of the list that is searched
abbrev pub all_words : List Word
all_words = values_of words.enum

-- each is in the list
contains_word : (word : Word) → Contains all_words word
contains_word = contains_value words.enum tt

-- the words of every dialect
abbrev plain_words : List Word
plain_words = take 35 all_words

-- the reserved words are their texts
reserved_list : reserved_words ≡ map word_text plain_words
unfolding reserved_words
reserved_list = refl

plain_in : (dialect : Dialect) → list_all (is_word_of dialect) plain_words ≡ true
plain_in Terms = refl
plain_in FormatOne = refl
plain_in FormatTwo = refl

each_plain : (dialect : Dialect) (k : ℕ) (d : Word) → k < length plain_words → IsTrue (is_word_of dialect (get_or plain_words k d))
each_plain dialect k d below = by_test (is_word_of dialect (get_or plain_words k d)) refl
  where
    by_test : (c : Bool) → is_word_of dialect (get_or plain_words k d) ≡ c → IsTrue c
    by_test true h = refl
    by_test false h =
        let bad : true ≡ false = sym (plain_in dialect) ∙ list_all_at (is_word_of dialect) plain_words k d below h in absurd (cc)

-- what is reserved is a word of every dialect
pub reserved_word : (dialect : Dialect) (x : List ℕ) → IsReserved x → IsReservedIn dialect x
reserved_word dialect x (k, within, is) =
    let inside : k < length (map word_text plain_words) = subst (λ (l : List (List ℕ)). k < length l) reserved_list within in
    let below : k < length plain_words = subst (λ (n : ℕ). k < n) (length-map plain_words word_text) inside in
    let at : get_or (map word_text plain_words) k x ≡ x = subst (λ (l : List (List ℕ)). get_or l k x ≡ x) reserved_list is in
    let default = get_or all_words 0 (words.the_make (inl tt)) in (
      get_or plain_words k default,
      record {
        reserved = each_plain dialect k default below;
        is = sym at ∙ get_or-map word_text plain_words k default x below;
      },
    )

-- a word of a dialect is reserved in every one, or is `closed` where that is reserved
pub word_reserved : (dialect : Dialect) (word : Word) → IsTrue (is_word_of dialect word)
    → IsReserved (word_text word) ⊎ (IsTrue (has_closed dialect) × (word_text word ≡ codes "closed"))
word_reserved dialect word h =
    let (k, within, is) = contains_word word in
    let bound : k < 36 = within in
    ⊎_elim
    (λ low.
    let inside : k < length (map word_text plain_words) = omega (arith, low, length-map plain_words word_text) in
    let here : get_or plain_words k word ≡ word = get_or-take 35 all_words k word low ∙ is in
    inl (subst (λ (l : List (List ℕ)). Contains l (word_text word)) (sym reserved_list)
    (k, inside, get_or-map word_text plain_words k word (word_text word) low ∙ ap word_text here)))
    (λ high.
    let last : k ≡ 35 = omega (arith, bound, high) in
    let same : word ≡ w.Closed = sym is ∙ ap (λ n. get_or all_words n word) last in
    inr (subst (λ y. IsTrue (is_word_of dialect y)) same h, ap word_text same))
    (cases_lt k 35)

-- what is none of the list is no word
not_listed : (text : List ℕ) → ((k : ℕ) (d : Word) → k < length all_words → text ≢ word_text (get_or all_words k d)) → (word : Word)
    → text ≢ word_text word
not_listed text none word is = let (k, within, same) = contains_word word in none k word within (is ∙ ap word_text (sym same))

-- the first of these values that is spelled so
abbrev spelled_in : {X : Type 0} → (X → List ℕ) → List X → List ℕ → Option X
spelled_in spelling [] text = None
spelled_in spelling (x ∷ xs) text = if bytes_eq (spelling x) text then Some x else spelled_in spelling xs text

-- what was found is this value
abbrev is_found : {X : Type 0} → (X → X → Bool) → Option X → X → Bool
is_found same None x = false
is_found same (Some y) x = same y x

found_is : {X : Type 0} (same : X → X → Bool) → ((a b : X) → same a b ≡ true → a ≡ b)
    → (found : Option X) (x : X) → is_found same found x ≡ true → found ≡ Some x
found_is same equal None x h = absurd (cc)
found_is same equal (Some y) x h = ap Some (equal y x h)

-- a word is found by its spelling
named : (word : Word) → spelled_in word_text all_words (word_text word) ≡ Some word
named word =
    found_is (sameb words.the_type) (same_true words.the_type tt) (spelled_in word_text all_words (word_text word)) word
    (each_value words.enum (λ x. is_found (sameb words.the_type) (spelled_in word_text all_words (word_text x)) x) refl word)

-- a spelling is that of one word
pub same_word : (a b : Word) → word_text a ≡ word_text b → a ≡ b
same_word a b h = let e : Some a ≡ Some b = sym (named a) ∙ ap (spelled_in word_text all_words) h ∙ named b in cc

-- the marks
abbrev all_marks : List Punctuation
all_marks = values_of marks.enum

-- a mark is found by its spelling
named_mark : (mark : Punctuation) → spelled_in punctuation_text all_marks (punctuation_text mark) ≡ Some mark
named_mark mark =
    found_is (sameb marks.the_type) (same_true marks.the_type tt) (spelled_in punctuation_text all_marks (punctuation_text mark)) mark
    (each_value marks.enum (λ x. is_found (sameb marks.the_type) (spelled_in punctuation_text all_marks (punctuation_text x)) x) refl mark)

-- a spelling is that of one mark
pub same_mark : (a b : Punctuation) → punctuation_text a ≡ punctuation_text b → a ≡ b
same_mark a b h = let e : Some a ≡ Some b = sym (named_mark a) ∙ ap (spelled_in punctuation_text all_marks) h ∙ named_mark b in cc

-- where no word is spelled so, none is reserved so
pub none_reserved : (dialect : Dialect) (text : List ℕ)
    → ((k : ℕ) (d : Word) → k < length all_words → text ≢ word_text (get_or all_words k d)) → ¬ IsReservedIn dialect text
none_reserved dialect text none (word, s) = not_listed text none word s.is

-- a word that isn't one of the dialect isn't reserved in it
pub other_reserved : (dialect : Dialect) (text : List ℕ) (word : Word) → text ≡ word_text word → is_word_of dialect word ≡ false
    → ¬ IsReservedIn dialect text
other_reserved dialect text word is out (other, s) =
    let same : other ≡ word = same_word other word (sym s.is ∙ is) in
    let bad : true ≡ false = sym s.reserved ∙ (ap (is_word_of dialect) same ∙ out) in
    absurd (cc)
