-- Each kind of token has a token with a text, and so has each list of kinds.
use Rattle.std.proofs.Common.{◌≡◌, ℕ, ℤ, pos, negsuc, ◌<◌, ◌≤◌, List, [], ◌∷◌, ◌++◌, map, Bool, true, false, cond, length, refl, sym, ap, ◌∙◌}
use Rattle.std.proofs.Common.{arith}
use Rattle.std.proofs.Math.Facts.{sfits_lit}
use Rattle.std.proofs.lemmas.List.Elements.{All-nil, All-cons, All-append}
use Rattle.std.specs.List.{All, list_all}
use Rattle.std.specs.Prelude.{codes, ◌==◌, nat_lt, IsTrue, if◌then◌else◌}
use Rattle.wb_lemmas.proofs.Booleans.{and_left, and_right}
use Rattle.wb_text_predictive.specs.declared.table.Placed.{Placed}
use Rattle.wb_text_predictive.proofs.ByKind.{ChangedKinds, none, more}
use Rattle.wb_text_tokens.specs.Kinds.{kind_of, integer_kind}
use Rattle.wb_text_tokens.specs.Spelling.{IsToken, IsInteger, IsStringBody, IsRegexPart, IsRegexBody}
use Rattle.wb_text_tokens.specs.Words.{word_text, punctuation_text, is_word_of, IsReservedIn}
use Rattle.wb_text_tokens.specs.contracts.word.Word as words
use Rattle.wb_text_tokens.specs.contracts.punctuation.Punctuation as marks
use Rattle.wb_text_tokens.specs.declared.kind.TokenKind.{TokenKind}
use Rattle.wb_text_tokens.specs.declared.kind.TokenKind.TheVariants.{Word, Mark, Name, One, Two, Number, String, Regex, End}
use Rattle.wb_text_tokens.specs.declared.token.Dialect.{Dialect}
use Rattle.wb_text_tokens.specs.declared.token.Token.{Token}
use Rattle.wb_text_tokens.specs.declared.word.Word.{Word as ReservedWord}
use Rattle.wb_text_tokens.specs.declared.word.Word.TheVariants as w
use Rattle.wb_text_tokens.specs.declared.token.Token.TheVariants as t
use Rattle.wb_text_tokens.proofs.Enumerations.{each_value}
use Rattle.wb_text_tokens.proofs.LinesLemmas.{AreLines, last, line}

-- a token of the kind: the name `a`, the integers 1, 2 and 0, the empty string and the regular expression `a`. The end has none
abbrev pub sample : TokenKind → Token
sample (Word word) = t.Word word
sample (Mark mark) = t.Punctuation mark
sample Name = t.Name (codes "a")
sample One = t.Int (pos 1)
sample Two = t.Int (pos 2)
sample Number = t.Int (pos 0)
sample String = t.Text []
sample Regex = t.Regex (codes "a")
sample End = t.Name (codes "a")

-- its spelling
abbrev pub spelling : TokenKind → List ℕ
spelling (Word word) = word_text word
spelling (Mark mark) = punctuation_text mark
spelling Name = codes "a"
spelling One = codes "1"
spelling Two = codes "2"
spelling Number = codes "0"
spelling String = codes "\"\""
spelling Regex = codes "/a/"
spelling End = codes "a"

-- a word that isn't one of the dialect gives way to `extensible`, which may stand where it may
abbrev pub word_in : Dialect → ReservedWord → ReservedWord
word_in dialect word = if is_word_of dialect word then word else w.Extensible

-- and so does its kind
abbrev pub kind_in : Dialect → TokenKind → TokenKind
kind_in dialect (Word word) = Word (word_in dialect word)
kind_in dialect kind = kind

-- that is a word of the dialect
word_in_is : (dialect : Dialect) (word : ReservedWord) → IsTrue (is_word_of dialect (word_in dialect word))
word_in_is dialect word = by_test (is_word_of dialect word) refl
  where
    by_test : (c : Bool) → is_word_of dialect word ≡ c → IsTrue (is_word_of dialect (if c then word else w.Extensible))
    by_test true h = h
    by_test false h = refl

-- each reserved word has more than one letter
long_word : (dialect : Dialect) (x : List ℕ) → length x ≤ 1 → ¬ IsReservedIn dialect x
long_word dialect x short (word, s) =
    let h = each_value words.enum (λ y. nat_lt 1 (length (word_text y))) refl word in
    let long : 1 < length (word_text word) = grind (arith, h) in
    omega (arith, short, ap length s.is, long)

-- it is that of a sample of the dialect
pub sample_spelled : (dialect : Dialect) (kind : TokenKind) → IsToken dialect (sample (kind_in dialect kind)) (spelling (kind_in dialect kind))
sample_spelled dialect (Word word) = (record { reserved = word_in_is dialect word; is = refl }, tt)
sample_spelled dialect (Mark mark) = (refl, tt)
sample_spelled dialect Name = ((refl, (refl, refl), long_word dialect (codes "a") (omega arith)), tt)
sample_spelled dialect One = (IsInteger.positive (omega arith, (omega arith, tt)) refl, sfits_lit tt)
sample_spelled dialect Two = (IsInteger.positive (omega arith, (omega arith, tt)) refl, sfits_lit tt)
sample_spelled dialect Number = (IsInteger.positive (omega arith, (omega arith, tt)) refl, sfits_lit tt)
sample_spelled dialect String = (record { body = []; stands = IsStringBody.none refl refl; quoted = refl }, tt)
sample_spelled dialect Regex = (
  (
    refl,
    (λ e. absurd (cc)),
    IsRegexBody.next {part = codes "a"} {x = []} (IsRegexPart.plain {b = 97} refl refl)
        (IsRegexBody.none refl) refl,
  ),
  tt,
)
sample_spelled dialect End = ((refl, (refl, refl), long_word dialect (codes "a") (omega arith)), tt)

-- the sample of an integer's kind is of that kind
integer_sample : (z : ℤ) → kind_of (sample (integer_kind z)) ≡ integer_kind z
integer_sample (pos n) = by_tests (n == 1) (n == 2)
  where
    by_tests : (c d : Bool) → kind_of (sample (cond c One (cond d Two Number))) ≡ cond c One (cond d Two Number)
    by_tests true d = refl
    by_tests false true = refl
    by_tests false false = refl
integer_sample (negsuc n) = refl

-- an integer's kind is in every dialect
integer_in : (dialect : Dialect) (z : ℤ) → kind_in dialect (integer_kind z) ≡ integer_kind z
integer_in dialect (pos n) = by_tests (n == 1) (n == 2)
  where
    by_tests : (c d : Bool) → kind_in dialect (cond c One (cond d Two Number)) ≡ cond c One (cond d Two Number)
    by_tests true d = refl
    by_tests false true = refl
    by_tests false false = refl
integer_in dialect (negsuc n) = refl

-- the sample of a token's kind in the dialect is of that kind
pub sample_kind : (dialect : Dialect) (token : Token) → kind_of (sample (kind_in dialect (kind_of token))) ≡ kind_in dialect (kind_of token)
sample_kind dialect (t.Name text) = refl
sample_kind dialect (t.Word word) = refl
sample_kind dialect (t.Int value) =
    ap (λ k. kind_of (sample k)) (integer_in dialect value) ∙ (integer_sample value ∙ sym (integer_in dialect value))
sample_kind dialect (t.Text text) = refl
sample_kind dialect (t.Regex body) = refl
sample_kind dialect (t.Punctuation mark) = refl

-- these are bytes
abbrev AreBytes : List ℕ → Type 0
AreBytes x = All (λ b. b < 256) x

-- by a test
bytes_if : (x : List ℕ) → list_all (λ b. nat_lt b 256) x ≡ true → AreBytes x
bytes_if [] h = All-nil (λ b. b < 256)
bytes_if (b ∷ x) h =
    let first = and_left (nat_lt b 256) (list_all (λ c. nat_lt c 256) x) h in
    let small : b < 256 = grind (arith, first) in
    All-cons (λ c. c < 256) b x small (bytes_if x (and_right (nat_lt b 256) (list_all (λ c. nat_lt c 256) x) h))

-- a spelling is of bytes
spelling_bytes : (kind : TokenKind) → AreBytes (spelling kind)
spelling_bytes (Word word) = bytes_if (word_text word) (each_value words.enum (λ y. list_all (λ b. nat_lt b 256) (word_text y)) refl word)
spelling_bytes (Mark mark) =
    bytes_if (punctuation_text mark) (each_value marks.enum (λ m. list_all (λ b. nat_lt b 256) (punctuation_text m)) refl mark)
spelling_bytes Name = bytes_if (codes "a") refl
spelling_bytes One = bytes_if (codes "1") refl
spelling_bytes Two = bytes_if (codes "2") refl
spelling_bytes Number = bytes_if (codes "0") refl
spelling_bytes String = bytes_if (codes "\"\"") refl
spelling_bytes Regex = bytes_if (codes "/a/") refl
spelling_bytes End = bytes_if (codes "a") refl

-- samples of these tokens' kinds in the dialect
abbrev pub samples : Dialect → List (Placed Token) → List Token
samples dialect xs = map (λ x. sample (kind_in dialect (kind_of x.token))) xs

-- on lines of their own
abbrev pub lines_of : Dialect → List (Placed Token) → List ℕ
lines_of dialect [] = 10 ∷ []
lines_of dialect (x ∷ xs) = 10 ∷ (spelling (kind_in dialect (kind_of x.token)) ++ lines_of dialect xs)

-- the lines are those of the samples
pub lines_sampled : (dialect : Dialect) (xs : List (Placed Token)) → AreLines dialect (lines_of dialect xs) (samples dialect xs)
lines_sampled dialect [] = last refl
lines_sampled dialect (x ∷ xs) =
    line (spelling (kind_in dialect (kind_of x.token))) (lines_of dialect xs) (sample_spelled dialect (kind_of x.token))
    (lines_sampled dialect xs) refl

-- and they are bytes
pub lines_bytes : (dialect : Dialect) (xs : List (Placed Token)) → All (λ b. b < 256) (lines_of dialect xs)
lines_bytes dialect [] = bytes_if (10 ∷ []) refl
lines_bytes dialect (x ∷ xs) =
    let here = kind_in dialect (kind_of x.token) in
    All-cons (λ b. b < 256) 10 (spelling here ++ lines_of dialect xs) (omega arith)
    (All-append (λ b. b < 256) (spelling here) (lines_of dialect xs) (spelling_bytes here) (lines_bytes dialect xs))

-- tokens that are the samples are of the kinds
pub samples_kinds : (dialect : Dialect) (xs ys : List (Placed Token)) → map (λ x. x.token) ys ≡ samples dialect xs
    → ChangedKinds kind_of (kind_in dialect) xs ys
samples_kinds dialect [] [] e = none
samples_kinds dialect [] (y ∷ ys) e = absurd (cc)
samples_kinds dialect (x ∷ xs) [] e = absurd (cc)
samples_kinds dialect (x ∷ xs) (y ∷ ys) e =
    let first : y.token ≡ sample (kind_in dialect (kind_of x.token)) = cc in
    let others : map (λ z. z.token) ys ≡ samples dialect xs = cc in
    more (ap kind_of first ∙ sample_kind dialect x.token) (samples_kinds dialect xs ys others)
