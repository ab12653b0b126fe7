-- No layout is where a token is.
use Rattle.std.proofs.Common.{◌≡◌, ◌≤◌, ◌<◌, ◌+◌, ℕ, List, [], ◌∷◌, ◌++◌, Bool, true, false, ◌||◌, not, eqb, length, get_or, refl, sym, ap}
use Rattle.std.proofs.Common.{◌∙◌, subst, arith, ℤ, length-append, append_assoc}
use Rattle.std.specs.Fmt.{signed_decimal}
use Rattle.std.specs.Str.Parse.{IsNumeral}
use Rattle.std.proofs.lemmas.Str.Parse.{digit_from_value}
use Rattle.std.proofs.lemmas.List.{get_or-append-add}
use Rattle.wb_text_tokens.specs.declared.punctuation.Punctuation.{Punctuation}
use Rattle.wb_text_tokens.specs.contracts.punctuation.Punctuation as marks
use Rattle.wb_text_tokens.specs.declared.word.Word.{Word}
use Rattle.wb_text_tokens.specs.contracts.word.Word as words
use Rattle.wb_text_tokens.proofs.Enumerations.{each_value}
use Rattle.wb_lemmas.proofs.Booleans.{not_true}
use Rattle.wb_text_tokens.specs.declared.token.Dialect.{Dialect}
use Rattle.wb_text_tokens.specs.declared.token.Token.{Token}
use Rattle.wb_text_tokens.specs.declared.token.Token.TheVariants as t
use Rattle.wb_text_tokens.specs.Printing.{printed_text}
use Rattle.wb_text_tokens.specs.Skipping.{is_blank, IsLayoutPiece, blank, comment}
use Rattle.wb_text_tokens.specs.Spelling.{Spells, IsInteger, IsRegexBody}
use Rattle.wb_base.specs.Identifiers.{is_letter, IsIdentifier}
use Rattle.wb_text_tokens.specs.Words.{word_text, punctuation_text}
use Rattle.wb_syntax.specs.Canonical.{printed}
use Rattle.wb_text_tokens.proofs.NoPieceLemmas.{no_slash}

-- a byte with which layout begins, if a slash is after a slash
abbrev begins_layout : ℕ → Bool
begins_layout b = is_blank b || eqb b 47

-- the first byte begins no layout
abbrev IsClear : List ℕ → Type 0
IsClear x = begins_layout (get_or x 0 0) ≡ false

-- a letter or `_` begins none
letter_clear : (b : ℕ) → is_letter b ≡ true → begins_layout b ≡ false
letter_clear b h = grind (arith, h)

-- a digit begins none
digit_clear : (b : ℕ) → 48 ≤ b → b ≤ 57 → begins_layout b ≡ false
digit_clear b low high = grind (arith, low, high)

-- digits begin with a digit
numeral_clear : (x : List ℕ) → IsNumeral 10 x → IsClear x
numeral_clear [] h = absurd (omega (arith, h.0))
numeral_clear (c ∷ cs) h = let r = digit_from_value c h.1.0 in digit_clear c r.0 r.1

-- an integer begins with a digit or a minus
integer_clear : (x : List ℕ) {z : ℤ} → IsInteger x z → IsClear x
integer_clear x (IsInteger.positive n e) = numeral_clear x n
integer_clear x (IsInteger.negative n e f) = subst IsClear (sym e) refl

-- no reserved word begins so
word_clear : (word : Word) → IsClear (word_text word)
word_clear word =
    not_true (begins_layout (get_or (word_text word) 0 0))
    (each_value words.enum (λ x. not (begins_layout (get_or (word_text x) 0 0))) refl word)

-- no mark begins so
mark_clear : (mark : Punctuation) → IsClear (punctuation_text mark)
mark_clear mark =
    not_true (begins_layout (get_or (punctuation_text mark) 0 0))
    (each_value marks.enum (λ x. not (begins_layout (get_or (punctuation_text x) 0 0))) refl mark)

-- no layout is where the bytes from there on begin with one that begins none
clear_piece : (dialect : Dialect) (text : List ℕ) (at : ℕ) → begins_layout (get_or text at 0) ≡ false → (behind : ℕ)
    → ¬ IsLayoutPiece dialect text at behind
clear_piece dialect text at clear behind (blank within is after) =
    let e = sym clear ∙ ap (λ t. t || eqb (get_or text at 0) 47) is in absurd (cc)
clear_piece dialect text at clear behind (comment layout k) = let e = sym clear ∙ ap begins_layout k.first.is in absurd (cc)

-- nor where a regular expression does
regex_piece : (dialect : Dialect) (text : List ℕ) (at : ℕ) (body rest : List ℕ) → get_or text at 0 ≡ 47
    → get_or text (at + 1) 0 ≡ get_or (body ++ rest) 0 0 → ¬ (body ≡ []) → IsRegexBody body
    → (behind : ℕ) → ¬ IsLayoutPiece dialect text at behind
regex_piece dialect text at body rest first second some stands behind (blank within is after) =
    let e = sym is ∙ ap is_blank first in absurd (cc)
regex_piece dialect text at [] rest first second some stands behind (comment layout k) = some refl
regex_piece dialect text at (d ∷ body) rest first second some stands behind (comment layout k) =
    no_slash d body stands (sym second ∙ k.second.is)

-- the first byte after a prefix of a text
second_byte : (text front y : List ℕ) (at : ℕ) → text ≡ front ++ y → at ≡ length front → get_or text at 0 ≡ get_or y 0 0
second_byte text front y at e f =
    let same : at ≡ length front + 0 = omega (arith, f) in
    ap (λ l. get_or l at 0) e ∙ (ap (λ k. get_or (front ++ y) k 0) same ∙ get_or-append-add front y 0 0)

-- no layout is where the first of the bytes begins none
front_piece : (dialect : Dialect) (text front x rest : List ℕ) (at : ℕ) → text ≡ front ++ (x ++ rest) → at ≡ length front → 0 < length x
    → IsClear x → (behind : ℕ) → ¬ IsLayoutPiece dialect text at behind
front_piece dialect text front [] rest at e f some clear behind piece = omega (arith, some)
front_piece dialect text front (c ∷ x) rest at e f some clear behind piece =
    clear_piece dialect text at (ap begins_layout (second_byte text front (c ∷ (x ++ rest)) at e f) ∙ clear) behind piece

-- a name begins with a letter or `_`
name_clear : (name : List ℕ) → IsIdentifier name → IsClear name
name_clear [] s = absurd s
name_clear (b ∷ x) s = letter_clear b s.0

-- no layout is where a token is printed
pub no_piece : (dialect : Dialect) (text front rest : List ℕ) (at : ℕ) (token : Token) → 0 < length (printed token)
    → Spells dialect token (printed token) → text ≡ front ++ (printed token ++ rest) → at ≡ length front → (behind : ℕ)
    → ¬ IsLayoutPiece dialect text at behind
no_piece dialect text front rest at (t.Name name) some s e f = front_piece dialect text front name rest at e f some (name_clear name s.1)
no_piece dialect text front rest at (t.Word word) some s e f =
    front_piece dialect text front (word_text word) rest at e f some (word_clear word)
no_piece dialect text front rest at (t.Int z) some s e f =
    front_piece dialect text front (signed_decimal z) rest at e f some (integer_clear (signed_decimal z) s)
no_piece dialect text front rest at (t.Text string) some s e f = front_piece dialect text front (printed_text string) rest at e f some refl
no_piece dialect text front rest at (t.Regex body) some s e f =
    let behind = (body ++ 47 ∷ []) ++ rest in
    let first = second_byte text front (47 ∷ behind) at e f in
    let second =
    second_byte text (front ++ 47 ∷ []) behind (at + 1) (e ∙ sym (append_assoc front (47 ∷ []) behind))
    (omega (arith, f, length-append front (47 ∷ []))) in
    regex_piece dialect text at body (47 ∷ rest) first (second ∙ ap (λ l. get_or l 0 0) (append_assoc body (47 ∷ []) rest)) s.1 s.2
no_piece dialect text front rest at (t.Punctuation mark) some s e f =
    front_piece dialect text front (punctuation_text mark) rest at e f some (mark_clear mark)
