-- No token has a line feed, so none goes over one, and none is gone on by one.
use Rattle.std.proofs.Common.{◌≡◌, ◌≢◌, ℕ, ◌-◌, ◌<◌, ◌≤◌, List, [], ◌∷◌, ◌++◌, Option, Some, None, Bool, true, false, ◌&&◌, ◌||◌, not, eqb}
use Rattle.std.proofs.Common.{length, get_or, take, drop, refl, sym, ap, ◌∙◌, subst, arith, length-take, length-drop}
use Rattle.std.proofs.lemmas.Bool.{eqb-true}
use Rattle.std.proofs.lemmas.List.{get_or-take, get_or-drop}
use Rattle.std.proofs.lemmas.List.Folds.{list_all_at, list_all-append}
use Rattle.std.specs.Char.{is_ascii_digit}
use Rattle.std.specs.List.{list_all}
use Rattle.std.specs.Prelude.{slice_range}
use Rattle.wb_base.specs.Decimal.{hex_value}
use Rattle.wb_base.specs.Identifiers.{is_name_byte}
use Rattle.wb_lemmas.proofs.Booleans.{and_left, and_right}
use Rattle.wb_lemmas.proofs.Digits.{pass_digits}
use Rattle.wb_text_tokens.specs.Spelling.{is_plain, escaped_byte, IsInteger, IsStringPart, IsStringBody, IsRegexPart, IsRegexBody, Spells}
use Rattle.wb_text_tokens.specs.Words.{punctuation_text}
use Rattle.wb_text_tokens.specs.contracts.punctuation.Punctuation as marks
use Rattle.wb_text_tokens.specs.declared.token.Dialect.{Dialect}
use Rattle.wb_text_tokens.specs.declared.token.Token.{Token}
use Rattle.wb_text_tokens.specs.declared.token.Token.TheVariants as t
use Rattle.wb_text_tokens.specs.declared.punctuation.Punctuation.TheVariants as p
use Rattle.wb_text_tokens.proofs.Enumerations.{each_value}
use Rattle.wb_text_tokens.proofs.FirstByteLemmas.{name_bytes}
use Rattle.wb_text_tokens.proofs.StandingLemmas.{Ends}

-- a byte other than a line feed
abbrev is_other : ℕ → Bool
is_other b = not (eqb b 10)

-- bytes without a line feed
abbrev pub IsOneLine : List ℕ → Type 0
IsOneLine x = list_all is_other x ≡ true

-- two parts without a line feed have none together
both_lines : (x y : List ℕ) → IsOneLine x → IsOneLine y → IsOneLine (x ++ y)
both_lines x y h k = list_all-append is_other x y ∙ (ap (λ t. t && list_all is_other y) h ∙ k)

-- what is so for bytes, and not for a line feed, is so for other bytes
other_if : (b : ℕ) → (b ≡ 10 → ⊥) → is_other b ≡ true
other_if b h = by_test (eqb b 10) refl
  where
    by_test : (t : Bool) → eqb b 10 ≡ t → not t ≡ true
    by_test true e = absurd (h (eqb-true b 10 e))
    by_test false e = refl

-- a byte that passes a test that a line feed doesn't pass
tested : (test : ℕ → Bool) → test 10 ≡ false → (b : ℕ) → test b ≡ true → is_other b ≡ true
tested test f b h = other_if b (λ e. let i = sym f ∙ (ap test (sym e) ∙ h) in absurd (cc))

-- a byte that stands for another, where a line feed doesn't
mapped : (f : ℕ → Option ℕ) → f 10 ≡ None → (b c : ℕ) → f b ≡ Some c → is_other b ≡ true
mapped f n b c h = other_if b (λ e. let i = sym n ∙ (ap f (sym e) ∙ h) in absurd (cc))

-- bytes that pass such a test
all_tested : (test : ℕ → Bool) → test 10 ≡ false → (x : List ℕ) → list_all test x ≡ true → IsOneLine x
all_tested test f [] h = refl
all_tested test f (b ∷ x) h =
    ap (λ t. t && list_all is_other x) (tested test f b (and_left (test b) (list_all test x) h))
    ∙ all_tested test f x (and_right (test b) (list_all test x) h)

-- one byte
one_byte : (b : ℕ) → is_other b ≡ true → IsOneLine (b ∷ [])
one_byte b h = ap (λ t. t && true) h

-- a part of a string
string_part_line : (part : List ℕ) (b : ℕ) → IsStringPart part b → IsOneLine part
string_part_line part b (IsStringPart.plain h e) = subst IsOneLine (sym e) (one_byte b (tested is_plain refl b h))
string_part_line part b (IsStringPart.escaped {e = c} h e) = subst IsOneLine (sym e) (one_byte c (mapped escaped_byte refl c b h))
string_part_line part b (IsStringPart.hexadecimal {h = h} {l = l} {m = m} {n = n} i j q e) =
    subst IsOneLine (sym e) (both_lines (h ∷ []) (l ∷ []) (one_byte h (mapped hex_value refl h m i))
    (one_byte l (mapped hex_value refl l n j)))

-- what is between the quotes of a string
string_line : (body text : List ℕ) → IsStringBody body text → IsOneLine body
string_line body text (IsStringBody.none e f) = subst IsOneLine (sym e) refl
string_line body text (IsStringBody.next {part = part} {x = x} {text = rest} {b = b} h r e f) =
    subst IsOneLine (sym e) (both_lines part x (string_part_line part b h) (string_line x rest r))

-- a part of a regular expression
regex_part_line : (part : List ℕ) → IsRegexPart part → IsOneLine part
regex_part_line part (IsRegexPart.plain {b = b} h e) =
    subst IsOneLine (sym e) (one_byte b (tested (λ c. not (eqb c 47 || eqb c 92 || eqb c 10)) refl b (ap not h)))
regex_part_line part (IsRegexPart.escaped {b = b} h e) = subst IsOneLine (sym e) (one_byte b (ap not h))

-- what is between its slashes
regex_line : (body : List ℕ) → IsRegexBody body → IsOneLine body
regex_line body (IsRegexBody.none e) = subst IsOneLine (sym e) refl
regex_line body (IsRegexBody.next {part = part} {x = x} h r e) =
    subst IsOneLine (sym e) (both_lines part x (regex_part_line part h) (regex_line x r))

-- no token has a line feed
pub one_line : (dialect : Dialect) (token : Token) (x : List ℕ) → Spells dialect token x → IsOneLine x
one_line dialect (t.Name text) x s = all_tested is_name_byte refl x (name_bytes dialect (t.Name text) x s refl)
one_line dialect (t.Word word) x s = all_tested is_name_byte refl x (name_bytes dialect (t.Word word) x s refl)
one_line dialect (t.Int value) x (IsInteger.positive n e) = all_tested is_ascii_digit refl x (pass_digits x n.1)
one_line dialect (t.Int value) x (IsInteger.negative {y = y} n e f) =
    subst IsOneLine (sym e) (all_tested is_ascii_digit refl y (pass_digits y n.1))
one_line dialect (t.Text text) x s = subst IsOneLine (sym s.quoted) (both_lines s.body (34 ∷ []) (string_line s.body text s.stands) refl)
one_line dialect (t.Regex body) x s = subst IsOneLine (sym s.0) (both_lines body (47 ∷ []) (regex_line body s.2) refl)
one_line dialect (t.Punctuation mark) x s =
    subst IsOneLine (sym s) (each_value marks.enum (λ m. list_all is_other (punctuation_text m)) refl mark)

-- so none goes over a line feed
pub crosses_none : (dialect : Dialect) (text : List ℕ) (token : Token) (at end place : ℕ) → Spells dialect token (slice_range text at end) → end ≤ length text
    → at ≤ place → place < end → get_or text place 0 ≢ 10
crosses_none dialect text token at end place s within low high e =
    let x = take (end - at) (drop at text) in
    let k = place - at in
    let here : get_or x k 0 ≡ get_or text place 0 =
    get_or-take (end - at) (drop at text) k 0 (omega arith) ∙ (get_or-drop at text k 0 ∙ ap (λ i. get_or text i 0) (omega arith)) in
    let inside : k < length x = omega (arith, length-take (end - at) (drop at text), length-drop at text) in
    let fails = list_all_at is_other x k 0 inside (ap is_other (here ∙ e)) in
    let all = one_line dialect token x s in
    absurd (cc)

-- and a token isn't gone on by one
pub ends_line : (token : Token) (rest : List ℕ) → Ends token (10 ∷ rest)
ends_line (t.Name text) rest = refl
ends_line (t.Word word) rest = refl
ends_line (t.Int value) rest = refl
ends_line (t.Text text) rest = tt
ends_line (t.Regex body) rest = tt
ends_line (t.Punctuation p.Semicolon) rest = tt
ends_line (t.Punctuation p.Colon) rest = refl
ends_line (t.Punctuation p.Becomes) rest = tt
ends_line (t.Punctuation p.OpenBrace) rest = tt
ends_line (t.Punctuation p.CloseBrace) rest = tt
ends_line (t.Punctuation p.Equals) rest = tt
ends_line (t.Punctuation p.Dot) rest = tt
ends_line (t.Punctuation p.Comma) rest = tt
ends_line (t.Punctuation p.OpenParenthesis) rest = tt
ends_line (t.Punctuation p.CloseParenthesis) rest = tt
ends_line (t.Punctuation p.At) rest = tt
