-- The body of a string as it is decoded part by part, and the string with its quotes.
use Rattle.std.proofs.Common.{◌≡◌, ◌≢◌, ◌<◌, ℕ, List, [], ◌∷◌, ◌++◌, length, length-append, refl, sym, ap, ◌∙◌, subst, arith}
use Rattle.wb_lemmas.proofs.Parts.{append_assoc}
use Rattle.wb_text_parts.specs.Parts.{Both, Exactly, IsStop}
use Rattle.wb_text_parts.proofs.StopLemmas.{append_none, stop_after, stop_first, stop_same}
use Rattle.wb_text_tokens.specs.Spelling.{IsString, IsStringBody, IsStringPart}
use Rattle.wb_session_edits.specs.Inner.Strings.{BeginsPart, BeginsString, HasDecoded, Strings, Tails}
use Rattle.wb_session_edits.specs.Inner.Progress.{HaltsIn}
use Rattle.wb_session_edits.specs.declared.line.Halt.{Halt}
use Rattle.wb_session_edits.specs.declared.line.Halt.TheVariants.{At, NoMemory}
use Rattle.wb_session_edits.proofs.StringLemmas.{digits_some, escape_some, quote, second_some, tail_less, tail_more, tail_some}

-- one part more of a body
pub body_more : {u t p : List ℕ} {b : ℕ} → IsStringBody u t → IsStringPart p b → IsStringBody (u ++ p) (t ++ b ∷ [])
body_more {p = p} {b = b} (IsStringBody.none e f) part =
    IsStringBody.next part (IsStringBody.none refl refl) (ap (λ z. z ++ p) e ∙ sym (append_none p)) (ap (λ z. z ++ b ∷ []) f)
body_more {p = p} {b = b} (IsStringBody.next {part = q} {x = x} {text = text} {b = c} first body e f) part =
    IsStringBody.next first (body_more body part) (ap (λ z. z ++ p) e ∙ append_assoc q x p) (ap (λ z. z ++ b ∷ []) f)

-- a stop after some of the body
stop_after_part : (p text rest : List ℕ) (b : ℕ) → IsStringPart p b → IsStop Tails text rest → IsStop Tails (p ++ text) rest
stop_after_part p text rest b part s = cases p b part (stop_same (λ l. tail_more p l b part) (λ l. tail_less p l b part) s) where
  cases : (p : List ℕ) (b : ℕ) → IsStringPart p b → IsStop (λ l. Tails (p ++ l)) text rest → IsStop Tails (p ++ text) rest
  cases p b (IsStringPart.plain h e) s =
      subst (λ z. IsStop Tails (z ++ text) rest) (sym e)
      (stop_after b tail_some (subst (λ z. IsStop (λ l. Tails (z ++ l)) text rest) e s))
  cases p b (IsStringPart.escaped {e = d} h e) s =
      subst (λ z. IsStop Tails (z ++ text) rest) (sym e)
      (stop_after 92 tail_some (stop_after d escape_some (subst (λ z. IsStop (λ l. Tails (z ++ l)) text rest) e s)))
  cases p b (IsStringPart.hexadecimal {h = d} {l = k} i j g e) s =
      subst (λ z. IsStop Tails (z ++ text) rest) (sym e)
      (stop_after 92 tail_some (stop_after 120 escape_some (stop_after d digits_some (stop_after k (second_some d)
      (subst (λ z. IsStop (λ l. Tails (z ++ l)) text rest) e s)))))

stop_after_body : {u t : List ℕ} (text rest : List ℕ) → IsStringBody u t → IsStop Tails text rest → IsStop Tails (u ++ text) rest
stop_after_body text rest (IsStringBody.none e f) s = subst (λ z. IsStop Tails (z ++ text) rest) (sym e) s
stop_after_body text rest (IsStringBody.next {part = p} {x = x} {b = b} part body e f) s =
    subst (λ z. IsStop Tails z rest) (sym (ap (λ z. z ++ text) e ∙ append_assoc p x text))
    (stop_after_part p (x ++ text) rest b part (stop_after_body text rest body s))

pub decoded_stop : (whole text value rest : List ℕ) → HasDecoded whole text value → IsStop Tails text rest → IsStop Tails whole rest
decoded_stop whole text value rest (body, stands, is) s = subst (λ z. IsStop Tails z rest) (sym is) (stop_after_body text rest stands s)

pub decoded_none : (text value : List ℕ) → value ≡ [] → HasDecoded text text value
decoded_none text value none = ([], IsStringBody.none refl none, refl)

pub decoded_more : (whole text after value : List ℕ) (b : ℕ) → HasDecoded whole text value → BeginsPart [] text b after →
    HasDecoded whole after (value ++ b ∷ [])
decoded_more whole text after value b (body, stands, is) (part, is_part, e) =
    (body ++ part, body_more stands is_part, is ∙ (ap (λ z. body ++ z) e ∙ sym (append_assoc body part after)))

pub part_shorter : (text after : List ℕ) (b : ℕ) → BeginsPart [] text b after → length after < length text
part_shorter text after b (part, is_part, is) = cases part is_part is where
  longer : (p l : List ℕ) → text ≡ p ++ l → 0 < length p → length l < length text
  longer p l e some = let long = ap length e in let sum = length-append p l in omega (arith, long, sum, some)

  cases : (p : List ℕ) → IsStringPart p b → text ≡ p ++ after → length after < length text
  cases p (IsStringPart.plain h e) is = longer p after is (subst (λ z. 0 < length z) (sym e) (omega arith))
  cases p (IsStringPart.escaped h e) is = longer p after is (subst (λ z. 0 < length z) (sym e) (omega arith))
  cases p (IsStringPart.hexadecimal i j g e) is = longer p after is (subst (λ z. 0 < length z) (sym e) (omega arith))

-- strings with their quotes
strings_some : ¬ Strings []
strings_some (value, s) = let is : [] ≡ 34 ∷ (s.body ++ 34 ∷ []) = s.quoted in absurd (cc)

pub two_quotes : Strings (34 ∷ 34 ∷ [])
two_quotes = ([], record { body = []; stands = IsStringBody.none refl refl; quoted = refl })

string_parts : (l : List ℕ) → Both (Exactly (34 ∷ [])) Tails l → Strings l
string_parts l (a, b, one, (body, value, stands, is), e) =
    (value, record { body = body; stands = stands; quoted = e ∙ (ap (λ z. z ++ b) one ∙ ap (λ z. 34 ∷ z) is) })

parts_string : (l : List ℕ) → Strings l → Both (Exactly (34 ∷ [])) Tails l
parts_string l (value, s) = (34 ∷ [], s.body ++ 34 ∷ [], refl, (s.body, value, s.stands, refl), s.quoted)

pub quote_stopped : (text rest : List ℕ) → IsStop (Exactly (34 ∷ [])) text rest → IsStop Strings text rest
quote_stopped text rest s = stop_same string_parts parts_string (stop_first s (34 ∷ []) quote)

string_there : (l : List ℕ) → Tails l → Strings (34 ∷ l)
string_there l (body, value, stands, is) = (value, record { body = body; stands = stands; quoted = ap (λ z. 34 ∷ z) is })

string_back : (l : List ℕ) → Strings (34 ∷ l) → Tails l
string_back l (value, s) =
    let whole : 34 ∷ l ≡ 34 ∷ (s.body ++ 34 ∷ []) = s.quoted in
    let is : l ≡ s.body ++ 34 ∷ [] = cc in
    (s.body, value, s.stands, is)

pub tail_stopped : (text after rest : List ℕ) → text ≡ 34 ∷ after → IsStop Tails after rest → IsStop Strings text rest
tail_stopped text after rest is s =
    subst (λ z. IsStop Strings z rest) (sym is) (stop_after 34 strings_some (stop_same string_there string_back s))

pub tail_halts : (text after : List ℕ) (halt : Halt) → text ≡ 34 ∷ after → HaltsIn Tails after halt → HaltsIn Strings text halt
tail_halts text after (At rest) is s = tail_stopped text after rest.now is s
tail_halts text after (NoMemory error) is s = tt

pub string_read : (text tail after value : List ℕ) → text ≡ 34 ∷ tail → HasDecoded tail (34 ∷ after) value → BeginsString text value after
string_read text tail after value is (body, stands, e) = (
  34 ∷ (body ++ 34 ∷ []),
  record { body = body; stands = stands; quoted = refl },
  is ∙ (ap (λ z. 34 ∷ z) e ∙ ap (λ z. 34 ∷ z) (sym (append_assoc body (34 ∷ []) after))),
)
