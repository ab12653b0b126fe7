-- What stands for one byte in a string: where it is read, and where no string goes on.
use Rattle.std.proofs.Common.{◌≡◌, ◌≢◌, ◌+◌, ◌*◌, ℕ, List, [], ◌∷◌, ◌++◌, Option, Some, None, Bool, true, false, eqb, ◌||◌, not}
use Rattle.std.proofs.Common.{◌<◌, length, length-append, refl, sym, ap, ◌∙◌, subst, inl, inr, arith}
use Rattle.std.proofs.lemmas.Bool.{eqb-true}
use Rattle.wb_base.specs.Decimal.{hex_value}
use Rattle.wb_lemmas.proofs.Parts.{append_assoc}
use Rattle.wb_text_parts.specs.Parts.{IsStop}
use Rattle.wb_text_parts.proofs.StopLemmas.{append_none, stop_after, stop_here, stop_same}
use Rattle.wb_text_tokens.specs.Spelling.{escaped_byte, is_plain, IsString, IsStringBody, IsStringPart}
use Rattle.wb_session_edits.specs.Inner.Strings.{BeginsPart, BeginsString, HasDecoded, Strings, Tails, TailsAfter}
use Rattle.wb_session_edits.proofs.StringLemmas.{digits, digits_some, escape_some, escapes, heads, not_plain, part_no_quote, quote, second_some}
use Rattle.wb_session_edits.proofs.StringLemmas.{cut, tail_less, tail_more, tail_some}

-- a first byte with which no tail begins
no_tail : (l : List ℕ) → ¬ Tails (10 ∷ l)
no_tail l tail = elim (cut (10 ∷ l) tail) [
  | inl is ↦ (let head = heads 10 34 is in omega (arith, head))
  | inr (p, m, b, part, more, is) ↦ cases p m b part is
]
  where
    cases : (p m : List ℕ) (b : ℕ) → IsStringPart p b → 10 ∷ l ≡ p ++ m → ⊥
    cases p m b (IsStringPart.plain h e) is =
        let whole : 10 ∷ l ≡ b ∷ m = is ∙ ap (λ z. z ++ m) e in let head : b ≡ 10 = cc in not_plain b 10 refl h head
    cases p m b (IsStringPart.escaped {e = d} h e) is =
        let whole : 10 ∷ l ≡ 92 ∷ d ∷ m = is ∙ ap (λ z. z ++ m) e in let head = heads 10 92 whole in omega (arith, head)
    cases p m b (IsStringPart.hexadecimal {h = d} {l = k} i j g e) is =
        let whole : 10 ∷ l ≡ 92 ∷ 120 ∷ d ∷ k ∷ m = is ∙ ap (λ z. z ++ m) e in let head = heads 10 92 whole in omega (arith, head)

-- at the end of the text
nothing : (text : List ℕ) → text ≡ [] → (b : ℕ) (after : List ℕ) → text ≡ b ∷ after → ⊥
nothing text none b after is = cc

pub part_none : (text : List ℕ) → text ≡ [] → IsStop Tails text text
part_none text none = stop_here text (34 ∷ []) quote (λ b after tail is. absurd (nothing text none b after is)) tail_some

pub part_line_end : (text after : List ℕ) (byte : ℕ) → text ≡ byte ∷ after → byte ≡ 10 → IsStop Tails text text
part_line_end text after byte is ten =
    stop_here text (34 ∷ []) quote
    (λ b more tail there t. (let same : b ≡ 10 = cc in no_tail tail (subst (λ z. Tails (z ∷ tail)) same t))) tail_some

-- an escape
pub part_escape_read : (text after next : List ℕ) (byte stands : ℕ) → text ≡ byte ∷ after → byte ≡ 92 →
    BeginsPart (92 ∷ []) after stands next → BeginsPart [] text stands next
part_escape_read text after next byte stands is same (part, is_part, e) =
    (92 ∷ part, is_part, is ∙ (ap (λ z. z ∷ after) same ∙ ap (λ z. 92 ∷ z) e))

pub part_escape_stopped : (text after rest : List ℕ) (byte : ℕ) → text ≡ byte ∷ after → byte ≡ 92 →
    IsStop (TailsAfter (92 ∷ [])) after rest → IsStop Tails text rest
part_escape_stopped text after rest byte is same s =
    subst (λ z. IsStop Tails z rest) (sym (is ∙ ap (λ z. z ∷ after) same)) (stop_after 92 tail_some s)

-- a byte that stands for itself
plain_byte : (byte : ℕ) → byte ≢ 34 → byte ≢ 92 → byte ≢ 10 → is_plain byte ≡ true
plain_byte byte one two three = test (eqb byte 34) (eqb byte 92) (eqb byte 10) refl refl refl where
  test : (s t u : Bool) → eqb byte 34 ≡ s → eqb byte 92 ≡ t → eqb byte 10 ≡ u → not (eqb byte 34 || eqb byte 92 || eqb byte 10) ≡ true
  test true t u e f g = absurd (one (eqb-true byte 34 e))
  test false true u e f g = absurd (two (eqb-true byte 92 f))
  test false false true e f g = absurd (three (eqb-true byte 10 g))
  test false false false e f g = ap (λ z. not (z || eqb byte 92 || eqb byte 10)) e ∙ (ap (λ z. not (false || z || eqb byte 10)) f ∙ ap (λ z. not (false || false || z)) g)

pub part_plain : (text after : List ℕ) (byte : ℕ) → text ≡ byte ∷ after → byte ≢ 92 → byte ≢ 10 →
    ((more : List ℕ) → text ≢ 34 ∷ more) → BeginsPart [] text byte after
part_plain text after byte is no_escape no_end no_quote =
    (byte ∷ [], IsStringPart.plain (plain_byte byte (λ same. no_quote after (is ∙ ap (λ z. z ∷ after) same)) no_escape no_end) refl, is)

-- after a backslash
escaped_quote : Tails (92 ∷ 110 ∷ 34 ∷ [])
escaped_quote = tail_more (92 ∷ 110 ∷ []) (34 ∷ []) 10 (IsStringPart.escaped {e = 110} refl refl) quote

pub escape_none : (text : List ℕ) → text ≡ [] → IsStop (TailsAfter (92 ∷ [])) text text
escape_none text none =
    stop_here text (110 ∷ 34 ∷ []) escaped_quote (λ b after tail is. absurd (nothing text none b after is)) escape_some

pub escape_unknown : (text after : List ℕ) (byte : ℕ) → text ≡ byte ∷ after → byte ≢ 120 → escaped_byte byte ≡ None →
    IsStop (TailsAfter (92 ∷ [])) text text
escape_unknown text after byte is no_digits no_escape =
    stop_here text (110 ∷ 34 ∷ []) escaped_quote (λ b more tail there t. (let same : b ≡ byte = cc in none b tail same t)) escape_some
  where
    none : (b : ℕ) (tail : List ℕ) → b ≡ byte → Tails (92 ∷ b ∷ tail) → ⊥
    none b tail same t = elim (escapes (b ∷ tail) t) [
      | inl (e, c, m, known, is) ↦
          (let head : e ≡ byte = cc in
          let f : Some c ≡ None = sym known ∙ (ap escaped_byte head ∙ no_escape) in
          absurd (cc))
      | inr (h, k, u, v, m, i, j, is) ↦ (let head : byte ≡ 120 = cc in no_digits head)
    ]

pub escape_known : (text after : List ℕ) (byte stands : ℕ) → text ≡ byte ∷ after → escaped_byte byte ≡ Some stands →
    BeginsPart (92 ∷ []) text stands after
escape_known text after byte stands is known = (byte ∷ [], IsStringPart.escaped known refl, is)

pub hexadecimal_read : (text after next : List ℕ) (byte stands : ℕ) → text ≡ byte ∷ after → byte ≡ 120 →
    BeginsPart (92 ∷ 120 ∷ []) after stands next → BeginsPart (92 ∷ []) text stands next
hexadecimal_read text after next byte stands is same (part, is_part, e) =
    (120 ∷ part, is_part, is ∙ (ap (λ z. z ∷ after) same ∙ ap (λ z. 120 ∷ z) e))

pub hexadecimal_stopped : (text after rest : List ℕ) (byte : ℕ) → text ≡ byte ∷ after → byte ≡ 120 →
    IsStop (TailsAfter (92 ∷ 120 ∷ [])) after rest → IsStop (TailsAfter (92 ∷ [])) text rest
hexadecimal_stopped text after rest byte is same s =
    subst (λ z. IsStop (TailsAfter (92 ∷ [])) z rest) (sym (is ∙ ap (λ z. z ∷ after) same)) (stop_after 120 escape_some s)

-- after `\x`
zero_byte : (d m : ℕ) → hex_value d ≡ Some m → Tails (92 ∷ 120 ∷ d ∷ 48 ∷ 34 ∷ [])
zero_byte d m is = tail_more (92 ∷ 120 ∷ d ∷ 48 ∷ []) (34 ∷ []) (16 * m + 0) (IsStringPart.hexadecimal {m = m} {n = 0} is refl refl refl) quote

pub high_none : (text : List ℕ) → text ≡ [] → IsStop (TailsAfter (92 ∷ 120 ∷ [])) text text
high_none text none =
    stop_here text (48 ∷ 48 ∷ 34 ∷ []) (zero_byte 48 0 refl) (λ b after tail is. absurd (nothing text none b after is)) digits_some

pub high_unknown : (text after : List ℕ) (digit : ℕ) → text ≡ digit ∷ after → hex_value digit ≡ None →
    IsStop (TailsAfter (92 ∷ 120 ∷ [])) text text
high_unknown text after digit is unknown =
    stop_here text (48 ∷ 48 ∷ 34 ∷ []) (zero_byte 48 0 refl)
    (λ b more tail there t. (let same : b ≡ digit = cc in none b tail same t)) digits_some
  where
    none : (b : ℕ) (tail : List ℕ) → b ≡ digit → Tails (92 ∷ 120 ∷ b ∷ tail) → ⊥
    none b tail same t =
        let (h, k, u, v, m, i, j, is) = digits (b ∷ tail) t in
        let head : h ≡ digit = cc in
        let f : Some u ≡ None = sym i ∙ (ap hex_value head ∙ unknown) in
        absurd (cc)

pub low_read : (text after next : List ℕ) (digit stands : ℕ) → text ≡ digit ∷ after →
    BeginsPart (92 ∷ 120 ∷ digit ∷ []) after stands next → BeginsPart (92 ∷ 120 ∷ []) text stands next
low_read text after next digit stands is (part, is_part, e) = (digit ∷ part, is_part, is ∙ ap (λ z. digit ∷ z) e)

pub low_stopped : (text after rest : List ℕ) (digit : ℕ) → text ≡ digit ∷ after →
    IsStop (TailsAfter (92 ∷ 120 ∷ digit ∷ [])) after rest → IsStop (TailsAfter (92 ∷ 120 ∷ [])) text rest
low_stopped text after rest digit is s =
    subst (λ z. IsStop (TailsAfter (92 ∷ 120 ∷ [])) z rest) (sym is) (stop_after digit digits_some s)

-- after `\x` and a digit
pub second_none : (text : List ℕ) (d high : ℕ) → hex_value d ≡ Some high → text ≡ [] → IsStop (TailsAfter (92 ∷ 120 ∷ d ∷ [])) text text
second_none text d high value none =
    stop_here text (48 ∷ 34 ∷ []) (zero_byte d high value) (λ b after tail is. absurd (nothing text none b after is)) (second_some d)

pub second_unknown : (text after : List ℕ) (d high digit : ℕ) → hex_value d ≡ Some high → text ≡ digit ∷ after → hex_value digit ≡ None →
    IsStop (TailsAfter (92 ∷ 120 ∷ d ∷ [])) text text
second_unknown text after d high digit value is unknown =
    stop_here text (48 ∷ 34 ∷ []) (zero_byte d high value)
    (λ b more tail there t. (let same : b ≡ digit = cc in none b tail same t)) (second_some d)
  where
    none : (b : ℕ) (tail : List ℕ) → b ≡ digit → Tails (92 ∷ 120 ∷ d ∷ b ∷ tail) → ⊥
    none b tail same t =
        let (h, k, u, v, m, i, j, is) = digits (d ∷ b ∷ tail) t in
        let head : k ≡ digit = cc in
        let f : Some v ≡ None = sym j ∙ (ap hex_value head ∙ unknown) in
        absurd (cc)

pub second_known : (text after : List ℕ) (d high digit low : ℕ) → hex_value d ≡ Some high → text ≡ digit ∷ after →
    hex_value digit ≡ Some low → BeginsPart (92 ∷ 120 ∷ d ∷ []) text (16 * high + low) after
second_known text after d high digit low value is known = (digit ∷ [], IsStringPart.hexadecimal value known refl refl, is)
