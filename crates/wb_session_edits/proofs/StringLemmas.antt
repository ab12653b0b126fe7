-- Strings: where they are read, and where they stop.
use Rattle.std.proofs.Common.{◌≡◌, ◌≢◌, ◌+◌, ◌*◌, ◌⊎◌, ℕ, List, [], ◌∷◌, ◌++◌, Option, Some, None, Bool, true, false, eqb}
use Rattle.std.proofs.Common.{refl, sym, ap, ◌∙◌, subst, inl, inr, arith, drop}
use Rattle.std.proofs.lemmas.Bool.{cases_Bool, eqb-true}
use Rattle.wb_base.specs.Decimal.{hex_value}
use Rattle.wb_lemmas.proofs.Parts.{append_assoc}
use Rattle.wb_text_parts.specs.Parts.{IsPrefixFree, IsStop}
use Rattle.wb_text_parts.proofs.StopLemmas.{append_none, stop_after, stop_here, stop_same}
use Rattle.wb_text_tokens.specs.Spelling.{escaped_byte, is_plain, IsString, IsStringBody, IsStringPart}
use Rattle.wb_session_edits.specs.Inner.Strings.{BeginsPart, BeginsString, HasDecoded, Strings, Tails, TailsAfter}

-- no quote and no LF is plain, and no backslash
pub not_plain : (b c : ℕ) → is_plain c ≡ false → is_plain b ≡ true → b ≢ c
not_plain b c other is same = let f : true ≡ false = sym is ∙ (ap is_plain same ∙ other) in absurd (cc)

not_escaped : (e b : ℕ) → escaped_byte e ≡ Some b → e ≢ 120
not_escaped e b is same = let f : Some b ≡ escaped_byte 120 = sym is ∙ ap escaped_byte same in absurd (cc)

-- the first bytes of one text
pub heads : {x y : List ℕ} (a b : ℕ) → a ∷ x ≡ b ∷ y → a ≡ b
heads a b is = cc

-- one part is at the beginning
pub parts_same : (p q l m : List ℕ) (b c : ℕ) → IsStringPart p b → IsStringPart q c → p ++ l ≡ q ++ m → (p ≡ q) × (b ≡ c) × (l ≡ m)
parts_same p q l m b c (IsStringPart.plain h e) (IsStringPart.plain h' e') is =
    let whole : b ∷ l ≡ c ∷ m = ap (λ z. z ++ l) (sym e) ∙ (is ∙ ap (λ z. z ++ m) e') in
    let head : b ≡ c = cc in
    let tail : l ≡ m = cc in
    (e ∙ (ap (λ z. z ∷ []) head ∙ sym e'), head, tail)
parts_same p q l m b c (IsStringPart.plain h e) (IsStringPart.escaped {e = d} h' e') is =
    let whole : b ∷ l ≡ 92 ∷ d ∷ m = ap (λ z. z ++ l) (sym e) ∙ (is ∙ ap (λ z. z ++ m) e') in
    let head : b ≡ 92 = cc in
    absurd (not_plain b 92 refl h head)
parts_same p q l m b c (IsStringPart.plain h e) (IsStringPart.hexadecimal {h = d} {l = k} i j g e') is =
    let whole : b ∷ l ≡ 92 ∷ 120 ∷ d ∷ k ∷ m = ap (λ z. z ++ l) (sym e) ∙ (is ∙ ap (λ z. z ++ m) e') in
    let head : b ≡ 92 = cc in
    absurd (not_plain b 92 refl h head)
parts_same p q l m b c (IsStringPart.escaped {e = d} h e) (IsStringPart.plain h' e') is =
    let whole : 92 ∷ d ∷ l ≡ c ∷ m = ap (λ z. z ++ l) (sym e) ∙ (is ∙ ap (λ z. z ++ m) e') in
    let head : c ≡ 92 = cc in
    absurd (not_plain c 92 refl h' head)
parts_same p q l m b c (IsStringPart.escaped {e = d} h e) (IsStringPart.escaped {e = f} h' e') is =
    let whole : 92 ∷ d ∷ l ≡ 92 ∷ f ∷ m = ap (λ z. z ++ l) (sym e) ∙ (is ∙ ap (λ z. z ++ m) e') in
    let same : d ≡ f = cc in
    let tail : l ≡ m = cc in
    let value : Some b ≡ Some c = sym h ∙ (ap escaped_byte same ∙ h') in
    let one : b ≡ c = cc in
    (e ∙ (ap (λ z. 92 ∷ z ∷ []) same ∙ sym e'), one, tail)
parts_same p q l m b c (IsStringPart.escaped {e = d} h e) (IsStringPart.hexadecimal {h = f} {l = k} i j g e') is =
    let whole : 92 ∷ d ∷ l ≡ 92 ∷ 120 ∷ f ∷ k ∷ m = ap (λ z. z ++ l) (sym e) ∙ (is ∙ ap (λ z. z ++ m) e') in
    let same : d ≡ 120 = cc in
    absurd (not_escaped d b h same)
parts_same p q l m b c (IsStringPart.hexadecimal {h = d} {l = k} i j g e) (IsStringPart.plain h' e') is =
    let whole : 92 ∷ 120 ∷ d ∷ k ∷ l ≡ c ∷ m = ap (λ z. z ++ l) (sym e) ∙ (is ∙ ap (λ z. z ++ m) e') in
    let head : c ≡ 92 = cc in
    absurd (not_plain c 92 refl h' head)
parts_same p q l m b c (IsStringPart.hexadecimal {h = d} {l = k} i j g e) (IsStringPart.escaped {e = f} h' e') is =
    let whole : 92 ∷ 120 ∷ d ∷ k ∷ l ≡ 92 ∷ f ∷ m = ap (λ z. z ++ l) (sym e) ∙ (is ∙ ap (λ z. z ++ m) e') in
    let same : f ≡ 120 = cc in
    absurd (not_escaped f c h' same)
parts_same p q l m b c (IsStringPart.hexadecimal {h = d} {l = k} {m = u} {n = v} i j g e)
    (IsStringPart.hexadecimal {h = d'} {l = k'} {m = u'} {n = v'} i' j' g' e') is =
    let whole : 92 ∷ 120 ∷ d ∷ k ∷ l ≡ 92 ∷ 120 ∷ d' ∷ k' ∷ m = ap (λ z. z ++ l) (sym e) ∙ (is ∙ ap (λ z. z ++ m) e') in
    let high : d ≡ d' = cc in
    let low : k ≡ k' = cc in
    let tail : l ≡ m = cc in
    let high_value : Some u ≡ Some u' = sym i ∙ (ap hex_value high ∙ i') in
    let low_value : Some v ≡ Some v' = sym j ∙ (ap hex_value low ∙ j') in
    let one : u ≡ u' = cc in
    let two : v ≡ v' = cc in (
      e ∙ (ap (λ z. 92 ∷ 120 ∷ z ∷ k ∷ []) high ∙ (ap (λ z. 92 ∷ 120 ∷ d' ∷ z ∷ []) low ∙ sym e')),
      g ∙ (ap (λ z. 16 * z + v) one ∙ (ap (λ z. 16 * u' + z) two ∙ sym g')),
      tail,
    )

-- no part begins with a quote
pub part_no_quote : (p l m : List ℕ) (b : ℕ) → IsStringPart p b → 34 ∷ l ≡ p ++ m → ⊥
part_no_quote p l m b (IsStringPart.plain h e) is =
    let whole : 34 ∷ l ≡ b ∷ m = is ∙ ap (λ z. z ++ m) e in
    let head : b ≡ 34 = cc in
    not_plain b 34 refl h head
part_no_quote p l m b (IsStringPart.escaped {e = d} h e) is =
    let whole : 34 ∷ l ≡ 92 ∷ d ∷ m = is ∙ ap (λ z. z ++ m) e in
    let head = heads 34 92 whole in
    omega (arith, head)
part_no_quote p l m b (IsStringPart.hexadecimal {h = d} {l = k} i j g e) is =
    let whole : 34 ∷ l ≡ 92 ∷ 120 ∷ d ∷ k ∷ m = is ∙ ap (λ z. z ++ m) e in
    let head = heads 34 92 whole in
    omega (arith, head)

-- one body with its closing quote is at the beginning, and it has one value
pub bodies_same : {u w a c : List ℕ} (x y : List ℕ) → IsStringBody u a → IsStringBody w c → u ++ 34 ∷ x ≡ w ++ 34 ∷ y →
    (u ≡ w) × (a ≡ c) × (x ≡ y)
bodies_same x y (IsStringBody.none e f) (IsStringBody.none g h) is =
    let whole : 34 ∷ x ≡ 34 ∷ y = ap (λ z. z ++ 34 ∷ x) (sym e) ∙ (is ∙ ap (λ z. z ++ 34 ∷ y) g) in
    let tail : x ≡ y = cc in
    (e ∙ sym g, f ∙ sym h, tail)
bodies_same x y (IsStringBody.none e f) (IsStringBody.next {part = q} {x = v} {b = b} p body g h) is =
    absurd (part_no_quote q x (v ++ 34 ∷ y) b p
    (ap (λ z. z ++ 34 ∷ x) (sym e) ∙ (is ∙ (ap (λ z. z ++ 34 ∷ y) g ∙ append_assoc q v (34 ∷ y)))))
bodies_same x y (IsStringBody.next {part = q} {x = v} {b = b} p body g h) (IsStringBody.none e f) is =
    absurd (part_no_quote q y (v ++ 34 ∷ x) b p
    (ap (λ z. z ++ 34 ∷ y) (sym e) ∙ (sym is ∙ (ap (λ z. z ++ 34 ∷ x) g ∙ append_assoc q v (34 ∷ x)))))
bodies_same x y (IsStringBody.next {part = q} {x = v} {text = s} {b = b} p body e f)
    (IsStringBody.next {part = q'} {x = v'} {text = s'} {b = b'} p' body' g h) is =
    let whole : q ++ (v ++ 34 ∷ x) ≡ q' ++ (v' ++ 34 ∷ y) =
    sym (append_assoc q v (34 ∷ x)) ∙ (ap (λ z. z ++ 34 ∷ x) (sym e) ∙ (is ∙ (ap (λ z. z ++ 34 ∷ y) g ∙ append_assoc q' v' (34 ∷ y)))) in
    let first = parts_same q q' (v ++ 34 ∷ x) (v' ++ 34 ∷ y) b b' p p' whole in
    let more = bodies_same x y body body' first.2 in (
      e ∙ (ap (λ z. z ++ v) first.0 ∙ (ap (λ z. q' ++ z) more.0 ∙ sym g)),
      f ∙ (ap (λ z. z ∷ s) first.1 ∙ (ap (λ z. b' ∷ z) more.1 ∙ sym h)),
      more.2,
    )

-- one string is at the beginning, and it has one value
pub string_unique : (s t a c x y : List ℕ) → IsString s a → IsString t c → s ++ x ≡ t ++ y → (s ≡ t) × (a ≡ c) × (x ≡ y)
string_unique s t a c x y one two is =
    let front : 34 ∷ (one.body ++ 34 ∷ x) ≡ 34 ∷ (two.body ++ 34 ∷ y) =
    ap (λ z. 34 ∷ z) (sym (append_assoc one.body (34 ∷ []) x)) ∙ (ap (λ z. z ++ x) (sym one.quoted) ∙ (is
    ∙ (ap (λ z. z ++ y) two.quoted ∙ ap (λ z. 34 ∷ z) (append_assoc two.body (34 ∷ []) y)))) in
    let whole : one.body ++ 34 ∷ x ≡ two.body ++ 34 ∷ y = cc in
    let same = bodies_same x y one.stands two.stands whole in
    (one.quoted ∙ (ap (λ z. 34 ∷ (z ++ 34 ∷ [])) same.0 ∙ sym two.quoted), same.1, same.2)

pub strings_free : IsPrefixFree Strings
strings_free s t x y (a, one) (c, two) is = (string_unique s t a c x y one two is).0

-- a tail begins with its quote or with a part
pub cut : (l : List ℕ) → Tails l → (l ≡ 34 ∷ []) ⊎ ((p m : List ℕ) × (b : ℕ) × IsStringPart p b × Tails m × (l ≡ p ++ m))
cut l (body, value, IsStringBody.none e f, is) = inl (is ∙ ap (λ z. z ++ 34 ∷ []) e)
cut l (body, value, IsStringBody.next {part = p} {x = x} {text = text} {b = b} part stands e f, is) =
    inr (p, x ++ 34 ∷ [], b, part, (x, text, stands, refl), is ∙ (ap (λ z. z ++ 34 ∷ []) e ∙ append_assoc p x (34 ∷ [])))

-- a part more or less at the beginning
pub tail_more : (p l : List ℕ) (b : ℕ) → IsStringPart p b → Tails l → Tails (p ++ l)
tail_more p l b part (body, value, stands, is) =
    (p ++ body, b ∷ value, IsStringBody.next part stands refl refl, ap (λ z. p ++ z) is ∙ sym (append_assoc p body (34 ∷ [])))

pub tail_less : (p l : List ℕ) (b : ℕ) → IsStringPart p b → Tails (p ++ l) → Tails l
tail_less p l b part tail = elim (cut (p ++ l) tail) [
  | inl is ↦ absurd (part_no_quote p [] l b part (sym is))
  | inr (q, m, c, other, more, is) ↦ subst Tails (sym (parts_same p q l m b c part other is).2) more
]

pub tail_some : ¬ Tails []
tail_some (body, value, stands, is) = cases body is where
  cases : (l : List ℕ) → [] ≡ l ++ 34 ∷ [] → ⊥
  cases [] e = cc
  cases (x ∷ l) e = cc

pub quote : Tails (34 ∷ [])
quote = ([], [], IsStringBody.none refl refl, refl)

-- no tail ends after a backslash, or within what stands for a byte by its digits
pub escape_some : ¬ Tails (92 ∷ [])
escape_some tail = elim (cut (92 ∷ []) tail) [
  | inl is ↦ (let head = heads 92 34 is in omega (arith, head))
  | inr (p, m, b, part, more, is) ↦ cases p m b part is
]
  where
    cases : (p m : List ℕ) (b : ℕ) → IsStringPart p b → 92 ∷ [] ≡ p ++ m → ⊥
    cases p m b (IsStringPart.plain h e) is =
        let whole : 92 ∷ [] ≡ b ∷ m = is ∙ ap (λ z. z ++ m) e in let head : b ≡ 92 = cc in not_plain b 92 refl h head
    cases p m b (IsStringPart.escaped {e = d} h e) is = let whole : 92 ∷ [] ≡ 92 ∷ d ∷ m = is ∙ ap (λ z. z ++ m) e in absurd (cc)
    cases p m b (IsStringPart.hexadecimal {h = d} {l = k} i j g e) is =
        let whole : 92 ∷ [] ≡ 92 ∷ 120 ∷ d ∷ k ∷ m = is ∙ ap (λ z. z ++ m) e in absurd (cc)

-- what comes after a backslash: a byte that is an escape, or `x` with two digits
abbrev pub Escapes : List ℕ → Type 0
Escapes l =
    ((e b : ℕ) × (m : List ℕ) × (escaped_byte e ≡ Some b) × (l ≡ e ∷ m))
    ⊎ ((h k u v : ℕ) × (m : List ℕ) × (hex_value h ≡ Some u) × (hex_value k ≡ Some v) × (l ≡ 120 ∷ h ∷ k ∷ m))

pub escapes : (l : List ℕ) → Tails (92 ∷ l) → Escapes l
escapes l tail = elim (cut (92 ∷ l) tail) [
  | inl is ↦ (let head = heads 92 34 is in absurd (omega (arith, head)))
  | inr (p, m, b, part, more, is) ↦ cases p m b part is
]
  where
    cases : (p m : List ℕ) (b : ℕ) → IsStringPart p b → 92 ∷ l ≡ p ++ m → Escapes l
    cases p m b (IsStringPart.plain h e) is =
        let whole : 92 ∷ l ≡ b ∷ m = is ∙ ap (λ z. z ++ m) e in let head : b ≡ 92 = cc in absurd (not_plain b 92 refl h head)
    cases p m b (IsStringPart.escaped {e = d} h e) is =
        let whole : 92 ∷ l ≡ 92 ∷ d ∷ m = is ∙ ap (λ z. z ++ m) e in
        let tail : l ≡ d ∷ m = cc in
        inl (d, b, m, h, tail)
    cases p m b (IsStringPart.hexadecimal {h = d} {l = k} {m = u} {n = v} i j g e) is =
        let whole : 92 ∷ l ≡ 92 ∷ 120 ∷ d ∷ k ∷ m = is ∙ ap (λ z. z ++ m) e in
        let tail : l ≡ 120 ∷ d ∷ k ∷ m = cc in
        inr (d, k, u, v, m, i, j, tail)

-- after `\x`
pub digits : (l : List ℕ) → Tails (92 ∷ 120 ∷ l) → (h k u v : ℕ) × (m : List ℕ) × (hex_value h ≡ Some u) × (hex_value k ≡ Some v) × (l ≡ h ∷ k ∷ m)
digits l tail = elim (escapes (120 ∷ l) tail) [
  | inl (e, b, m, is, same) ↦ (let head : e ≡ 120 = cc in absurd (not_escaped e b is head))
  | inr (h, k, u, v, m, i, j, same) ↦ (let rest : l ≡ h ∷ k ∷ m = cc in (h, k, u, v, m, i, j, rest))
]

pub digits_some : ¬ Tails (92 ∷ 120 ∷ [])
digits_some tail = let (h, k, u, v, m, i, j, is) = digits [] tail in absurd (cc)

pub second_some : (d : ℕ) → ¬ Tails (92 ∷ 120 ∷ d ∷ [])
second_some d tail = let (h, k, u, v, m, i, j, is) = digits (d ∷ []) tail in absurd (cc)
